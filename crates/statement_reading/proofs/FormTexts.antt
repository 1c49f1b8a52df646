-- The forms that several statements have.
use Rattle.std.proofs.Common.{◌≡◌, ℕ, List, [], ◌∷◌, ◌++◌, get_or, refl, sym, ◌∙◌, ap, subst, arith, append_assoc, append-nil, codes}
use Rattle.grammar.specs.Language.{Language, Fixed, Refused}
use Rattle.sql_cells.specs.Literal.{text_literal}
use Rattle.sql_cells.specs.Name.{quoted_name}
use Rattle.statement_reading.specs.Readings.{TextOfSome, IsOnly}
use Rattle.statement_reading.specs.Slots.{HasParts, Place}
use Rattle.statement_reading.specs.Slots.Place.{word, part}
use Rattle.statement_forms.specs.Statement.{IsDigest}
use Rattle.statement_forms.specs.Text.{dotted}
use Rattle.statement_reading.specs.declared.reading.values.Path.{Path}
use Rattle.statement_reading.specs.declared.reading.kind.PartKind.TheVariants.{Name, TextLiteral, Digest}
use Rattle.statement_reading.proofs.Forms.{Form, part_is, form_entries, refused_same}
use Rattle.statement_reading.proofs.NameValues.{name_of, name_text, one_name}
use Rattle.statement_reading.proofs.Spelled.{spelled_is, has_spelled}
use Rattle.statement_reading.proofs.TextValues.{text_of, text_text, one_text, digest_of, digest_text}

-- one text

fixed_some : (w t : List ℕ) → Fixed w t → TextOfSome (λ (nothing : Unit {0}) t. t ≡ w) t
unfolding Fixed TextOfSome
fixed_some w t is = (tt, is)

some_fixed : (w t : List ℕ) → TextOfSome (λ (nothing : Unit {0}) t. t ≡ w) t → Fixed w t
unfolding Fixed TextOfSome
some_fixed w t (nothing, is) = is

pub fixed_refused : (w text : List ℕ) (p : ℕ) → Refused (Fixed w) text p → Refused (TextOfSome (λ (nothing : Unit {0}) t. t ≡ w)) text p
fixed_refused w text p refused = refused_same _ _ text p (fixed_some w) (some_fixed w) refused

pub fixed_only : (w text : List ℕ) → Fixed w text → IsOnly (λ (nothing : Unit {0}) t. t ≡ w) text tt
unfolding Fixed
fixed_only w text is = record { text_of = is; only = λ other there. refl }

-- a text that is kept whole

pub whole_refused : (L : Language) (text : List ℕ) (p : ℕ) → Refused L text p → Refused (TextOfSome (λ (whole : List ℕ) bytes. L whole × (bytes ≡ whole))) text p
unfolding TextOfSome
whole_refused L text p refused = refused_same L _ text p (λ t here. (t, (here, refl))) (λ t (whole, (here, is)). subst L (sym is) here) refused

-- a text literal between words

abbrev pub text_slots : List ℕ → List ℕ → List Place
text_slots w tail = word w ∷ part TextLiteral ∷ word tail ∷ []

three : (x y z : List ℕ) → x ++ y ++ z ≡ x ++ (y ++ (z ++ []))
three x y z = simp (append_assoc, append-nil)

pub text_form_is : (w tail : List ℕ) → Form (text_slots w tail) (λ (v : List ℕ) t. t ≡ w ++ text_literal v ++ tail) (λ v. Unit {0}) (λ v. text_literal v ∷ [])
text_form_is w tail = record {
  clear = refl;
  to = λ v t is. subst (HasParts (text_slots w tail) [] (text_literal v ∷ [])) (sym (is ∙ three w (text_literal v) tail)) (has_spelled (text_slots w tail) [] (text_literal v ∷ []) 0 refl (text_text v, tt) refl refl);
  good = λ v t is. tt;
  from = λ v t good has. spelled_is (text_slots w tail) [] (text_literal v ∷ []) t has ∙ sym (three w (text_literal v) tail);
  some = λ parts t has.
      let (v, is) = text_of (get_or parts 0 []) (part_is (text_slots w tail) [] parts t 0 has (omega arith)) in
      (v, tt, ap (λ x. x ∷ []) (sym is) ∙ form_entries (text_slots w tail) parts t has);
  single = λ u v gu gv e. one_text u v (cc);
}

-- two text literals among words

abbrev pub texts_slots : List ℕ → List ℕ → List ℕ → List Place
texts_slots w middle tail = word w ∷ part TextLiteral ∷ word middle ∷ part TextLiteral ∷ word tail ∷ []

five : (v w x y z : List ℕ) → v ++ w ++ x ++ y ++ z ≡ v ++ (w ++ (x ++ (y ++ (z ++ []))))
five v w x y z = simp (append_assoc, append-nil)

pub texts_form_is : (w middle tail : List ℕ) → Form (texts_slots w middle tail) (λ (v : Path) t. t ≡ w ++ text_literal v.schema ++ middle ++ text_literal v.name ++ tail) (λ v. Unit {0}) (λ v. text_literal v.schema ∷ text_literal v.name ∷ [])
texts_form_is w middle tail = record {
  clear = refl;
  to = λ v t is. subst (HasParts (texts_slots w middle tail) [] (text_literal v.schema ∷ text_literal v.name ∷ [])) (sym (is ∙ five w (text_literal v.schema) middle (text_literal v.name) tail))
      (has_spelled (texts_slots w middle tail) [] (text_literal v.schema ∷ text_literal v.name ∷ []) 0 refl (text_text v.schema, (text_text v.name, tt)) refl refl);
  good = λ v t is. tt;
  from = λ v t good has. spelled_is (texts_slots w middle tail) [] (text_literal v.schema ∷ text_literal v.name ∷ []) t has ∙ sym (five w (text_literal v.schema) middle (text_literal v.name) tail);
  some = λ parts t has.
      let (a, is) = text_of (get_or parts 0 []) (part_is (texts_slots w middle tail) [] parts t 0 has (omega arith)) in
      let (b, be) = text_of (get_or parts 1 []) (part_is (texts_slots w middle tail) [] parts t 1 has (omega arith)) in
      (record { schema = a; name = b }, tt, (λ i. sym is i ∷ sym be i ∷ []) ∙ form_entries (texts_slots w middle tail) parts t has);
  single = λ u v gu gv e. let schema = one_text u.schema v.schema (cc) in let name = one_text u.name v.name (cc) in (λ i. record { schema = schema i; name = name i });
}

-- a digest between words

abbrev pub digest_slots : List ℕ → List ℕ → List Place
digest_slots w tail = word w ∷ part Digest ∷ word tail ∷ []

pub digest_form_is : (w tail : List ℕ) → Form (digest_slots w tail) (λ (v : List ℕ) t. IsDigest v × (t ≡ w ++ v ++ tail)) IsDigest (λ v. v ∷ [])
digest_form_is w tail = record {
  clear = refl;
  to = λ v t is. subst (HasParts (digest_slots w tail) [] (v ∷ [])) (sym (is.1 ∙ three w v tail)) (has_spelled (digest_slots w tail) [] (v ∷ []) 0 refl (digest_text v is.0, tt) refl refl);
  good = λ v t is. is.0;
  from = λ v t good has. (good, spelled_is (digest_slots w tail) [] (v ∷ []) t has ∙ sym (three w v tail));
  some = λ parts t has. (get_or parts 0 [], digest_of (get_or parts 0 []) (part_is (digest_slots w tail) [] parts t 0 has (omega arith)), form_entries (digest_slots w tail) parts t has);
  single = λ u v gu gv e. cc;
}

-- a name after a word

abbrev pub name_slots : List ℕ → List Place
name_slots w = word w ∷ part Name ∷ []

two : (x y : List ℕ) → x ++ y ≡ x ++ (y ++ [])
two x y = simp append-nil

pub name_form_is : (w : List ℕ) → Form (name_slots w) (λ (v : List ℕ) t. t ≡ w ++ quoted_name v) (λ v. Unit {0}) (λ v. quoted_name v ∷ [])
name_form_is w = record {
  clear = refl;
  to = λ v t is. subst (HasParts (name_slots w) [] (quoted_name v ∷ [])) (sym (is ∙ two w (quoted_name v))) (has_spelled (name_slots w) [] (quoted_name v ∷ []) 0 refl (name_text v, tt) refl refl);
  good = λ v t is. tt;
  from = λ v t good has. spelled_is (name_slots w) [] (quoted_name v ∷ []) t has ∙ sym (two w (quoted_name v));
  some = λ parts t has.
      let (v, is) = name_of (get_or parts 0 []) (part_is (name_slots w) [] parts t 0 has (omega arith)) in
      (v, tt, ap (λ x. x ∷ []) (sym is) ∙ form_entries (name_slots w) parts t has);
  single = λ u v gu gv e. one_name u v (cc);
}

-- a schema, a dot and a name after a word

abbrev pub path_slots : List ℕ → List Place
path_slots w = word w ∷ part Name ∷ word (codes ".") ∷ part Name ∷ []

four : (x y z w : List ℕ) → x ++ (y ++ z ++ w) ≡ x ++ (y ++ (z ++ (w ++ [])))
four x y z w = simp (append_assoc, append-nil)

pub path_form_is : (w : List ℕ) → Form (path_slots w) (λ (v : Path) t. t ≡ w ++ dotted v.schema v.name) (λ v. Unit {0}) (λ v. quoted_name v.schema ∷ quoted_name v.name ∷ [])
path_form_is w = record {
  clear = refl;
  to = λ v t is. subst (HasParts (path_slots w) [] (quoted_name v.schema ∷ quoted_name v.name ∷ [])) (sym (is ∙ four w (quoted_name v.schema) (codes ".") (quoted_name v.name)))
      (has_spelled (path_slots w) [] (quoted_name v.schema ∷ quoted_name v.name ∷ []) 0 refl (name_text v.schema, (name_text v.name, tt)) refl refl);
  good = λ v t is. tt;
  from = λ v t good has. spelled_is (path_slots w) [] (quoted_name v.schema ∷ quoted_name v.name ∷ []) t has ∙ sym (four w (quoted_name v.schema) (codes ".") (quoted_name v.name));
  some = λ parts t has.
      let (a, is) = name_of (get_or parts 0 []) (part_is (path_slots w) [] parts t 0 has (omega arith)) in
      let (b, be) = name_of (get_or parts 1 []) (part_is (path_slots w) [] parts t 1 has (omega arith)) in
      (record { schema = a; name = b }, tt, (λ i. sym is i ∷ sym be i ∷ []) ∙ form_entries (path_slots w) parts t has);
  single = λ u v gu gv e. let schema = one_name u.schema v.schema (cc) in let name = one_name u.name v.name (cc) in (λ i. record { schema = schema i; name = name i });
}
