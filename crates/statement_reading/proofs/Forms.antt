-- Forms: shapes whose texts are those of some values.
use Rattle.std.proofs.Common.{◌≡◌, ℕ, zero, suc, ◌+◌, ◌<◌, true, List, [], ◌∷◌, ◌++◌, length, take, get_or, refl, sym, ◌∙◌, ap, subst, arith, add-zero, length-append}
use Rattle.std.proofs.lemmas.List.{get_or-append-add, take_all}
use Rattle.std.proofs.Math.ListN.{get_or-append}
use Rattle.grammar.specs.Language.{Language, Refused}
use Rattle.grammar.proofs.Choices.{place_same}
use Rattle.statement_reading.specs.Parts.{part_language}
use Rattle.statement_reading.specs.Slots.{Shaped, HasParts, is_clear, kinds}
use Rattle.statement_reading.specs.Readings.{TextOfSome, IsOnly}
use Rattle.statement_reading.specs.declared.reading.kind.PartKind.TheVariants.{Name}
use Rattle.statement_reading.specs.Slots.{Place}
use Rattle.statement_reading.specs.Slots.Place.{word, part, again}
use Rattle.statement_reading.proofs.Shapes.{shaped_of, parts_of, one_parts}

-- Languages of the same texts refuse at the same places.
pub refused_same : (A B : Language) (s : List ℕ) (p : ℕ) → ((t : List ℕ) → A t → B t) → ((t : List ℕ) → B t → A t) → Refused A s p → Refused B s p
refused_same A B s p to back refused = record { at = place_same A B s p to back refused.at; no_text = λ text. refused.no_text (back s text) }

-- the texts of the shape are those of the values, and the parts are the texts of a value's parts
pub record Form {V : Type 0} (slots : List Place) (F : V → Language) (Good : V → Type 0) (texts : V → List (List ℕ)) : Type 0 where
  pub clear : is_clear slots ≡ true
  pub to : (v : V) (t : List ℕ) → F v t → HasParts slots [] (texts v) t
  pub good : (v : V) (t : List ℕ) → F v t → Good v
  pub from : (v : V) (t : List ℕ) → Good v → HasParts slots [] (texts v) t → F v t
  pub some : (parts : List (List ℕ)) (t : List ℕ) → HasParts slots [] parts t → (v : V) × Good v × (texts v ≡ parts)
  pub single : (u v : V) → Good u → Good v → texts u ≡ texts v → u ≡ v

module _ {V : Type 0} {slots : List Place} {F : V → Language} {Good : V → Type 0} {texts : V → List (List ℕ)} (form : Form slots F Good texts) where
  -- The value whose parts were read is the only one.
  pub form_only : (text : List ℕ) (parts : List (List ℕ)) (v : V) → HasParts slots [] parts text → Good v → texts v ≡ parts → IsOnly F text v
  form_only text parts v has good is =
      let mine : HasParts slots [] (texts v) text = subst (λ l. HasParts slots [] l text) (sym is) has in
      record {
        text_of = form.from v text good mine;
        only = λ other there. form.single other v (form.good other text there) good (one_parts slots [] (texts other) (texts v) text form.clear (form.to other text there) mine);
      }

  -- A text with parts is that of some value.
  pub form_some : (text : List ℕ) (parts : List (List ℕ)) → HasParts slots [] parts text → TextOfSome F text
  unfolding TextOfSome
  form_some text parts has =
      let (v, good, is) = form.some parts text has in
      (v, form.from v text good (subst (λ l. HasParts slots [] l text) (sym is) has))

  -- What the shape refuses is refused among the values' texts.
  pub form_refused : (text : List ℕ) (p : ℕ) → Refused (Shaped slots []) text p → Refused (TextOfSome F) text p
  unfolding TextOfSome
  form_refused text p refused = refused_same (Shaped slots []) (TextOfSome F) text p
      (λ t shaped. let (parts, has) = parts_of slots [] t shaped in form_some t parts has)
      (λ t (v, there). shaped_of slots [] (texts v) t (form.to v t there)) refused

-- the parts of a shape by their index

pub kept : (slots : List Place) (before parts : List (List ℕ)) (t : List ℕ) (k : ℕ) → HasParts slots before parts t → k < length before → get_or parts k [] ≡ get_or before k []
unfolding HasParts
kept [] before parts t k (e, is) within = ap (λ l. get_or l k []) is
kept (word bytes ∷ slots) before parts t k (a, b, e, first, rest) within = kept slots before parts b k rest within
kept (again index ∷ slots) before parts t k (a, b, e, first, rest) within = kept slots before parts b k rest within
kept (part kind ∷ slots) before parts t k (a, b, e, first, rest) within =
    kept slots (before ++ a ∷ []) parts b k rest (omega (arith, length-append before (a ∷ []))) ∙ get_or-append before (a ∷ []) [] k within

-- the parts so far are a front of all
pub fronts : (slots : List Place) (before parts : List (List ℕ)) (t : List ℕ) → HasParts slots before parts t → take (length before) parts ≡ before
unfolding HasParts
fronts [] before parts t (e, is) = rw is (take_all (length before) before (omega arith))
fronts (word bytes ∷ slots) before parts t (a, b, e, first, rest) = fronts slots before parts b rest
fronts (again index ∷ slots) before parts t (a, b, e, first, rest) = fronts slots before parts b rest
fronts (part kind ∷ slots) before parts t (a, b, e, first, rest) = shorter before parts a (fronts slots (before ++ a ∷ []) parts b rest) where
  shorter : (before parts : List (List ℕ)) (a : List ℕ) → take (length (before ++ a ∷ [])) parts ≡ before ++ a ∷ [] → take (length before) parts ≡ before
  shorter [] parts a e = refl
  shorter (c ∷ before) [] a e = cc
  shorter (c ∷ before) (d ∷ parts) a e = let head : d ≡ c = cc in let tail : take (length before) parts ≡ before = shorter before parts a (cc) in cc

-- Each part is of its kind, after the parts before it.
pub part_is : (slots : List Place) (before parts : List (List ℕ)) (t : List ℕ) (i : ℕ) → HasParts slots before parts t → i < length (kinds slots) → part_language (get_or (kinds slots) i Name) (take (length before + i) parts) (get_or parts (length before + i) [])
unfolding HasParts
part_is [] before parts t i has within = absurd (omega arith)
part_is (word bytes ∷ slots) before parts t i (a, b, e, first, rest) within = part_is slots before parts b i rest within
part_is (again index ∷ slots) before parts t i (a, b, e, first, rest) within = part_is slots before parts b i rest within
part_is (part kind ∷ slots) before parts t zero (a, b, e, first, rest) within =
    let size : length (before ++ a ∷ []) ≡ suc (length before) = length-append before (a ∷ []) ∙ (omega arith) in
    let here : get_or parts (length before + 0) [] ≡ a = kept slots (before ++ a ∷ []) parts b (length before + 0) rest (omega arith) ∙ get_or-append-add before (a ∷ []) 0 [] in
    let front : take (length before + 0) parts ≡ before = ap (λ k. take k parts) (add-zero (length before)) ∙ fronts (part kind ∷ slots) before parts t (a, b, e, first, rest) in
    subst (λ l. part_language kind l (get_or parts (length before + 0) [])) (sym front) (subst (part_language kind before) (sym here) first)
part_is (part kind ∷ slots) before parts t (suc i) (a, b, e, first, rest) within =
    let size : length (before ++ a ∷ []) + i ≡ length before + suc i = omega (arith, length-append before (a ∷ [])) in
    subst (λ k. part_language (get_or (kinds slots) i Name) (take k parts) (get_or parts k [])) size (part_is slots (before ++ a ∷ []) parts b i rest (omega arith))

pub parts_count : (slots : List Place) (before parts : List (List ℕ)) (t : List ℕ) → HasParts slots before parts t → length parts ≡ length before + length (kinds slots)
unfolding HasParts
parts_count [] before parts t (e, is) = omega (arith, ap length is)
parts_count (word bytes ∷ slots) before parts t (a, b, e, first, rest) = parts_count slots before parts b rest
parts_count (again index ∷ slots) before parts t (a, b, e, first, rest) = parts_count slots before parts b rest
parts_count (part kind ∷ slots) before parts t (a, b, e, first, rest) = omega (arith, parts_count slots (before ++ a ∷ []) parts b rest, length-append before (a ∷ []))

-- so many entries of a list, from an index on
abbrev pub entries : ℕ → ℕ → List (List ℕ) → List (List ℕ)
entries k zero l = []
entries k (suc n) l = get_or l k [] ∷ entries (suc k) n l

entries_after : (c : List ℕ) (l : List (List ℕ)) (k n : ℕ) → entries (suc k) n (c ∷ l) ≡ entries k n l
entries_after c l k zero = refl
entries_after c l k (suc n) = ap (λ r. get_or l k [] ∷ r) (entries_after c l (suc k) n)

all_entries : (n : ℕ) (l : List (List ℕ)) → length l ≡ n → entries 0 n l ≡ l
all_entries zero [] size = refl
all_entries zero (c ∷ l) size = absurd (omega arith)
all_entries (suc n) [] size = absurd (omega arith)
all_entries (suc n) (c ∷ l) size = ap (λ r. c ∷ r) (entries_after c l 0 n ∙ all_entries n l (omega arith))

-- The parts are their entries.
pub form_entries : (slots : List Place) (parts : List (List ℕ)) (t : List ℕ) → HasParts slots [] parts t → entries 0 (length (kinds slots)) parts ≡ parts
form_entries slots parts t has = all_entries (length (kinds slots)) parts (omega (arith, parts_count slots [] parts t has))
