-- The order of files, as it is kept while they are gone through.
use Rattle.std.proofs.Common.{◌≡◌, ◌⊎◌, inl, inr, ℕ, zero, suc, ◌<◌, ◌≤◌, Bool, true, false, cond, List, [], ◌∷◌, ◌++◌, length, get_or, take, drop, Option, Some, None, MatchOption, ◌==◌, length-append, length-take, refl, sym, ◌∙◌, ap, subst, arith}
use Rattle.std.specs.Borrow.{Bor}
use Rattle.std.specs.Cmp.{IsTotalOrder}
use Rattle.std.specs.Cmp.Lexicographic.{slice_cmp}
use Rattle.std.proofs.lemmas.Cmp.{then_total, on_total, nat_cmp_total, tied_itself}
use Rattle.std.specs.List.{All, AllPairs, Any}
use Rattle.std.specs.Ordering.{nat_cmp, ordering_then, is_eq}
use Rattle.std.specs.declared.cmp.Ordering.{Ordering}
use Rattle.std.specs.declared.cmp.Ordering.TheVariants.{Less, Equal, Greater}
use Rattle.std.proofs.lemmas.Bool.{ltb-true, ltb-false, true≢false}
use Rattle.std.proofs.lemmas.List.Elements.{All-push, Contains-append_left}
use Rattle.std.proofs.lemmas.List.Quantifiers.{all_pairs_push, Any-push}
use Rattle.std.proofs.lemmas.Map.Lookups.{exact_pairs, exact_unsigned}
use Rattle.object_forms.specs.declared.kind.Kind.TheVariants.{Schema, Table, Procedure, Function, View, Trigger, Event}
use Rattle.folder_forms.specs.Metadata.{MayPrecede, kind_place, table_order, TableNames}
use Rattle.folder_forms.specs.declared.file_kind.FileKind.{FileKind}
use Rattle.folder_forms.specs.declared.file_kind.FileKind.TheVariants.{Object, Rows}
use Rattle.folder_forms.specs.declared.metadata.FileLine.{FileLine}
use Rattle.metadata_ini.specs.Order.{InOrder, rises}
use Rattle.metadata_ini.proofs.TableLists.{tables_exact, tables_total}

-- what a file is kept under: its kind's place, its schema and its name, which are lent
abbrev pub LentKey : Type 0
LentKey = ℕ × (Bor (List ℕ) × Bor (List ℕ))

abbrev pub key_order : LentKey → LentKey → Ordering
key_order a b = ordering_then (nat_cmp a.0 b.0) (ordering_then (slice_cmp nat_cmp a.1.0.now b.1.0.now) (slice_cmp nat_cmp a.1.1.now b.1.1.now))

-- the key is that of the file
pub record IsKeyOf (key : LentKey) (file : FileLine) : Type 0 where
  pub kind : key.0 ≡ kind_place file.name.kind
  pub schema : key.1.0.now ≡ file.name.schema
  pub name : key.1.1.now ≡ file.name.name

abbrev plain : LentKey → ℕ × TableNames
plain key = (key.0, (key.1.0.now, key.1.1.now))

plain_exact : (a b : LentKey) → key_order a b ≡ Equal → plain a ≡ plain b
plain_exact a b e = exact_pairs nat_cmp table_order exact_unsigned tables_exact (plain a) (plain b) e

plain_total : IsTotalOrder (λ (a b : ℕ × TableNames). ordering_then (nat_cmp a.0 b.0) (table_order a.1 b.1))
plain_total = then_total (on_total (λ k. k.0) nat_cmp_total) (on_total (λ k. k.1) tables_total)

same_order : (a b : LentKey) → plain a ≡ plain b → key_order a b ≡ Equal
same_order a b e = ap (λ (p : ℕ × TableNames). ordering_then (nat_cmp a.0 p.0) (table_order (a.1.0.now, a.1.1.now) p.1)) (sym e) ∙ tied_itself plain_total (plain a)

same_key : (a b : LentKey) (file : FileLine) → IsKeyOf a file → IsKeyOf b file → plain a ≡ plain b
same_key a b file p q = λ i. ((p.kind ∙ sym q.kind) i, ((p.schema ∙ sym q.schema) i, (p.name ∙ sym q.name) i))

moved : (a b : LentKey) (file : FileLine) → plain a ≡ plain b → IsKeyOf a file → IsKeyOf b file
moved a b file e k = record { kind = sym (ap (λ p. p.0) e) ∙ k.kind; schema = sym (ap (λ p. p.1.0) e) ∙ k.schema; name = sym (ap (λ p. p.1.1) e) ∙ k.name }

-- what is kept of a key: no file has it, or the last one has that number
abbrev HasLast : List FileLine → LentKey → ℕ → Type 0
HasLast files key number = All (λ file. IsKeyOf key file → file.name.number ≤ number) files × Any (λ file. IsKeyOf key file × (file.name.number ≡ number)) files

abbrev pub Known : List FileLine → LentKey → Option ℕ → Type 0
Known files key kept = MatchOption kept (All (λ file. ¬ IsKeyOf key file) files) (HasLast files key)

-- what is kept of the files that were gone through
pub record Seen (files : List FileLine) (place : ℕ) (kept : LentKey → Option ℕ) : Type 0 where
  pub order : AllPairs MayPrecede files
  pub places : All (λ file. kind_place file.name.kind ≤ place) files
  pub some_place : (place ≡ 0) ⊎ Any (λ file. kind_place file.name.kind ≡ place) files
  pub numbers : (key : LentKey) → Known files key (kept key)

pub none_seen : (kept : LentKey → Option ℕ) → ((key : LentKey) → kept key ≡ None) → Seen [] 0 kept
none_seen kept none = record {
  order = λ i j d low within. absurd (omega (arith, within));
  places = λ k d low. absurd (omega (arith, low));
  some_place = inl refl;
  numbers = λ key. subst (Known [] key) (sym (none key)) (λ k d low. absurd (omega (arith, low)));
}

-- a file with a kept key has a number that isn't greater
below_kept : (files : List FileLine) (key : LentKey) (kept : Option ℕ) (number : ℕ) → Known files key kept → rises kept number ≡ true → All (λ file. IsKeyOf key file → file.name.number < number) files
below_kept files key None number known up = λ k d low is. absurd (known k d low is)
below_kept files key (Some n) number known up = λ k d low is. let h = known.0 k d low is in omega (arith, h, ltb-true n number up)

kind_at : ℕ → FileKind
kind_at n = cond (n == 0) (Object Schema) (cond (n == 1) (Object Table) (cond (n == 2) Rows (cond (n == 3) (Object Procedure) (cond (n == 4) (Object Function) (cond (n == 5) (Object View) (cond (n == 6) (Object Trigger) (Object Event)))))))

kind_told : (kind : FileKind) → kind_at (kind_place kind) ≡ kind
unfolding kind_at
kind_told (Object Schema) = refl
kind_told (Object Table) = refl
kind_told Rows = refl
kind_told (Object Procedure) = refl
kind_told (Object Function) = refl
kind_told (Object View) = refl
kind_told (Object Trigger) = refl
kind_told (Object Event) = refl

same_kind : (a b : FileKind) → kind_place a ≡ kind_place b → a ≡ b
same_kind a b e = sym (kind_told a) ∙ ap kind_at e ∙ kind_told b

any_more : (P : FileLine → Type 0) (files : List FileLine) (file : FileLine) → Any P files → Any P (files ++ file ∷ [])
any_more P files file (k, x, low, is, holds) = let there = Contains-append_left files (file ∷ []) x (k, low, is) in (there.0, x, there.1, there.2, holds)

module _ (files : List FileLine) (file : FileLine) (place : ℕ) (kept : LentKey → Option ℕ) (seen : Seen files place kept) (key : LentKey) (own : IsKeyOf key file) where
  pub precedes : place ≤ kind_place file.name.kind → rises (kept key) file.name.number ≡ true → All (λ other. MayPrecede other file) files
  precedes low up = λ k d within. record {
    kinds = let h = seen.places k d within in omega (arith, h, low);
    numbers = λ same_kind same_schema same_name.
        below_kept files key (kept key) file.name.number (seen.numbers key) up k d within
        (record { kind = own.kind ∙ ap kind_place (sym same_kind); schema = own.schema ∙ sym same_schema; name = own.name ∙ sym same_name });
  }

  -- one file more, where what is kept is changed at its key alone
  pub one_more : (changed : LentKey → Option ℕ) → place ≤ kind_place file.name.kind → rises (kept key) file.name.number ≡ true
      → ((q : LentKey) → changed q ≡ cond (is_eq (key_order key q)) (Some file.name.number) (kept q)) → Seen (files ++ file ∷ []) (kind_place file.name.kind) changed
  one_more changed low up change = record {
    order = all_pairs_push MayPrecede files file seen.order (precedes low up);
    places = All-push (λ other. kind_place other.name.kind ≤ kind_place file.name.kind) files file (λ k d within. let h = seen.places k d within in omega (arith, h, low)) (omega arith);
    some_place = inr (Any-push (λ other. kind_place other.name.kind ≡ kind_place file.name.kind) files file refl);
    numbers = λ q. subst (Known (files ++ file ∷ []) q) (sym (change q)) (by q (is_eq (key_order key q)) refl);
  } where
    equal : (r : Ordering) → is_eq r ≡ true → r ≡ Equal
    equal Less e = cc e
    equal Equal e = refl
    equal Greater e = cc e

    here : (q : LentKey) → plain key ≡ plain q → HasLast (files ++ file ∷ []) q file.name.number
    here q e = (
      All-push (λ other. IsKeyOf q other → other.name.number ≤ file.name.number) files file
          (λ k d within is. let h = below_kept files key (kept key) file.name.number (seen.numbers key) up k d within (moved q key (get_or files k d) (sym e) is) in omega (arith, h)) (λ is. omega arith),
      Any-push (λ other. IsKeyOf q other × (other.name.number ≡ file.name.number)) files file (moved key q file e own, refl),
    )

    elsewhere : (q : LentKey) (o : Option ℕ) → ¬ IsKeyOf q file → Known files q o → Known (files ++ file ∷ []) q o
    elsewhere q None other known = All-push (λ f. ¬ IsKeyOf q f) files file known other
    elsewhere q (Some n) other known = (All-push (λ f. IsKeyOf q f → f.name.number ≤ n) files file known.0 (λ is. absurd (other is)), any_more (λ f. IsKeyOf q f × (f.name.number ≡ n)) files file known.1)

    by : (q : LentKey) (b : Bool) → is_eq (key_order key q) ≡ b → Known (files ++ file ∷ []) q (cond b (Some file.name.number) (kept q))
    by q true is = here q (plain_exact key q (equal (key_order key q) is))
    by q false is = elsewhere q (kept q) (λ k. absurd (true≢false (sym (ap is_eq (same_order key q (same_key key q file own k))) ∙ is))) (seen.numbers q)

  pub refused_kind : kind_place file.name.kind < place → ¬ All (λ other. MayPrecede other file) files
  refused_kind low all = by seen.some_place where
    by : (place ≡ 0) ⊎ Any (λ other. kind_place other.name.kind ≡ place) files → ⊥
    by (inl e) = omega (arith, e)
    by (inr (k, x, within, is, holds)) = let h = (subst (λ o. MayPrecede o file) is (all k x within)).kinds in omega (arith, h, holds)

  pub refused_number : rises (kept key) file.name.number ≡ false → ¬ All (λ other. MayPrecede other file) files
  refused_number down all = by (kept key) (seen.numbers key) down where
    by : (o : Option ℕ) → Known files key o → rises o file.name.number ≡ false → ⊥
    by None known e = cc e
    by (Some n) (last, (k, x, within, is, (theirs, number))) e =
        let h = (subst (λ o. MayPrecede o file) is (all k x within)).numbers (same_kind x.name.kind file.name.kind (sym theirs.kind ∙ own.kind)) (sym theirs.schema ∙ own.schema) (sym theirs.name ∙ own.name) in
        omega (arith, h, number, ltb-false n file.name.number e)

-- files that were gone through

at_place : (files : List FileLine) (n : ℕ) (next : FileLine) (after : List FileLine) (d : FileLine) → n < length files → files ≡ take n files ++ next ∷ after → get_or files n d ≡ next
at_place [] n next after d low e = absurd (omega (arith, low))
at_place (f ∷ files) zero next after d low e = ap (λ l. get_or l 0 d) e
at_place (f ∷ files) (suc n) next after d low e = at_place files n next after d (omega arith) (ap (drop 1) e)

pub stopped : (files : List FileLine) (n : ℕ) (file : FileLine) (place : ℕ) (kept : LentKey → Option ℕ) → n < length files → file ≡ get_or files n file → Seen (take n files) place kept
    → ¬ All (λ other. MayPrecede other file) (take n files) → InOrder files n
stopped files n file place kept low is seen other = record {
  within = omega arith;
  order = seen.order;
  stops = λ next after e all. other (subst (λ f. All (λ o. MayPrecede o f) (take n files)) (sym (is ∙ at_place files n next after file low e)) all);
}

pub all_in_order : (files : List FileLine) (n place : ℕ) (kept : LentKey → Option ℕ) → n ≡ length files → Seen (take n files) place kept → InOrder files (length files)
all_in_order files n place kept is seen = record {
  within = omega arith;
  order = subst (λ m. AllPairs MayPrecede (take m files)) is seen.order;
  stops = λ next after e all. omega (arith, ap length e, length-append (take (length files) files) (next ∷ after), length-take (length files) files);
}
