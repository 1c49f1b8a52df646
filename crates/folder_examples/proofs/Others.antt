-- What isn't the name of a file.
use Rattle.std.proofs.Common.{◌≡◌, ℕ, ◌+◌, ◌/◌, ◌%◌, ◌<◌, Bool, true, false, cond, List, [], ◌∷◌, ◌++◌, get_or, refl, sym, ◌∙◌, ap, arith, codes, nat_lt}
use Rattle.std.proofs.lemmas.Bool.{ltb-true, ltb-false}
use Rattle.server_data.specs.Names.{lower_digit, stands_as_it_is}
use Rattle.object_forms.specs.declared.kind.Kind.TheVariants.{Table}
use Rattle.folder_forms.specs.declared.file_kind.FileKind.TheVariants.{Object}
use Rattle.metadata_ini.specs.Spelling.{IsNoFront}
use Rattle.metadata_ini.proofs.Spelled.{spelled_none, no_bytes, none_spelt}
use Rattle.metadata_ini.proofs.Texts.{no_schema_name, no_object_name}
use Rattle.folder_examples.specs.Names.{OtherNames}

no_point : (b : ℕ) → stands_as_it_is b ≡ true → 64 ≡ b → ⊥
no_point b stands is = cc (ap stands_as_it_is is ∙ stands)

digit_by : (d : ℕ) (s : Bool) → nat_lt d 10 ≡ s → 69 ≡ cond s (d + 48) (d + 87) → ⊥
digit_by d true p e = omega (arith, ltb-true d 10 p)
digit_by d false p e = omega arith

upper_by : (b : ℕ) (rest : List ℕ) (s : Bool) → stands_as_it_is b ≡ s
    → codes "@2E" ≡ cond s (b ∷ []) (64 ∷ lower_digit (b / 16) ∷ lower_digit (b % 16) ∷ []) ++ rest → ⊥
upper_by b rest true p e = no_point b p (ap (λ l. get_or l 0 0) e)
upper_by b rest false p e = digit_by (b % 16) (nat_lt (b % 16) 10) refl (ap (λ l. get_or l 2 0) e)

no_upper : IsNoFront (codes "@2E")
no_upper b rest small e = upper_by b rest (stands_as_it_is b) refl e

value_by : (d n : ℕ) (s : Bool) → n < 10 → nat_lt d 10 ≡ s → n + 48 ≡ cond s (d + 48) (d + 87) → d ≡ n
value_by d n true small p e = omega arith
value_by d n false small p e = omega (arith, ltb-false d 10 p)

needless_by : (b : ℕ) (rest : List ℕ) (s : Bool) → stands_as_it_is b ≡ s
    → codes "@62" ≡ cond s (b ∷ []) (64 ∷ lower_digit (b / 16) ∷ lower_digit (b % 16) ∷ []) ++ rest → ⊥
needless_by b rest true p e = no_point b p (ap (λ l. get_or l 0 0) e)
needless_by b rest false p e =
    let high : b / 16 ≡ 6 = value_by (b / 16) 6 (nat_lt (b / 16) 10) (omega arith) refl (ap (λ l. get_or l 1 0) e) in
    let low : b % 16 ≡ 2 = value_by (b % 16) 2 (nat_lt (b % 16) 10) (omega arith) refl (ap (λ l. get_or l 2 0) e) in
    let byte : b ≡ 98 = omega (arith, high, low) in
    cc (ap stands_as_it_is (sym byte) ∙ p)

no_needless : IsNoFront (codes "@62")
no_needless b rest small e = needless_by b rest (stands_as_it_is b) refl e

pub others : OtherNames
others = record {
  a_digit_in_upper_case = no_object_name (codes "a.B@2E-schema.sql") (Object Table) (codes "a") (codes "B@2E") 0
      (record { is = refl; schema_spelled = refl; name_spelled = refl; one_schema = λ is. cc is; numbered = record { none = λ _. refl; size = omega arith } })
      (no_bytes (codes "B@2E") (spelled_none (codes "B") (codes "@2E") (codes "B@2E") refl (omega arith) no_upper));
  a_needless_escape = no_schema_name (codes "a@62.t-schema.sql") (Object Table) (codes "a@62") (codes "t") 0
      (record { is = refl; schema_spelled = refl; name_spelled = refl; one_schema = λ is. cc is; numbered = record { none = λ _. refl; size = omega arith } })
      (no_bytes (codes "a@62") (spelled_none (codes "a") (codes "@62") (codes "a@62") refl (omega arith) no_needless));
  an_empty_name = no_object_name (codes "s.-schema.sql") (Object Table) (codes "s") [] 0
      (record { is = refl; schema_spelled = refl; name_spelled = refl; one_schema = λ is. cc is; numbered = record { none = λ _. refl; size = omega arith } })
      none_spelt;
}
