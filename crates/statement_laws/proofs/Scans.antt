-- What stands outside of names between backquotes.
use Rattle.std.proofs.Common.{◌≡◌, ◌==◌, ◌&&◌, ℕ, suc, ◌<◌, ◌≤◌, ◌^◌, arith, Bool, true, false, cond, if◌then◌else◌, List, [], ◌∷◌, ◌++◌, decimal, refl, sym, ◌∙◌, ap, append_assoc, nat_le}
use Rattle.std.specs.Prelude.{ℤ, pos, negsuc}
use Rattle.std.specs.Fmt.{signed_decimal}
use Rattle.std.specs.List.{All, flat_map}
use Rattle.std.specs.Str.Parse.{AllDigits}
use Rattle.std.proofs.lemmas.Bool.Decides.{nat_tests}
use Rattle.std.proofs.lemmas.Fmt.{decimal_is_IsNumeral_wide}
use Rattle.std.proofs.lemmas.List.Elements.{All-head, All-tail}
use Rattle.std.proofs.lemmas.Str.Parse.{digit_from_value}
use Rattle.sql_cells.specs.Name.{name_byte, quoted_name}
use Rattle.statement_forms.specs.Number.{IsI128}
use Rattle.statement_forms.specs.Text.{names, numbers}
use Rattle.statement_reading.proofs.NameValues.{names_cons, after_name}
use Rattle.statement_reading.proofs.WideValues.{numbers_cons, after_number}

-- the bytes outside of quoted names that are kept; the text begins inside of one, or outside
abbrev pub scan : (ℕ → Bool) → Bool → List ℕ → List ℕ
scan keep inside [] = []
scan keep true (c ∷ t) = if c == 96 then scan keep false t else scan keep true t
scan keep false (c ∷ t) =
    if c == 96 then scan keep true t
    else (if keep c then c ∷ scan keep false t else scan keep false t)

name_step : (keep : ℕ → Bool) (c : ℕ) (name t : List ℕ) (q : Bool) → (c == 96) ≡ q → scan keep true (flat_map name_byte name ++ 96 ∷ t) ≡ scan keep false t → scan keep true ((cond (c == 96) (96 ∷ 96 ∷ []) (c ∷ []) ++ flat_map name_byte name) ++ 96 ∷ t) ≡ scan keep false t
name_step keep c name t true is more = ap (λ (q : Bool). scan keep true ((cond q (96 ∷ 96 ∷ []) (c ∷ []) ++ flat_map name_byte name) ++ 96 ∷ t)) is ∙ more
name_step keep c name t false is more =
    ap (λ (q : Bool). scan keep true ((cond q (96 ∷ 96 ∷ []) (c ∷ []) ++ flat_map name_byte name) ++ 96 ∷ t)) is
    ∙ ap (λ (q : Bool). cond q (scan keep false (flat_map name_byte name ++ 96 ∷ t)) (scan keep true (flat_map name_byte name ++ 96 ∷ t))) is
    ∙ more

inside_name : (keep : ℕ → Bool) (name t : List ℕ) → scan keep true (flat_map name_byte name ++ 96 ∷ t) ≡ scan keep false t
inside_name keep [] t = refl
inside_name keep (c ∷ name) t = name_step keep c name t (c == 96) refl (inside_name keep name t)

-- Nothing of a quoted name is outside.
pub past_name : (keep : ℕ → Bool) (name t : List ℕ) → scan keep false (quoted_name name ++ t) ≡ scan keep false t
past_name keep name t = ap (λ (l : List ℕ). scan keep true l) (append_assoc (flat_map name_byte name) (96 ∷ []) t) ∙ inside_name keep name t

past_after : (keep : ℕ → Bool) → keep 44 ≡ false → (parts : List (List ℕ)) (t : List ℕ) → scan keep false (names parts ++ t) ≡ scan keep false t → scan keep false (after_name parts ++ t) ≡ scan keep false t
past_after keep comma [] t more = refl
past_after keep comma (next ∷ parts) t more =
    ap (λ (q : Bool). cond q (44 ∷ scan keep false (names (next ∷ parts) ++ t)) (scan keep false (names (next ∷ parts) ++ t))) comma ∙ more

-- names with commas between them, of which the commas aren't kept
pub past_names : (keep : ℕ → Bool) → keep 44 ≡ false → (parts : List (List ℕ)) (t : List ℕ) → scan keep false (names parts ++ t) ≡ scan keep false t
past_names keep comma [] t = refl
past_names keep comma (one ∷ parts) t =
    ap (λ (l : List ℕ). scan keep false (l ++ t)) (names_cons one parts)
    ∙ ap (λ (l : List ℕ). scan keep false l) (append_assoc (quoted_name one) (after_name parts) t)
    ∙ past_name keep one (after_name parts ++ t) ∙ past_after keep comma parts t (past_names keep comma parts t)

-- a byte that is no digit, no comma and no minus
abbrev pub is_word_byte : ℕ → Bool
is_word_byte byte =
    if byte == 44 then false else (if byte == 45 then false else (if nat_le 48 byte && nat_le byte 57 then false else true))

-- what a text adds to what is outside
pub record Adds (text mark : List ℕ) : Type 0 where
  pub is : (t : List ℕ) → scan is_word_byte false (text ++ t) ≡ mark ++ scan is_word_byte false t

pub both : {x m y n : List ℕ} → Adds x m → Adds y n → Adds (x ++ y) (m ++ n)
both {x} {m} {y} {n} first second = record {
  is = λ t. ap (λ (l : List ℕ). scan is_word_byte false l) (append_assoc x y t) ∙ first.is (y ++ t)
      ∙ ap (λ (l : List ℕ). m ++ l) (second.is t) ∙ sym (append_assoc m n (scan is_word_byte false t));
}

pub name_adds : (name : List ℕ) → Adds (quoted_name name) []
name_adds name = record { is = λ t. past_name is_word_byte name t }

pub names_add : (parts : List (List ℕ)) → Adds (names parts) []
names_add parts = record { is = λ t. past_names is_word_byte refl parts t }

is_no_word : (c : ℕ) → 48 ≤ c → c ≤ 57 → (t : List ℕ) → scan is_word_byte false (c ∷ t) ≡ scan is_word_byte false t
is_no_word c low high t =
    let quote : (c == 96) ≡ false = grind (arith, nat_tests) in
    let word : is_word_byte c ≡ false = grind (arith, nat_tests) in
    ap (λ (q : Bool). cond q (scan is_word_byte true t) (cond (is_word_byte c) (c ∷ scan is_word_byte false t) (scan is_word_byte false t))) quote
    ∙ ap (λ (q : Bool). cond q (c ∷ scan is_word_byte false t) (scan is_word_byte false t)) word

past_digits : (digits : List ℕ) → AllDigits 10 digits → (t : List ℕ) → scan is_word_byte false (digits ++ t) ≡ scan is_word_byte false t
past_digits [] are t = refl
past_digits (c ∷ digits) are t =
    let digit = digit_from_value c are.0 in
    is_no_word c (omega arith) (omega arith) (digits ++ t) ∙ past_digits digits are.1 t

past_decimal : (n : ℕ) → n < 10 ^ 64 → (t : List ℕ) → scan is_word_byte false (decimal n ++ t) ≡ scan is_word_byte false t
past_decimal n small t = past_digits (decimal n) (decimal_is_IsNumeral_wide n small).0.1 t

pub count_adds : (n : ℕ) → n < 2 ^ 64 → Adds (decimal n) []
count_adds n small = record { is = λ t. past_decimal n (omega arith) t }

past_bound : (z : ℤ) → IsI128 z → (t : List ℕ) → scan is_word_byte false (signed_decimal z ++ t) ≡ scan is_word_byte false t
past_bound (pos n) range t = past_decimal n (omega arith) t
past_bound (negsuc n) range t = past_decimal (suc n) (omega arith) t

pub bound_adds : (z : ℤ) → IsI128 z → Adds (signed_decimal z) []
bound_adds z range = record { is = λ t. past_bound z range t }

past_next : (row : List ℤ) (t : List ℕ) → scan is_word_byte false (numbers row ++ t) ≡ scan is_word_byte false t → scan is_word_byte false (after_number row ++ t) ≡ scan is_word_byte false t
past_next [] t more = refl
past_next (y ∷ row) t more = more

past_numbers : (row : List ℤ) → All IsI128 row → (t : List ℕ) → scan is_word_byte false (numbers row ++ t) ≡ scan is_word_byte false t
past_numbers [] ranges t = refl
past_numbers (z ∷ row) ranges t =
    ap (λ (l : List ℕ). scan is_word_byte false (l ++ t)) (numbers_cons z row)
    ∙ ap (λ (l : List ℕ). scan is_word_byte false l) (append_assoc (signed_decimal z) (after_number row) t)
    ∙ past_bound z (All-head IsI128 z row ranges) (after_number row ++ t)
    ∙ past_next row t (past_numbers row (All-tail IsI128 z row ranges) t)

pub numbers_add : (row : List ℤ) → All IsI128 row → Adds (numbers row) []
numbers_add row ranges = record { is = λ t. past_numbers row ranges t }
