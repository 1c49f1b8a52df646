-- Numbers of files, as texts.
use Rattle.std.proofs.Common.{◌≡◌, ◌≢◌, ℕ, zero, suc, ◌+◌, ◌-◌, ◌^◌, ◌<◌, ◌≤◌, List, [], ◌∷◌, ◌++◌, length, replicate, take, drop, refl, sym, ◌∙◌, ap, subst, arith, decimal, Result, Ok, Err, length-append}
use Rattle.std.specs.Str.Parse.{AllDigits, ParsesUnsigned, digits_value}
use Rattle.std.proofs.lemmas.Fmt.{decimal_is_IsNumeral, IsAscii-from_digits}
use Rattle.std.proofs.lemmas.Str.{IsUtf8-from_ascii}
use Rattle.std.proofs.lemmas.Str.Parse.{numerals_by_value, tells_digits, parse_gives}
use Rattle.std.specs.Prelude.{IsUtf8, IsAscii}
use Rattle.folder_forms.specs.FileName.{file_number}

padded_digits : (k : ℕ) (ds : List ℕ) → AllDigits 10 ds → AllDigits 10 (replicate k 48 ++ ds)
padded_digits zero ds digits = digits
padded_digits (suc k) ds digits = (omega arith, padded_digits k ds digits)

padded_value : (k : ℕ) (ds : List ℕ) → digits_value 10 (replicate k 48 ++ ds) ≡ digits_value 10 ds
padded_value zero ds = refl
padded_value (suc k) ds = padded_value k ds

pub file_digits : (n : ℕ) → n < 2 ^ 32 → AllDigits 10 (file_number n)
file_digits n small = padded_digits (5 - length (decimal n)) (decimal n) (decimal_is_IsNumeral n (omega arith)).0.1

file_value : (n : ℕ) → n < 2 ^ 32 → digits_value 10 (file_number n) ≡ n
file_value n small = padded_value (5 - length (decimal n)) (decimal n) ∙ (decimal_is_IsNumeral n (omega arith)).1

file_some : (n : ℕ) → n < 2 ^ 32 → 0 < length (file_number n)
file_some n small = omega (arith, length-append (replicate (5 - length (decimal n)) 48) (decimal n), (decimal_is_IsNumeral n (omega arith)).0.0)

pub same_numbers : (m n : ℕ) → m < 2 ^ 32 → n < 2 ^ 32 → file_number m ≡ file_number n → m ≡ n
same_numbers m n p q e = sym (file_value m p) ∙ ap (digits_value 10) e ∙ file_value n q

pub file_number_ascii : (n : ℕ) → n < 2 ^ 32 → IsAscii (file_number n)
file_number_ascii n small = IsAscii-from_digits (file_number n) (file_digits n small)

pub file_number_utf8 : (n : ℕ) (text : List ℕ) → n < 2 ^ 32 → text ≡ file_number n → IsUtf8 text
file_number_utf8 n text small is = subst IsUtf8 (sym is) (IsUtf8-from_ascii (file_number n) (file_number_ascii n small))

-- What parses the number of a file gives it.
pub file_number_parsed : {E : Type 0} (n : ℕ) (text : List ℕ) (r : Result ℕ E) → n < 2 ^ 32 → text ≡ file_number n → ParsesUnsigned 32 10 text r → r ≡ Ok n
file_number_parsed n text r small is parses =
    let h = subst (λ l. ParsesUnsigned 32 10 l r) is parses in
    parse_gives (numerals_by_value _ tells_digits) 32 (file_number n) r h (file_digits n small) (file_some n small) (subst (λ v. v < 2 ^ 32) (sym (file_value n small)) small) ∙ ap (λ (m : ℕ). Ok m) (file_value n small)

pub joined_parts : (text front back : List ℕ) → text ≡ front ++ back → (length front ≤ length text) × (take (length front) text ≡ front) × (drop (length front) text ≡ back)
joined_parts text front back is = (omega (arith, ap length is, length-append front back), ap (take (length front)) is ∙ take_front front back, ap (drop (length front)) is ∙ drop_front front back) where
  take_front : (xs ys : List ℕ) → take (length xs) (xs ++ ys) ≡ xs
  take_front [] ys = refl
  take_front (x ∷ xs) ys = ap (λ l. x ∷ l) (take_front xs ys)

  drop_front : (xs ys : List ℕ) → drop (length xs) (xs ++ ys) ≡ ys
  drop_front [] ys = refl
  drop_front (x ∷ xs) ys = drop_front xs ys

pub too_short : (text front back : List ℕ) → length text < length front → text ≢ front ++ back
too_short text front back short is = omega (arith, (joined_parts text front back is).0)

pub other_front : (text front back first : List ℕ) → first ≡ take (length front) text → first ≢ front → text ≢ front ++ back
other_front text front back first is other e = other (is ∙ (joined_parts text front back e).1)

pub other_back : (text front back second : List ℕ) → second ≡ drop (length front) text → second ≢ back → text ≢ front ++ back
other_back text front back second is other e = other (is ∙ (joined_parts text front back e).2)

-- the number of a result, or another one where there is none
abbrev value_or : {E : Type 0} → ℕ → Result ℕ E → ℕ
value_or other (Ok n) = n
value_or other (Err fault) = other

pub other_number : {E : Type 0} (text : List ℕ) (n : ℕ) (r : Result ℕ E) → ParsesUnsigned 32 10 text r → r ≡ Ok n → text ≢ file_number n → (m : ℕ) → m < 2 ^ 32 → text ≢ file_number m
other_number text n r parses is other m low e =
    let same : m ≡ n = ap (value_or 0) (sym (file_number_parsed m text r low e parses) ∙ is) in
    other (e ∙ ap file_number same)

pub not_parsed : {E : Type 0} (text : List ℕ) (fault : E) (r : Result ℕ E) → ParsesUnsigned 32 10 text r → r ≡ Err fault → (m : ℕ) → m < 2 ^ 32 → text ≢ file_number m
not_parsed text fault r parses is m low e =
    let one : m ≡ m + 1 = ap (value_or (m + 1)) (sym (file_number_parsed m text r low e parses) ∙ is) in
    omega arith

pub not_utf8 : (text : List ℕ) → ¬ IsUtf8 text → (m : ℕ) → m < 2 ^ 32 → text ≢ file_number m
not_utf8 text other m low e = other (file_number_utf8 m text low e)
