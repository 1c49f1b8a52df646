-- Numbers, in decimal.
use Rattle.std.proofs.Common.{◌≡◌, ◌≢◌, ℕ, ◌+◌, ◌^◌, ◌<◌, List, length, sym, ◌∙◌, ap, subst, arith, decimal, Result, Ok, Err}
use Rattle.std.specs.Str.Parse.{AllDigits, ParsesUnsigned, digits_value}
use Rattle.std.proofs.lemmas.Fmt.{decimal_is_IsNumeral, IsAscii-from_digits}
use Rattle.std.proofs.lemmas.Str.{IsUtf8-from_ascii}
use Rattle.std.proofs.lemmas.Str.Parse.{numerals_by_value, tells_digits, parse_gives}
use Rattle.std.specs.Prelude.{IsUtf8}

pub decimal_digits : (n : ℕ) → n < 2 ^ 64 → AllDigits 10 (decimal n)
decimal_digits n small = (decimal_is_IsNumeral n (omega arith)).0.1

pub decimal_value : (n : ℕ) → n < 2 ^ 64 → digits_value 10 (decimal n) ≡ n
decimal_value n small = (decimal_is_IsNumeral n (omega arith)).1

pub decimal_some : (n : ℕ) → n < 2 ^ 64 → 0 < length (decimal n)
decimal_some n small = omega (arith, (decimal_is_IsNumeral n (omega arith)).0.0)

-- A number is written in one way.
pub same_decimals : (m n : ℕ) → m < 2 ^ 64 → n < 2 ^ 64 → decimal m ≡ decimal n → m ≡ n
same_decimals m n p q e = sym (decimal_value m p) ∙ ap (digits_value 10) e ∙ decimal_value n q

decimal_utf8 : (n : ℕ) (text : List ℕ) → n < 2 ^ 64 → text ≡ decimal n → IsUtf8 text
decimal_utf8 n text small is = subst IsUtf8 (sym is) (IsUtf8-from_ascii (decimal n) (IsAscii-from_digits (decimal n) (decimal_digits n small)))

-- What parses a number gives it.
decimal_parsed : {E : Type 0} (n : ℕ) (text : List ℕ) (r : Result ℕ E) → n < 2 ^ 64 → text ≡ decimal n → ParsesUnsigned 64 10 text r → r ≡ Ok n
decimal_parsed n text r small is parses =
    let h = subst (λ l. ParsesUnsigned 64 10 l r) is parses in
    parse_gives (numerals_by_value _ tells_digits) 64 (decimal n) r h (decimal_digits n small) (decimal_some n small) (subst (λ v. v < 2 ^ 64) (sym (decimal_value n small)) small) ∙ ap (λ (m : ℕ). Ok m) (decimal_value n small)

-- the number of a result, or another one where there is none
abbrev value_or : {E : Type 0} → ℕ → Result ℕ E → ℕ
value_or other (Ok n) = n
value_or other (Err fault) = other

pub other_decimal : {E : Type 0} (text : List ℕ) (n : ℕ) (r : Result ℕ E) → ParsesUnsigned 64 10 text r → r ≡ Ok n → text ≢ decimal n → (m : ℕ) → m < 2 ^ 64 → text ≢ decimal m
other_decimal text n r parses is other m low e =
    let same : m ≡ n = ap (value_or 0) (sym (decimal_parsed m text r low e parses) ∙ is) in
    other (e ∙ ap decimal same)

pub no_decimal : {E : Type 0} (text : List ℕ) (fault : E) (r : Result ℕ E) → ParsesUnsigned 64 10 text r → r ≡ Err fault → (m : ℕ) → m < 2 ^ 64 → text ≢ decimal m
no_decimal text fault r parses is m low e =
    let one : m ≡ m + 1 = ap (value_or (m + 1)) (sym (decimal_parsed m text r low e parses) ∙ is) in
    omega arith

pub no_text : (text : List ℕ) → ¬ IsUtf8 text → (m : ℕ) → m < 2 ^ 64 → text ≢ decimal m
no_text text other m low e = other (decimal_utf8 m text low e)
