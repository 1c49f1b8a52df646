-- The grammar of numbers, and how they are read.
use Rattle.std.proofs.Common.{◌≡◌, ◌≢◌, ℕ, zero, suc, ◌+◌, ◌-◌, ◌*◌, ◌/◌, ◌%◌, ◌^◌, ◌<◌, ◌≤◌, ◌⊎◌, inl, inr, true, List, [], ◌∷◌, ◌++◌, length, take, drop, get_or, refl, sym, ◌∙◌, ap, subst, arith, append_assoc, append-nil, length-append, length-drop, decimal, Result, Ok, Err}
use Rattle.std.specs.Prelude.{pos, negsuc}
use Rattle.std.specs.Char.{digit_value}
use Rattle.std.specs.Str.Parse.{AllDigits, digits_value, digits_value_after}
use Rattle.std.proofs.lemmas.Bool.Decides.{nat_tests}
use Rattle.std.proofs.lemmas.Fmt.{decimal_by_steps_wide, decimal_step_wide, decimal_is_IsNumeral_wide, decimal_digit}
use Rattle.std.proofs.lemmas.Str.{digit_value_digit}
use Rattle.std.proofs.lemmas.Str.Parse.{digit_from_value}
use Rattle.std.proofs.lemmas.List.{take-append-drop, length-take-le, take_more}
use Rattle.std.proofs.Math.ListN.{get_or-append}
use Rattle.grammar.specs.Language.{Language, Begins, Reads, Fixed, Then, Or}
use Rattle.grammar.specs.Reading.{shift}
use Rattle.grammar.proofs.Choices.{neither, reads_same, reads_or, reads_or_other}
use Rattle.grammar.proofs.Empty.{no_empty_fixed, no_empty_then, begins_fixed, begins_then}
use Rattle.grammar.proofs.Leaves.{fixed_apart, fixed_byte}
use Rattle.grammar.proofs.Places.{whole_of, broken_of}
use Rattle.grammar.proofs.Rows.{then_read}
use Rattle.grammar.proofs.Sets.{Starts, Lengthens, starts_fixed, starts_then, lengthens_then, lengthens_or, place_other}
use Rattle.statement_reading.specs.Parts.{Within, BoundText, is_decimal_digit}

-- digits and their values

value_append : (n : ℕ) (xs ys : List ℕ) → digits_value_after 10 n (xs ++ ys) ≡ digits_value_after 10 (digits_value_after 10 n xs) ys
value_append n [] ys = refl
value_append n (x ∷ xs) ys = value_append (n * 10 + digit_value x) xs ys

value_least : (n : ℕ) (ds : List ℕ) → n ≤ digits_value_after 10 n ds
value_least n [] = omega arith
value_least n (c ∷ cs) = omega (arith, value_least (n * 10 + digit_value c) cs)

digit_inside : (xs : List ℕ) (c : ℕ) (ys : List ℕ) → AllDigits 10 (xs ++ c ∷ ys) → digit_value c < 10
digit_inside [] c ys digits = digits.0
digit_inside (x ∷ xs) c ys digits = digit_inside xs c ys digits.1

-- a number's text has a byte, and only 0 begins with the digit 0
first_digits : (n : ℕ) → n < 10 ^ 64 → (0 < length (decimal n)) × (0 < n → 48 < get_or (decimal n) 0 0)
first_digits = decimal_by_steps_wide (λ m ds. (0 < length ds) × (0 < m → 48 < get_or ds 0 0))
    (λ m l. (omega arith, λ a. omega arith))
    (λ m ds l h. (omega (arith, length-append ds ((48 + m % 10) ∷ [])), λ a. omega (arith, get_or-append ds ((48 + m % 10) ∷ []) 0 0 h.0, h.1 (omega arith))))

pub first_digit : (m b : ℕ) (more : List ℕ) → m < 10 ^ 64 → decimal m ≡ b ∷ more → (48 ≤ b) × (b ≤ 57) × (0 < m → 48 < b)
first_digit m b more small e =
    let digit = digit_from_value b (digit_inside [] b more (subst (AllDigits 10) e (decimal_is_IsNumeral_wide m small).0.1)) in
    (omega arith, omega arith, λ some. subst (λ l. 48 < get_or l 0 0) e ((first_digits m small).1 some))

not_zero : (m b : ℕ) (more : List ℕ) → m < 10 ^ 64 → decimal m ≡ 48 ∷ b ∷ more → ⊥
not_zero zero b more small e = cc (decimal_digit 0 (omega arith))
not_zero (suc m) b more small e = absurd (omega (arith, (first_digit (suc m) 48 (b ∷ more) small e).2))

-- What lengthens a number is a digit, after another number than 0, and the number grows so.
pub longer_decimal : (v m b : ℕ) (more : List ℕ) → v < 10 ^ 64 → m < 10 ^ 64 → decimal m ≡ decimal v ++ b ∷ more → (48 ≤ b) × (b ≤ 57) × (0 < v) × (v * 10 + (b - 48) ≤ m)
longer_decimal v m b more low high e =
    let small : digit_value b < 10 = digit_inside (decimal v) b more (subst (AllDigits 10) e (decimal_is_IsNumeral_wide m high).0.1) in
    let digit = digit_from_value b small in
    let same = digit_value_digit b digit in
    let grown : m ≡ digits_value_after 10 (v * 10 + digit_value b) more =
    sym (decimal_is_IsNumeral_wide m high).1 ∙ ap (digits_value 10) e ∙ value_append 0 (decimal v) (b ∷ more) ∙ ap (λ n. digits_value_after 10 n (b ∷ more)) (decimal_is_IsNumeral_wide v low).1 in
    (omega arith, omega arith, positive v e, omega (arith, value_least (v * 10 + digit_value b) more)) where
      positive : (v : ℕ) → decimal m ≡ decimal v ++ b ∷ more → 0 < v
      positive zero e = absurd (not_zero m b more high (e ∙ ap (λ l. l ++ b ∷ more) (decimal_digit 0 (omega arith))))
      positive (suc v) e = omega arith

-- The digit 1 is a number's text.
begins_within : (least limit : ℕ) → least ≤ 1 → 10 ≤ limit → Begins (Within least limit) []
unfolding Begins Within
begins_within least limit low high = (decimal 1, (1, low, omega arith, refl))

no_empty_within : (least limit : ℕ) → limit ≤ 10 ^ 64 → ¬ Within least limit []
unfolding Within
no_empty_within least limit wide (m, low, high, e) = omega (arith, (first_digits m (omega arith)).0, ap length e)

abbrev IsDigit : ℕ → Type 0
IsDigit c = is_decimal_digit c ≡ true

is_digit : (c : ℕ) → 48 ≤ c → c ≤ 57 → IsDigit c
is_digit c low high = grind (arith, nat_tests)

starts_within : (least limit : ℕ) → limit ≤ 10 ^ 64 → Starts (Within least limit) IsDigit
unfolding Starts Within
starts_within least limit wide c y (m, low, high, e) = let first = first_digit m c y (omega arith) (sym e) in is_digit c first.0 first.1

lengthens_within : (least limit : ℕ) → limit ≤ 10 ^ 64 → Lengthens (Within least limit) IsDigit
unfolding Lengthens Within Begins
lengthens_within least limit wide x c (v, low, high, is) (more, (m, least_m, high_m, e)) =
    let longer = longer_decimal v m c more (omega arith) (omega arith) (sym e ∙ append_assoc x (c ∷ []) more ∙ ap (λ l. l ++ c ∷ more) is) in
    is_digit c longer.0 longer.1

-- what is read

same_byte : (s : List ℕ) (n b : ℕ) (more : List ℕ) → drop n s ≡ b ∷ more → (n < length s) × (get_or s n 0 ≡ b)
same_byte [] n b more is = absurd (omega (arith, length-drop {A = ℕ} n [], ap length is))
same_byte (x ∷ s) zero b more is = (omega arith, cc)
same_byte (x ∷ s) (suc n) b more is = let there = same_byte s n b more is in (omega arith, there.1)

-- The bytes of a number are read where no digit lengthens it within the limit.
pub within_read : (least limit v : ℕ) (s : List ℕ) (n : ℕ) → limit ≤ 10 ^ 64 → least ≤ v → v < limit → n ≤ length s → take n s ≡ decimal v → (n < length s → 48 ≤ get_or s n 0 → get_or s n 0 ≤ 57 → 0 < v → limit ≤ v * 10 + (get_or s n 0 - 48)) → Reads (Within least limit) s (Ok n)
unfolding Within Begins
within_read least limit v s n wide low high fits is stop =
    whole_of (Within least limit) s (take n s) (drop n s) n (sym (take-append-drop n s)) (sym (length-take-le n s fits)) (record {
      begins = ([], (v, low, high, append-nil (take n s) ∙ is));
      ends = λ b more at begins.
          let there = same_byte s n b more at in
          let longer = longer_decimal v begins.1.0 b begins.0 (omega arith) (omega (arith, begins.1.2)) (sym begins.1.3 ∙ append_assoc (take n s) (b ∷ []) begins.0 ∙ ap (λ l. l ++ b ∷ begins.0) is) in
          let here : get_or s n 0 ≡ b = there.1 in
          omega (arith, stop there.0 (omega arith) (omega arith) longer.2, begins.1.2);
    }) (v, low, high, is)

-- Another first byte, or none, is refused at once.
pub within_none : (least limit : ℕ) (s : List ℕ) → least ≤ 1 → 10 ≤ limit → limit ≤ 10 ^ 64 → (get_or s 0 0 < 48 + least) ⊎ (57 < get_or s 0 0) → Reads (Within least limit) s (Err 0)
unfolding Within Begins
within_none least limit s low high wide other = broken_of (Within least limit) s [] s 0 refl refl (record {
  begins = begins_within least limit low high;
  ends = λ b more at begins.
      let first = first_digit begins.1.0 b begins.0 (omega (arith, begins.1.2)) (sym begins.1.3) in
      let here : get_or s 0 0 ≡ b = ap (λ l. get_or l 0 0) at in
      elim other [ inl less ↦ omega (arith, begins.1.1, first.2) | inr more ↦ omega arith ];
}) (no_empty_within least limit wide)

-- One more digit.
pub within_more : (v b : ℕ) (s : List ℕ) (n : ℕ) → n < length s → take n s ≡ decimal v → get_or s n 0 ≡ b → 48 ≤ b → b ≤ 57 → 0 < v → v * 10 + (b - 48) < 10 ^ 64 → take (n + 1) s ≡ decimal (v * 10 + (b - 48))
within_more v b s n within is at low high some small =
    let front : (v * 10 + (b - 48)) / 10 ≡ v = omega arith in
    let last : 48 + (v * 10 + (b - 48)) % 10 ≡ b = omega arith in
    take_more s n 0 within ∙ ap (λ l. l ++ get_or s n 0 ∷ []) is ∙ ap (λ x. decimal v ++ x ∷ []) at
    ∙ sym (decimal_step_wide (v * 10 + (b - 48)) (omega arith) small ∙ (λ i. decimal (front i) ++ (last i ∷ [])))

-- The first digit.
pub within_first : (s : List ℕ) → 48 ≤ get_or s 0 0 → get_or s 0 0 ≤ 57 → (0 < length s) × (take 1 s ≡ decimal (get_or s 0 0 - 48))
within_first [] low high = absurd (omega arith)
within_first (b ∷ s) low high =
    let same : 48 + (b - 48) ≡ b = omega arith in
    (omega arith, ap (λ x. x ∷ []) (sym same) ∙ sym (decimal_digit (b - 48) (omega arith)))

-- numbers of 64 bits

pub begins_count : Begins (Within 0 (2 ^ 64)) []
begins_count = begins_within 0 (2 ^ 64) (omega arith) (omega arith)

pub lengthens_count : Lengthens (Within 0 (2 ^ 64)) IsDigit
lengthens_count = lengthens_within 0 (2 ^ 64) (omega arith)

-- numbers of 128 bits

unfoldable pub Positive : Language
Positive = Within 0 (2 ^ 127)

unfoldable pub Negative : Language
Negative = Then (Fixed (45 ∷ [])) (Within 1 (2 ^ 127 + 1))

pub with_sign : (t : List ℕ) → Or Positive Negative t → BoundText t
unfolding Or Positive Negative Within Then Fixed BoundText
with_sign t (inl (n, low, high, e)) = (pos n, high, e)
with_sign t (inr (a, b, e, minus, (zero, low, high, is))) = absurd (omega arith)
with_sign t (inr (a, b, e, minus, (suc n, low, high, is))) = (negsuc n, omega arith, cc)

pub of_sign : (t : List ℕ) → BoundText t → Or Positive Negative t
unfolding Or Positive Negative Within Then Fixed BoundText
of_sign t (pos n, high, e) = inl (n, omega arith, high, e)
of_sign t (negsuc n, high, e) = inr (45 ∷ [], decimal (suc n), e, refl, (suc n, omega arith, omega arith, refl))

pub no_empty_positive : ¬ Positive []
unfolding Positive
no_empty_positive = no_empty_within 0 (2 ^ 127) (omega arith)

pub no_empty_negative : ¬ Negative []
unfolding Negative
no_empty_negative = no_empty_then _ _ (no_empty_fixed 45 [])

begins_negative : Begins Negative []
unfolding Negative
begins_negative = begins_then _ _ (begins_fixed _) (begins_within 1 (2 ^ 127 + 1) (omega arith) (omega arith))

begins_positive : Begins Positive []
unfolding Positive
begins_positive = begins_within 0 (2 ^ 127) (omega arith) (omega arith)

starts_negative : Starts Negative (λ c. c ≡ 45)
unfolding Negative
starts_negative = starts_then _ _ _ (no_empty_fixed 45 []) (starts_fixed 45 [])

starts_positive : Starts Positive IsDigit
unfolding Positive
starts_positive = starts_within 0 (2 ^ 127) (omega arith)

no_minus : (c : ℕ) → IsDigit c → c ≡ 45 → ⊥
no_minus c digit minus = let wrong : IsDigit 45 = subst IsDigit minus digit in cc

pub bound_positive : (s : List ℕ) (r : Result ℕ ℕ) → get_or s 0 0 ≢ 45 → Reads (Within 0 (2 ^ 127)) s r → Reads BoundText s r
unfolding Positive
bound_positive s r other reads = reads_same (Or Positive Negative) BoundText s r with_sign of_sign
    (reads_or Positive Negative s r (place_other Negative _ s starts_negative begins_negative (λ long. other)) no_empty_negative reads)

pub bound_negative : (s : List ℕ) (r : Result ℕ ℕ) → get_or s 0 0 ≡ 45 → Reads (Within 1 (2 ^ 127 + 1)) (drop 1 s) r → Reads BoundText s (shift 1 r)
unfolding Negative
bound_negative s r minus reads = reads_same (Or Positive Negative) BoundText s (shift 1 r) with_sign of_sign
    (reads_or_other Positive Negative s (shift 1 r) (place_other Positive _ s starts_positive begins_positive (λ long digit. no_minus _ digit minus)) no_empty_positive
    (then_read (Fixed (45 ∷ [])) (Within 1 (2 ^ 127 + 1)) s 1 r (fixed_apart _ _) (fixed_byte 45 s (some s minus) minus) reads)) where
      some : (s : List ℕ) → get_or s 0 0 ≡ 45 → 0 < length s
      some [] e = absurd (omega arith)
      some (b ∷ s) e = omega arith

pub no_empty_bound : ¬ BoundText []
no_empty_bound text = neither Positive Negative no_empty_positive no_empty_negative (of_sign [] text)

pub begins_bound : Begins BoundText []
unfolding Begins BoundText
begins_bound = (decimal 1, (pos 1, omega arith, refl))

lengthens_same : (A B : Language) (P : ℕ → Type 0) → ((t : List ℕ) → A t → B t) → ((t : List ℕ) → B t → A t) → Lengthens A P → Lengthens B P
unfolding Lengthens Begins
lengthens_same A B P to back lengthens x c text (more, longer) = lengthens x c (back x text) (more, back _ longer)

lengthens_negative : Lengthens Negative IsDigit
unfolding Negative
lengthens_negative = lengthens_then _ _ _ (fixed_apart _ _) (no_empty_within 1 (2 ^ 127 + 1) (omega arith)) (lengthens_within 1 (2 ^ 127 + 1) (omega arith))

lengthens_positive : Lengthens Positive IsDigit
unfolding Positive
lengthens_positive = lengthens_within 0 (2 ^ 127) (omega arith)

pub lengthens_bound : Lengthens BoundText IsDigit
lengthens_bound = lengthens_same (Or Positive Negative) BoundText _ with_sign of_sign
    (lengthens_or Positive Negative _ _ IsDigit no_empty_positive no_empty_negative starts_positive starts_negative no_minus lengthens_positive lengthens_negative)
