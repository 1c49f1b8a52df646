-- The grammar of numbers: what comes first, what lengthens them, and how they are read.
use Rattle.std.proofs.Common.{◌≡◌, ◌≢◌, ℕ, ◌⊎◌, inl, inr, true, List, [], ◌∷◌, get_or, refl, subst, arith, Ok, Err}
use Rattle.std.specs.List.{prefix_len}
use Rattle.std.proofs.lemmas.List.Sums.{prefix_len-le-length, prefix_len_passes, prefix_len_stops}
use Rattle.grammar.specs.Language.{Begins, Reads, Then, Longest, Absent}
use Rattle.grammar.proofs.Choices.{reads_optional}
use Rattle.grammar.proofs.Empty.{no_empty_fixed, no_empty_one, no_empty_then, no_empty_after, begins_one, begins_then, begins_optional}
use Rattle.grammar.proofs.Leaves.{fixed_apart, fixed_byte, fixed_other, one_apart, run_some, run_none}
use Rattle.grammar.proofs.Repeats.{begins_many}
use Rattle.grammar.proofs.Rows.{Apart, then_broken}
use Rattle.grammar.proofs.Sets.{Starts, Lengthens, apart_by, starts_fixed, starts_one, starts_then, starts_row, starts_optional, starts_wider, starts_many, lengthens_fixed, lengthens_one, lengthens_then, lengthens_before, lengthens_optional, lengthens_wider, lengthens_many}
use Rattle.grammar.proofs.Skips.{longest_whole, longest_optional, none_row}
use Rattle.sql_literals.proofs.Fulls.{Full, none_full, full_then, full_digits}
use Rattle.plain_data.specs.Byte.{is_digit}
use Rattle.sql_cells.specs.Number.{Digits, Sign, Point, Fraction, Number}

abbrev pub IsDigit : ℕ → Type 0
IsDigit b = is_digit b ≡ true

-- a digit or the minus
abbrev pub IsNumberStart : ℕ → Type 0
IsNumberStart b = (b ≡ 45) ⊎ IsDigit b

-- a digit or the point
abbrev pub IsNumberMore : ℕ → Type 0
IsNumberMore b = (b ≡ 46) ⊎ IsDigit b

pub no_empty_digits : ¬ Digits []
unfolding Digits
no_empty_digits = no_empty_then _ _ (no_empty_one is_digit)

pub begins_digits : Begins Digits []
unfolding Digits
begins_digits = begins_then _ _ (begins_one is_digit 48 refl) (begins_many _)

starts_digits : Starts Digits IsDigit
unfolding Digits
starts_digits = starts_then _ _ _ (no_empty_one is_digit) (starts_one is_digit)

lengthens_digits : Lengthens Digits IsDigit
unfolding Digits
lengthens_digits =
    lengthens_before _ _ _ (one_apart is_digit _) (lengthens_one is_digit _)
    (starts_many _ _ (no_empty_one is_digit) (starts_one is_digit))
    (lengthens_many _ _ (one_apart is_digit _) (no_empty_one is_digit) (starts_one is_digit) (lengthens_one is_digit _))

pub digits_some : (s : List ℕ) (n : ℕ) → n ≢ 0 → n ≡ prefix_len is_digit s → Reads Digits s (Ok n)
unfolding Digits
digits_some s n some is = rw is (run_some is_digit s (prefix_len is_digit s) (omega arith) (prefix_len-le-length is_digit s) (λ k h. prefix_len_passes is_digit s k 0 h) (prefix_len_stops is_digit s 0))

pub digits_none : (s : List ℕ) → 0 ≡ prefix_len is_digit s → Reads Digits s (Err 0)
unfolding Digits
digits_none s is = run_none is_digit 48 refl s (λ long. rw (← is) at (prefix_len_stops is_digit s 0 (omega arith)))

-- the sign

starts_sign : Starts Sign (λ c. c ≡ 45)
unfolding Sign
starts_sign = starts_optional _ _ (starts_fixed 45 [])

pub sign_there : (s : List ℕ) → get_or s 0 0 ≡ 45 → Reads Sign s (Ok 1)
unfolding Sign
sign_there [] is = absurd (omega arith)
sign_there (b ∷ s) is = reads_optional _ _ (Ok 1) _ (fixed_byte 45 (b ∷ s) (omega arith) is) refl

pub sign_none : (s : List ℕ) → get_or s 0 0 ≢ 45 → Reads Sign s (Ok 0)
unfolding Sign
sign_none s other = reads_optional _ _ (Err 0) _ (fixed_other 45 [] s (λ long. other)) refl

pub apart_sign : Apart Sign Digits
unfolding Sign
apart_sign = apart_by _ _ (λ c. c ≡ 45) _ (lengthens_optional _ _ (lengthens_fixed _ _) (starts_fixed 45 [])) starts_digits
    (λ c minus digit. let wrong : IsDigit 45 = subst IsDigit minus digit in cc)

-- the whole part

lengthens_whole : Lengthens (Then Sign Digits) IsDigit
lengthens_whole = lengthens_then _ _ _ apart_sign no_empty_digits lengthens_digits

starts_whole : Starts (Then Sign Digits) IsNumberStart
starts_whole = starts_row _ _ _ (starts_wider _ _ _ (λ c e. inl e) starts_sign) (starts_wider _ _ _ (λ c d. inr d) starts_digits)

-- the fraction

full_point : Full Point
unfolding Point
full_point = full_then _ _ (fixed_apart _ _) no_empty_digits full_digits

starts_point : Starts Point (λ c. c ≡ 46)
unfolding Point
starts_point = starts_then _ _ _ (no_empty_fixed 46 []) (starts_fixed 46 [])

starts_fraction : Starts Fraction (λ c. c ≡ 46)
unfolding Fraction
starts_fraction = starts_optional _ _ starts_point

lengthens_fraction : Lengthens Fraction IsNumberMore
unfolding Fraction Point
lengthens_fraction = lengthens_optional _ _
    (lengthens_wider _ _ _ (λ c d. inr d) (lengthens_then _ _ _ (fixed_apart _ _) no_empty_digits lengthens_digits))
    (starts_wider _ _ _ (λ c e. inl e) starts_point)

pub begins_fraction : Begins Fraction []
unfolding Fraction
begins_fraction = begins_optional _

pub apart_whole : Apart (Then Sign Digits) Fraction
apart_whole = apart_by _ _ _ _ lengthens_whole starts_fraction (λ c digit point. let wrong : IsDigit 46 = subst IsDigit point digit in cc)

-- A point and digits are the longest fraction, and where they are broken off it is empty.

pub fraction_there : (s : List ℕ) (n : ℕ) → Reads Point s (Ok n) → Longest Fraction s n
unfolding Fraction
fraction_there s n reads = longest_whole _ s n (reads_optional _ s (Ok n) _ reads refl)

pub fraction_none : (s : List ℕ) (p : ℕ) → Reads Point s (Err p) → Longest Fraction s 0
unfolding Fraction
fraction_none s p broken = longest_optional _ s (none_full _ s p full_point broken)

-- numbers

pub number_broken : (s : List ℕ) (p : ℕ) → Reads (Then Sign Digits) s (Err p) → Absent Number s p
unfolding Number
number_broken s p broken = record {
  at = (then_broken _ _ s p apart_whole begins_fraction broken).place;
  no_text = none_row _ _ s (none_full _ s p (full_then _ _ apart_sign no_empty_digits full_digits) broken);
}

pub no_empty_number : ¬ Number []
unfolding Number
no_empty_number = no_empty_then _ _ (no_empty_after _ _ no_empty_digits)

pub begins_number : Begins Number []
unfolding Number Sign
begins_number = begins_then _ _ (begins_then _ _ (begins_optional _) begins_digits) begins_fraction

pub starts_number : Starts Number IsNumberStart
unfolding Number
starts_number = starts_then _ _ _ (no_empty_after _ _ no_empty_digits) starts_whole

pub lengthens_number : Lengthens Number IsNumberMore
unfolding Number
lengthens_number = lengthens_before _ _ _ apart_whole (lengthens_wider _ _ _ (λ c d. inr d) lengthens_whole) (starts_wider _ _ _ (λ c e. inl e) starts_fraction) lengthens_fraction
