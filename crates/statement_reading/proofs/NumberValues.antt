-- The numbers that digits are written for.
use Rattle.std.proofs.Common.{◌≡◌, ◌≢◌, ℕ, suc, ◌+◌, ◌-◌, ◌^◌, ◌<◌, inl, inr, List, [], ◌∷◌, ◌++◌, length, take, drop, get_or, refl, sym, ◌∙◌, ap, subst, arith, decimal, ℤ, pos, negsuc, Result, Ok, Err}
use Rattle.std.specs.Fmt.{signed_decimal}
use Rattle.std.specs.Str.Parse.{digits_value}
use Rattle.std.proofs.lemmas.Fmt.{decimal_is_IsNumeral_wide}
use Rattle.std.proofs.lemmas.List.{take_all}
use Rattle.std.proofs.Math.Nat.{eq-or-lt_of_le}
use Rattle.grammar.specs.Language.{Language, Reads, Fixed, Then, Or}
use Rattle.grammar.proofs.Choices.{neither}
use Rattle.grammar.proofs.Places.{begins_text}
use Rattle.statement_reading.specs.Parts.{Within, BoundText}
use Rattle.statement_forms.specs.Number.{IsI128}
use Rattle.statement_reading.proofs.NumberReads.{Positive, Negative, of_sign, first_digit, no_empty_positive, no_empty_negative}

all_taken : (L : Language) (s : List ℕ) → L s → L (take (length s) s)
all_taken L s text = subst L (sym (take_all (length s) s (omega arith))) text

-- A text is read to its end.
pub whole_read : (L : Language) (s : List ℕ) (r : Result ℕ ℕ) → L s → Reads L s r → r ≡ Ok (length s)
whole_read L s (Ok p) text reads = elim (eq-or-lt_of_le reads.place.within) [
  | inl is ↦ ap Ok is
  | inr less ↦ absurd (reads.place.ends (length s) less (omega arith) (begins_text L _ (all_taken L s text)))
]
whole_read L s (Err p) text reads = elim (eq-or-lt_of_le reads.place.within) [
  | inl is ↦ absurd (reads.text (subst L (sym (take_all p s (omega arith))) text))
  | inr less ↦ absurd (reads.place.ends (length s) less (omega arith) (begins_text L _ (all_taken L s text)))
]

-- A text is not refused.
pub not_refused : (L : Language) (s : List ℕ) (p : ℕ) → L s → Reads L s (Err p) → ⊥
not_refused L s p text reads = cc (whole_read L s (Err p) text reads)

-- The whole text is what was read.
pub value_read : (L : Language) (s t : List ℕ) (p : ℕ) → L s → Reads L s (Ok p) → take p s ≡ t → t ≡ s
value_read L s t p text reads is =
    let size : p ≡ length s = cc (whole_read L s (Ok p) text reads) in
    sym is ∙ take_all p s (omega arith)

-- the sign of a number of 128 bits

no_empty_bound : ¬ Or Positive Negative []
unfolding Or
no_empty_bound = neither Positive Negative no_empty_positive no_empty_negative

some_bytes : (t : List ℕ) → Or Positive Negative t → 0 < length t
some_bytes [] text = absurd (no_empty_bound text)
some_bytes (c ∷ t) text = omega arith

pub bound_size : (t : List ℕ) → BoundText t → 0 < length t
bound_size t text = some_bytes t (of_sign t text)

pub bound_without : (t : List ℕ) → BoundText t → get_or t 0 0 ≢ 45 → Within 0 (2 ^ 127) t
unfolding Or Positive Negative Then Fixed
bound_without t text other = elim (of_sign t text) [
  | inl positive ↦ positive
  | inr (a, b, e, minus, negative) ↦ absurd (other (ap (λ l. get_or l 0 0) (e ∙ ap (λ l. l ++ b) minus)))
]

not_positive : (n : ℕ) (t : List ℕ) → n < 2 ^ 127 → t ≡ decimal n → get_or t 0 0 ≢ 45
not_positive n [] small is minus = omega arith
not_positive n (c ∷ t) small is minus = omega (arith, (first_digit n c t (omega arith) (sym is)).0)

pub bound_with : (t : List ℕ) → BoundText t → get_or t 0 0 ≡ 45 → Within 1 (2 ^ 127 + 1) (drop 1 t) × (t ≡ 45 ∷ drop 1 t)
unfolding Or Positive Negative Within Then Fixed
bound_with t text minus = elim (of_sign t text) [
  | inl (n, low, high, is) ↦ absurd (not_positive n t high is minus)
  | inr (a, b, e, sign, (n, low, high, is)) ↦ (
      let split : t ≡ 45 ∷ b = e ∙ ap (λ l. l ++ b) sign in
      let rest : drop 1 t ≡ b = ap (drop 1) split in
      ((n, low, high, rest ∙ is), split ∙ ap (λ l. 45 ∷ l) (sym rest))
      )
]

-- The digits of a number of 128 bits after its sign.
pub negative_text : (n : ℕ) (t : List ℕ) → 0 < n → t ≡ 45 ∷ drop 1 t → decimal n ≡ drop 1 t → signed_decimal (negsuc (n - 1)) ≡ t
negative_text n t some split is =
    let same : suc (n - 1) ≡ n = omega arith in
    ap (λ k. 45 ∷ decimal k) same ∙ ap (λ l. 45 ∷ l) is ∙ sym split

-- two numbers that are written alike are the same

pub one_decimal : (m n : ℕ) → m < 10 ^ 64 → n < 10 ^ 64 → decimal m ≡ decimal n → m ≡ n
one_decimal m n p q e = sym (decimal_is_IsNumeral_wide m p).1 ∙ ap (digits_value 10) e ∙ (decimal_is_IsNumeral_wide n q).1

no_minus : (n : ℕ) (ds : List ℕ) → n < 10 ^ 64 → decimal n ≡ 45 ∷ ds → ⊥
no_minus n ds small e = omega (arith, (first_digit n 45 ds small e).0)

pub one_bound : (y z : ℤ) → IsI128 y → IsI128 z → signed_decimal y ≡ signed_decimal z → y ≡ z
one_bound (pos m) (pos n) p q e = ap pos (one_decimal m n (omega arith) (omega arith) e)
one_bound (pos m) (negsuc n) p q e = absurd (no_minus m _ (omega arith) e)
one_bound (negsuc m) (pos n) p q e = absurd (no_minus n _ (omega arith) (sym e))
one_bound (negsuc m) (negsuc n) p q e = ap negsuc (omega (arith, one_decimal (suc m) (suc n) (omega arith) (omega arith) (ap (drop 1) e)))

-- numbers as parts

pub count_text : (n : ℕ) → n < 2 ^ 64 → Within 0 (2 ^ 64) (decimal n)
unfolding Within
count_text n small = (n, omega arith, small, refl)

pub count_of : (t : List ℕ) → Within 0 (2 ^ 64) t → (n : ℕ) × (n < 2 ^ 64) × (t ≡ decimal n)
unfolding Within
count_of t (n, low, high, is) = (n, high, is)

pub one_count : (m n : ℕ) → m < 2 ^ 64 → n < 2 ^ 64 → decimal m ≡ decimal n → m ≡ n
one_count m n p q e = one_decimal m n (omega arith) (omega arith) e

pub bound_text : (z : ℤ) → IsI128 z → BoundText (signed_decimal z)
unfolding BoundText
bound_text z small = (z, small, refl)

pub bound_of : (t : List ℕ) → BoundText t → (z : ℤ) × IsI128 z × (t ≡ signed_decimal z)
unfolding BoundText
bound_of t (z, small, is) = (z, small, is)
