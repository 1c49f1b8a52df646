-- The grammar of numbers with commas between them, and how they are read.
use Rattle.std.proofs.Common.{◌≡◌, ℕ, ◌+◌, ◌-◌, ◌<◌, ◌⊎◌, inl, inr, true, List, [], length, take, drop, refl, subst, arith, Ok, Err}
use Rattle.grammar.specs.Language.{Begins, Reads, Nothing, Then, Times, Many}
use Rattle.grammar.proofs.Empty.{no_empty_fixed, no_empty_then, begins_fixed, begins_then}
use Rattle.grammar.proofs.Leaves.{fixed_apart}
use Rattle.grammar.proofs.Onward.{Onward, onward_start, onward_alone, onward_counted, onward_counted_broken, onward_none, onward_done}
use Rattle.grammar.proofs.Repeats.{apart_many, begins_times}
use Rattle.grammar.proofs.Rows.{Apart}
use Rattle.grammar.proofs.Sets.{Starts, Lengthens, apart_by, starts_fixed, starts_then, starts_row, starts_nothing, starts_many, starts_times, starts_wider, lengthens_wider, lengthens_then, lengthens_before, lengthens_times}
use Rattle.statement_reading.specs.Parts.{BoundText, NextBound, BoundsAnd, is_decimal_digit}
use Rattle.statement_reading.proofs.DigestReads.{nothing_begun}
use Rattle.statement_reading.proofs.NumberReads.{begins_bound, lengthens_bound, no_empty_bound}

abbrev IsDigit : ℕ → Type 0
IsDigit c = is_decimal_digit c ≡ true

no_comma : (c : ℕ) → IsDigit c → c ≡ 44 → ⊥
no_comma c digit comma = let wrong : IsDigit 44 = subst IsDigit comma digit in cc

pub no_empty_next_bound : ¬ NextBound []
unfolding NextBound
no_empty_next_bound = no_empty_then _ _ (no_empty_fixed 44 [])

pub begins_next_bound : Begins NextBound []
unfolding NextBound
begins_next_bound = begins_then _ _ (begins_fixed _) begins_bound

starts_next_bound : Starts NextBound (λ c. c ≡ 44)
unfolding NextBound
starts_next_bound = starts_then _ _ _ (no_empty_fixed 44 []) (starts_fixed 44 [])

lengthens_next_bound : Lengthens NextBound IsDigit
unfolding NextBound
lengthens_next_bound = lengthens_then _ _ _ (fixed_apart _ _) no_empty_bound lengthens_bound

starts_times_bound : (n : ℕ) → Starts (Times NextBound n) (λ c. c ≡ 44)
starts_times_bound n = starts_times NextBound _ n no_empty_next_bound starts_next_bound

pub apart_first_bound : (n : ℕ) → Apart BoundText (Times NextBound n)
apart_first_bound n = apart_by _ _ _ _ lengthens_bound (starts_times_bound n) no_comma

pub apart_first_bounds : Apart BoundText (Many NextBound)
apart_first_bounds = apart_by _ _ _ _ lengthens_bound (starts_many _ _ no_empty_next_bound starts_next_bound) no_comma

apart_next_bounds : Apart NextBound (Many NextBound)
apart_next_bounds = apart_many NextBound (apart_by _ _ _ _ lengthens_next_bound starts_next_bound no_comma) no_empty_next_bound

pub begins_times_bound : (n : ℕ) → Begins (Times NextBound n) []
begins_times_bound n = begins_times NextBound n begins_next_bound

pub begins_bounds : (n : ℕ) → Begins (BoundsAnd n) []
unfolding BoundsAnd
begins_bounds n = begins_then _ _ begins_bound (begins_times_bound n)

-- Only a digit or a comma lengthens numbers with commas between them.
pub lengthens_bounds : (n : ℕ) → Lengthens (BoundsAnd n) (λ c. (IsDigit c) ⊎ (c ≡ 44))
unfolding BoundsAnd
lengthens_bounds n = lengthens_before _ _ _ (apart_first_bound n) (lengthens_wider _ _ _ (λ c digit. inl digit) lengthens_bound)
    (starts_wider _ _ _ (λ c comma. inr comma) (starts_times_bound n))
    (lengthens_times NextBound _ n apart_next_bounds no_empty_next_bound (lengthens_wider _ _ _ (λ c digit. inl digit) lengthens_next_bound))

-- reading the numbers after the first

apart_counted : (n : ℕ) → Apart NextBound (Then (Times NextBound n) Nothing)
apart_counted n = apart_by _ _ _ _ lengthens_next_bound (starts_row _ _ _ (starts_times_bound n) (starts_nothing _)) no_comma

begins_counted : (n : ℕ) → Begins (Then (Times NextBound n) Nothing) []
begins_counted n = begins_then _ _ (begins_times_bound n) nothing_begun

pub later_start : (n : ℕ) (s : List ℕ) → Onward (Times NextBound n) (Then (Times NextBound (n - 0)) Nothing) s 0
later_start n s = subst (λ m. Onward (Times NextBound n) (Then (Times NextBound m) Nothing) s 0) (omega arith) (onward_alone _ _ s 0 (onward_start (Times NextBound n) s))

pub later_more : (n : ℕ) (s : List ℕ) (i at k : ℕ) → i < n → Onward (Times NextBound n) (Then (Times NextBound (n - i)) Nothing) s at → Reads NextBound (take (length s - at) (drop at s)) (Ok k) → Onward (Times NextBound n) (Then (Times NextBound (n - (i + 1))) Nothing) s (at + k)
later_more n s i at k few onward reads =
    subst (λ m. Onward (Times NextBound n) (Then (Times NextBound m) Nothing) s (at + k)) (omega arith)
    (onward_counted (Times NextBound n) NextBound Nothing s at k (n - i) (Ok k) onward (omega arith) (apart_counted (n - i - 1)) reads refl)

pub later_broken : (n : ℕ) (s : List ℕ) (i at p : ℕ) → i < n → Onward (Times NextBound n) (Then (Times NextBound (n - i)) Nothing) s at → Reads NextBound (take (length s - at) (drop at s)) (Err p) → Reads (Times NextBound n) s (Err (at + p))
later_broken n s i at p few onward reads =
    onward_counted_broken (Times NextBound n) NextBound Nothing s at p (n - i) (Err p) onward (omega arith) (apart_counted (n - i - 1)) (begins_counted (n - i - 1)) reads refl

pub later_end : (n : ℕ) (s : List ℕ) (i at : ℕ) → i ≡ n → Onward (Times NextBound n) (Then (Times NextBound (n - i)) Nothing) s at → Reads (Times NextBound n) s (Ok at)
later_end n s i at all onward =
    onward_done _ s at (onward_none _ NextBound Nothing s at (subst (λ m. Onward (Times NextBound n) (Then (Times NextBound m) Nothing) s at) (omega arith) onward))
