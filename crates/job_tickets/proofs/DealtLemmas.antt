-- Sums over lists that change in one place, and how often a number stands in a list.
use Rattle.std.proofs.Common.{◌≡◌, ℕ, zero, suc, ◌+◌, ◌*◌, ◌<◌, ◌≤◌, cond, List, [], ◌∷◌, ◌++◌, length, get_or, set, sym, refl, ap, ◌∙◌, sum_by, nat_eq, arith}
use Rattle.std.proofs.lemmas.Bool.Decides.{nat_tests}
use Rattle.std.proofs.lemmas.List.Sums.{sum_by-cons, sum_by-append, sum_by_push, get_or-le-sum_by}
use mathlib.Core.Option.{some, some-injective, some-ne-none}
use lib.ListN.{get_elem?}
use Rattle.job_tickets.specs.Dealt.{times, once_below, JobsAreDrawnOnce}

module _ {X : Type 0} (f : X → ℕ) where
  -- a sum after one member became another
  pub sum-set : (xs : List X) (place : ℕ) (old new : X) → get_elem? xs place ≡ some old
      → sum_by f (set xs place new) + f old ≡ sum_by f xs + f new
  sum-set [] place old new at = absurd (some-ne-none old (sym at))
  sum-set (x ∷ xs) zero old new at =
      omega (arith, sum_by-cons f new xs, sum_by-cons f x xs, ap f (some-injective x old at))
  sum-set (x ∷ xs) (suc place) old new at =
      omega (arith, sum_by-cons f x (set xs place new), sum_by-cons f x xs, sum-set xs place old new at)

  -- a member is within the sum
  pub member-le-sum : (xs : List X) (place : ℕ) (x : X) → get_elem? xs place ≡ some x → f x ≤ sum_by f xs
  member-le-sum [] place x at = absurd (some-ne-none x (sym at))
  member-le-sum (y ∷ xs) zero x at = omega (arith, sum_by-cons f y xs, ap f (some-injective y x at))
  member-le-sum (y ∷ xs) (suc place) x at = omega (arith, sum_by-cons f y xs, member-le-sum xs place x at)

module _ {X : Type 0} (f g : X → ℕ) where
  -- where no member of one sum is over 2^32 times that of the other, the sum isn't either
  pub sum-le : (xs : List X)
      → ((place : ℕ) (x : X) → get_elem? xs place ≡ some x → f x ≤ 4294967296 * g x)
      → sum_by f xs ≤ 4294967296 * sum_by g xs
  sum-le [] each = omega arith
  sum-le (x ∷ xs) each = omega (
    arith,
    sum_by-cons f x xs,
    sum_by-cons g x xs,
    each 0 x refl,
    sum-le xs (λ place y at. each (suc place) y at),
  )

  -- nor is the sum over all other members than one
  pub others-le : (xs : List X) (place : ℕ) (x : X)
      → ((place : ℕ) (x : X) → get_elem? xs place ≡ some x → f x ≤ 4294967296 * g x)
      → get_elem? xs place ≡ some x → sum_by f xs + 4294967296 * g x ≤ f x + 4294967296 * sum_by g xs
  others-le [] place x each at = absurd (some-ne-none x (sym at))
  others-le (y ∷ xs) zero x each at = omega (
    arith,
    sum_by-cons f y xs,
    sum_by-cons g y xs,
    ap f (some-injective y x at),
    ap g (some-injective y x at),
    sum-le xs (λ place y at. each (suc place) y at),
  )
  others-le (y ∷ xs) (suc place) x each at = omega (
    arith,
    sum_by-cons f y xs,
    sum_by-cons g y xs,
    each 0 y refl,
    others-le xs place x (λ place y at. each (suc place) y at) at,
  )

-- a number more
pub times-push : (number : ℕ) (drawn : List ℕ) (last : ℕ)
    → times number (drawn ++ last ∷ []) ≡ times number drawn + cond (nat_eq last number) 1 0
times-push number drawn last = sum_by_push (λ other. cond (nat_eq other number) 1 0) drawn last

-- two lists together
pub times-append : (number : ℕ) (one other : List ℕ)
    → times number (one ++ other) ≡ times number one + times number other
times-append number one other = sum_by-append (λ other. cond (nat_eq other number) 1 0) one other

-- a number that stands in the list stands there once at least
pub times-here : (drawn : List ℕ) (place other : ℕ) → place < length drawn
    → 1 ≤ times (get_or drawn place other) drawn
times-here drawn place other within =
    let number = get_or drawn place other in
    let here : cond {A = ℕ} (nat_eq number number) 1 0 ≡ 1 = grind (arith, nat_tests) in
    omega (arith, get_or-le-sum_by (λ other. cond (nat_eq other number) 1 0) drawn place other within)

-- the numbers below one more
pub once-more : (count number : ℕ)
    → once_below (count + 1) number ≡ once_below count number + cond (nat_eq count number) 1 0
once-more count number = grind (arith, nat_tests)

-- a number that stands once at least is below
pub once-is-below : (count number : ℕ) → 1 ≤ once_below count number → number < count
once-is-below count number there = grind (arith, nat_tests)

-- a number below stands once
once-below-is : (count number : ℕ) → number < count → once_below count number ≡ 1
once-below-is count number below = grind (arith, nat_tests)

pub jobs_drawn_once : JobsAreDrawnOnce
jobs_drawn_once count jobs place lists drawn dealt at past job below =
    let last = get_or drawn past.place 0 in
    let dealt_last : last < count = once-is-below count last (omega (
      arith,
      times-here drawn past.place 0 past.there,
      member-le-sum (times last) lists place drawn at,
      dealt last,
    )) in
    dealt job ∙ once-below-is count job (omega (arith, past.past))
