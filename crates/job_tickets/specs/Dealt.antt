-- Numbers that stand in one of several lists, each once.
use Rattle.std.specs.Prelude.{◌≡◌, ℕ, ◌<◌, ◌≤◌, nat_eq, nat_lt, if◌then◌else◌, List, length, sum_by, count_by, slice_index}
use mathlib.Core.Option.{some}
use lib.ListN.{get_elem?}

-- how often the number stands in the list
abbrev pub times : ℕ → List ℕ → ℕ
times number drawn = count_by (λ other. nat_eq other number) drawn

-- 1 for a number below the count, else 0
abbrev pub once_below : ℕ → ℕ → ℕ
once_below count number = if nat_lt number count then 1 else 0

-- each number below the count stands in one of the lists, once, and no other number stands in any
abbrev pub AreDealt : ℕ → List (List ℕ) → Type 0
AreDealt count lists = (number : ℕ) → sum_by (times number) lists ≡ once_below count number

-- one of the numbers is past the last of so many jobs
pub record IsPast (jobs : ℕ) (drawn : List ℕ) : Type 0 where
  pub place : ℕ
  pub there : place < length drawn
  pub past : jobs ≤ slice_index drawn place

-- the number of each of so many jobs stands in exactly one of the lists, once
abbrev pub JobsStandOnce : ℕ → List (List ℕ) → Type 0
JobsStandOnce jobs lists = (job : ℕ) → job < jobs → sum_by (times job) lists ≡ 1

-- where a seat went on past the last job, each job's number was drawn by exactly one seat, once
abbrev pub JobsAreDrawnOnce : Type 0
JobsAreDrawnOnce = (count jobs place : ℕ) (lists : List (List ℕ)) (drawn : List ℕ)
    → AreDealt count lists → get_elem? lists place ≡ some drawn → IsPast jobs drawn
    → JobsStandOnce jobs lists
