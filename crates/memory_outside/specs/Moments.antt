-- What a sink and a clock in memory hold.
use Rattle.std.specs.Prelude.{ℕ, Bool, List, [], ◌∷◌, ◌++◌, ◌+◌, ◌-◌, ◌^◌, ◌==◌, min, zero, suc, slice_index, length, if◌then◌else◌}
use Rattle.memory_outside.specs.Script.{Counts}

-- what was written, and the calls that are to fail
pub record SinkState : Type 0 where
  pub written : List ℕ
  pub script : Counts

-- the times to give, how many answers were given, and the calls that are to fail
pub record ClockState : Type 0 where
  pub times : List ℕ
  pub answers : ℕ
  pub script : Counts

-- the answer of this number: the last time again past the end, and 0 where there is none
abbrev pub time_at : List ℕ → ℕ → ℕ
time_at times number = slice_index times (min number (length times - 1))

-- the first so many answers
abbrev pub given_of : List ℕ → ℕ → List ℕ
given_of times zero = []
given_of times (suc count) = given_of times count ++ time_at times count ∷ []

-- whether the clock has given as many answers as it can count
abbrev pub is_used_up : ClockState → Bool
is_used_up clock = clock.answers == 2 ^ 64 - 1

-- the clock was asked for the time, has answered or failed, and these calls are counted
abbrev pub clock_after_now : ClockState → Bool → Counts → ClockState
clock_after_now old ok script = record old {
  answers = if ok then old.answers + 1 else old.answers;
  script = script;
}
