-- What appending takes of the room that is there.
use Rattle.std.specs.Prelude.{ℕ, ◌≡◌, ◌+◌, ◌≤◌, List, length, Result, IsOk}

-- where the text fits in the room, the call answers Ok and takes just the text's length of it
abbrev pub TakesRoom : {X E : Type 0} → Result X E → ℕ → ℕ → List ℕ → Type 0
TakesRoom result old new text = length text ≤ old → IsOk result × (new + length text ≡ old)
