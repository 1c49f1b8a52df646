use Rattle.std.proofs.Common.{◌≡◌, ℕ, ◌<◌, ◌≤◌, false, get_or}
use Rattle.sql_cells.specs.Literal.{is_special}
use Rattle.sql_literals.proofs.special.plain_from.Given as goal

abbrev pub invariant-loop-i : goal.invariant-loop-i
invariant-loop-i l = (k : ℕ) → l.from ≤ k → k < l.i → is_special (get_or l.bytes k 0) ≡ false
