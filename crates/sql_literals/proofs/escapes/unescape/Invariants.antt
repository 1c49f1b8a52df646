use Rattle.std.proofs.Common.{◌≡◌, ◌-◌, ◌≤◌, ◌++◌, drop, length}
use Rattle.sql_cells.specs.Spelling.{text_value}
use Rattle.sql_literals.proofs.escapes.unescape.Given as goal

abbrev pub invariant-runs : goal.invariant-runs
invariant-runs l = (l.done ≤ length l.inner) × (l.made.items ++ text_value (drop l.done l.inner) ≡ text_value l.inner)

abbrev pub decreases-runs : goal.decreases-runs
decreases-runs l = length l.initial.inner - l.done
