use Rattle.std.proofs.Common.{◌≤◌, ◌-◌, take, length}
use Rattle.sql_literals.specs.Runs.{AppendsEscaped}
use Rattle.sql_literals.proofs.text.push_escaped.Given as goal

abbrev pub invariant-runs : goal.invariant-runs
invariant-runs l = (l.done ≤ length l.bytes) × AppendsEscaped (take l.done l.bytes) l.initial.out l.out

abbrev pub decreases-runs : goal.decreases-runs
decreases-runs l = length l.initial.bytes - l.done
