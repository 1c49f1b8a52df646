use Rattle.std.proofs.Common.{◌-◌, length}
use Rattle.sql_literals.specs.Runs.{PlainRun}
use Rattle.sql_literals.proofs.text.known_until.Given as goal

abbrev pub invariant-wide : goal.invariant-wide
invariant-wide l = PlainRun l.bytes l.from l.seen

abbrev pub decreases-wide : goal.decreases-wide
decreases-wide l = length l.initial.bytes - l.seen
