use Rattle.std.proofs.Common.{◌-◌}
use Rattle.statement_reading.proofs.Rows.{Passed}
use Rattle.statement_reading.proofs.read.statement_read.Given as goal

abbrev pub invariant-loop-kind : goal.invariant-loop-kind
invariant-loop-kind l = Passed (59 - l.kind-index) l.text l.place
