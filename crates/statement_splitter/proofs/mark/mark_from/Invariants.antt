use Rattle.std.proofs.Common.{◌-◌, length}
use Rattle.splitter_forms.specs.Scan.{before_mark}
use Rattle.statement_splitter.specs.State.{GoesOn, dollar_mark}
use Rattle.statement_splitter.proofs.mark.mark_from.Given as goal

abbrev pub invariant-firsts : goal.invariant-firsts
invariant-firsts l = GoesOn (before_mark (dollar_mark l.first l.dollars l.last)) (before_mark (dollar_mark l.first l.dollars l.last)) l.bytes l.from l.at

abbrev pub decreases-firsts : goal.decreases-firsts
decreases-firsts l = length l.bytes - l.at
