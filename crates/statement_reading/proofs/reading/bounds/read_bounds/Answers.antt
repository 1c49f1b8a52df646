use Rattle.std.proofs.Common.{arith}
use Rattle.std.proofs.lemmas.Grind.{common_steps}
use Rattle.grammar.proofs.Places.{passed_on}
use Rattle.grammar.proofs.Rows.{reads_then, reads_stuck}
use Rattle.statement_reading.proofs.BoundReads.{apart_first_bound, begins_times_bound}
use Rattle.statement_reading.specs.Parts.{BoundsAnd}
use Rattle.statement_reading.proofs.reading.bounds.read_bounds.Goals as goal

pub returns-in_err-first : goal.returns-in_err-first
unfolding BoundsAnd
returns-in_err-first c = passed_on _ _ _ _ _ c.in_err-first.was (grind (arith, common_steps)) (reads_stuck _ _ _ _ _ (apart_first_bound _) (begins_times_bound _) c.in_err-first.was c.read_bound.ensures)

pub returns : goal.returns
unfolding BoundsAnd
returns c = reads_then _ _ _ _ _ _ _ (apart_first_bound _) c.read_bound.ensures c.in_ok-first.was c.read_next_bounds.ensures c.after.ensures
