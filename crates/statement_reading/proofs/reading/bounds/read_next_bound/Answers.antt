use Rattle.std.proofs.Common.{arith}
use Rattle.std.proofs.lemmas.Grind.{common_steps}
use Rattle.grammar.proofs.Places.{passed_on}
use Rattle.grammar.proofs.Rows.{reads_then, reads_stuck}
use Rattle.grammar.proofs.Leaves.{fixed_apart}
use Rattle.statement_reading.proofs.NumberReads.{begins_bound}
use Rattle.statement_reading.specs.Parts.{NextBound}
use Rattle.statement_reading.proofs.reading.bounds.read_next_bound.Goals as goal

pub returns-in_err-comma : goal.returns-in_err-comma
unfolding NextBound
returns-in_err-comma c = passed_on _ _ _ _ _ c.in_err-comma.was (grind (arith, common_steps)) (reads_stuck _ _ _ _ _ (fixed_apart _ _) begins_bound c.in_err-comma.was c.read_fixed.ensures)

pub returns : goal.returns
unfolding NextBound
returns c = reads_then _ _ _ _ _ _ _ (fixed_apart _ _) c.read_fixed.ensures c.in_ok-comma.was c.read_bound.ensures c.after.ensures
