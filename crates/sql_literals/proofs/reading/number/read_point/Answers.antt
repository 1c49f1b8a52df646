use Rattle.std.proofs.Common.{arith}
use Rattle.std.proofs.lemmas.Grind.{common_steps}
use Rattle.grammar.proofs.Places.{passed_on}
use Rattle.grammar.proofs.Rows.{reads_then, reads_stuck}
use Rattle.grammar.proofs.Leaves.{fixed_apart}
use Rattle.sql_literals.proofs.NumberReads.{begins_digits}
use Rattle.sql_cells.specs.Number.{Point}
use Rattle.sql_literals.proofs.reading.number.read_point.Goals as goal

pub returns-in_err-point : goal.returns-in_err-point
unfolding Point
returns-in_err-point c = passed_on _ _ _ _ _ c.in_err-point.was (grind (arith, common_steps)) (reads_stuck _ _ _ _ _ (fixed_apart _ _) begins_digits c.in_err-point.was c.read_fixed.ensures)

pub returns : goal.returns
unfolding Point
returns c = reads_then _ _ _ _ _ _ _ (fixed_apart _ _) c.read_fixed.ensures c.in_ok-point.was c.read_digits.ensures c.after.ensures
