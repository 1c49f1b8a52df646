use Rattle.std.proofs.Common.{arith}
use Rattle.std.proofs.lemmas.Grind.{common_steps}
use Rattle.grammar.proofs.Places.{passed_on}
use Rattle.grammar.proofs.Rows.{reads_then, reads_stuck}
use Rattle.grammar.proofs.Leaves.{fixed_apart}
use Rattle.sql_literals.proofs.TextReads.{begins_text}
use Rattle.sql_cells.specs.Spelling.{OpenedConverted}
use Rattle.sql_literals.proofs.reading.converted.read_opened.Goals as goal

pub returns-in_err-open : goal.returns-in_err-open
unfolding OpenedConverted
returns-in_err-open c = passed_on _ _ _ _ _ c.in_err-open.was (grind (arith, common_steps)) (reads_stuck _ _ _ _ _ (fixed_apart _ _) begins_text c.in_err-open.was c.read_fixed.ensures)

pub returns : goal.returns
unfolding OpenedConverted
returns c = reads_then _ _ _ _ _ _ _ (fixed_apart _ _) c.read_fixed.ensures c.in_ok-open.was c.read_text.ensures c.after.ensures
