use Rattle.std.proofs.Common.{arith}
use Rattle.std.proofs.lemmas.Grind.{common_steps}
use Rattle.grammar.proofs.Places.{passed_on}
use Rattle.grammar.proofs.Rows.{reads_then, reads_stuck}
use Rattle.grammar.proofs.Leaves.{fixed_apart}
use Rattle.grammar.proofs.Repeats.{begins_many}
use Rattle.sql_cells.specs.Spelling.{OpenedHex}
use Rattle.sql_literals.proofs.reading.hexadecimal.read_opened.Goals as goal

pub returns-in_err-open : goal.returns-in_err-open
unfolding OpenedHex
returns-in_err-open c = passed_on _ _ _ _ _ c.in_err-open.was (grind (arith, common_steps)) (reads_stuck _ _ _ _ _ (fixed_apart _ _) (begins_many _) c.in_err-open.was c.read_fixed.ensures)

pub returns : goal.returns
unfolding OpenedHex
returns c = reads_then _ _ _ _ _ _ _ (fixed_apart _ _) c.read_fixed.ensures c.in_ok-open.was c.read_pairs.ensures c.after.ensures
