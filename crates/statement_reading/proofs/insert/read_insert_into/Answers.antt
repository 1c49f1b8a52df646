use Rattle.std.proofs.Common.{arith}
use Rattle.std.proofs.lemmas.Grind.{common_steps}
use Rattle.grammar.proofs.Empty.{begins_fixed}
use Rattle.grammar.proofs.Leaves.{fixed_apart}
use Rattle.grammar.proofs.Places.{passed_on}
use Rattle.grammar.proofs.Rows.{reads_then, reads_stuck}
use Rattle.statement_reading.proofs.InsertReads.{fixed_row}
use Rattle.statement_reading.proofs.insert.read_insert_into.Goals as goal

pub returns-in_err-word : goal.returns-in_err-word
returns-in_err-word c = fixed_row _ _ _ _ (passed_on _ _ _ _ _ c.in_err-word.was (grind (arith, common_steps)) (reads_stuck _ _ _ _ _ (fixed_apart _ _) (begins_fixed _) c.in_err-word.was c.read_fixed.ensures))

pub returns : goal.returns
returns c = fixed_row _ _ _ _ (reads_then _ _ _ _ _ _ _ (fixed_apart _ _) c.read_fixed.ensures c.in_ok-word.was c.read_this_name.ensures c.after.ensures)
