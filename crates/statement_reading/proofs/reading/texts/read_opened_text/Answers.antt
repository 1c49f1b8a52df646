use Rattle.std.proofs.Common.{arith}
use Rattle.std.proofs.lemmas.Grind.{common_steps}
use Rattle.grammar.proofs.Leaves.{fixed_apart}
use Rattle.grammar.proofs.Places.{passed_on}
use Rattle.grammar.proofs.Repeats.{begins_many}
use Rattle.grammar.proofs.Rows.{reads_then, reads_stuck}
use Rattle.statement_reading.specs.Parts.{OpenedText}
use Rattle.statement_reading.proofs.reading.texts.read_opened_text.Goals as goal

pub returns-in_err-open : goal.returns-in_err-open
unfolding OpenedText
returns-in_err-open c = passed_on _ _ _ _ _ c.in_err-open.was (grind (arith, common_steps)) (reads_stuck _ _ _ _ _ (fixed_apart _ _) (begins_many _) c.in_err-open.was c.read_fixed.ensures)

pub returns : goal.returns
unfolding OpenedText
returns c = reads_then _ _ _ _ _ _ _ (fixed_apart _ _) c.read_fixed.ensures c.in_ok-open.was c.read_written_bytes.ensures c.after.ensures
