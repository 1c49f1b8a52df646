use Rattle.std.proofs.Common.{arith}
use Rattle.std.proofs.lemmas.Grind.{common_steps}
use Rattle.grammar.proofs.Leaves.{fixed_apart}
use Rattle.grammar.proofs.Places.{passed_on}
use Rattle.grammar.proofs.Rows.{reads_then, reads_stuck}
use Rattle.statement_forms.specs.Insert.{AnyInsert}
use Rattle.statement_reading.proofs.InsertReads.{begins_named_filled}
use Rattle.statement_reading.proofs.insert.read_any_insert.Goals as goal

pub returns-in_err-word : goal.returns-in_err-word
unfolding AnyInsert
returns-in_err-word c = passed_on _ _ _ _ _ c.in_err-word.was (grind (arith, common_steps)) (reads_stuck _ _ _ _ _ (fixed_apart _ _) begins_named_filled c.in_err-word.was c.read_fixed.ensures)

pub returns : goal.returns
unfolding AnyInsert
returns c = reads_then _ _ _ _ _ _ _ (fixed_apart _ _) c.read_fixed.ensures c.in_ok-word.was c.read_named.ensures c.after.ensures
