use Rattle.std.proofs.Common.{arith}
use Rattle.std.proofs.lemmas.Grind.{common_steps}
use Rattle.grammar.proofs.Leaves.{fixed_apart}
use Rattle.grammar.proofs.Places.{passed_on}
use Rattle.grammar.proofs.Rows.{reads_then, reads_stuck}
use Rattle.statement_forms.specs.Insert.{FurtherRow}
use Rattle.statement_reading.proofs.InsertReads.{begins_row}
use Rattle.statement_reading.proofs.insert.read_next_row.Goals as goal

pub returns-in_err-comma : goal.returns-in_err-comma
unfolding FurtherRow
returns-in_err-comma c = passed_on _ _ _ _ _ c.in_err-comma.was (grind (arith, common_steps)) (reads_stuck _ _ _ _ _ (fixed_apart _ _) (begins_row c.args.more) c.in_err-comma.was c.read_fixed.ensures)

pub returns : goal.returns
unfolding FurtherRow
returns c = reads_then _ _ _ _ _ _ _ (fixed_apart _ _) c.read_fixed.ensures c.in_ok-comma.was c.read_row.ensures c.after.ensures
