use Rattle.std.proofs.Common.{arith}
use Rattle.std.proofs.lemmas.Grind.{common_steps}
use Rattle.grammar.proofs.Leaves.{fixed_apart}
use Rattle.grammar.proofs.Places.{passed_on}
use Rattle.grammar.proofs.Rows.{reads_then, reads_stuck}
use Rattle.statement_forms.specs.Insert.{Row}
use Rattle.statement_reading.specs.InsertReading.{RowInside, RowRest}
use Rattle.statement_reading.proofs.InsertReads.{begins_inside}
use Rattle.statement_reading.proofs.insert.read_row.Goals as goal

pub returns-in_err-begin : goal.returns-in_err-begin
unfolding Row RowInside RowRest
returns-in_err-begin c = passed_on _ _ _ _ _ c.in_err-begin.was (grind (arith, common_steps)) (reads_stuck _ _ _ _ _ (fixed_apart _ _) (begins_inside c.args.more) c.in_err-begin.was c.read_fixed.ensures)

pub returns : goal.returns
unfolding Row RowInside RowRest
returns c = reads_then _ _ _ _ _ _ _ (fixed_apart _ _) c.read_fixed.ensures c.in_ok-begin.was c.read_row_inside.ensures c.after.ensures
