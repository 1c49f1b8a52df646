use Rattle.std.proofs.Common.{arith}
use Rattle.std.proofs.lemmas.Grind.{common_steps}
use Rattle.grammar.proofs.Places.{passed_on}
use Rattle.grammar.proofs.Rows.{reads_then, reads_stuck}
use Rattle.statement_reading.specs.InsertReading.{RowInside}
use Rattle.statement_reading.proofs.InsertReads.{apart_first, begins_rest}
use Rattle.statement_reading.proofs.insert.read_row_inside.Goals as goal

pub returns-in_err-first : goal.returns-in_err-first
unfolding RowInside
returns-in_err-first c = passed_on _ _ _ _ _ c.in_err-first.was (grind (arith, common_steps)) (reads_stuck _ _ _ _ _ (apart_first c.args.more) (begins_rest c.args.more) c.in_err-first.was c.read_literal.ensures)

pub returns : goal.returns
unfolding RowInside
returns c = reads_then _ _ _ _ _ _ _ (apart_first c.args.more) c.read_literal.ensures c.in_ok-first.was c.read_row_rest.ensures c.after.ensures
