use Rattle.std.proofs.Common.{arith}
use Rattle.std.proofs.lemmas.Grind.{common_steps}
use Rattle.grammar.proofs.Places.{passed_on}
use Rattle.grammar.proofs.Rows.{reads_then, reads_stuck}
use Rattle.sql_literals.proofs.NumberReads.{apart_whole, begins_fraction}
use Rattle.sql_cells.specs.Number.{Number}
use Rattle.sql_literals.proofs.reading.number.read_number.Goals as goal

pub returns-in_err-whole : goal.returns-in_err-whole
unfolding Number
returns-in_err-whole c = passed_on _ _ _ _ _ c.in_err-whole.was (grind (arith, common_steps)) (reads_stuck _ _ _ _ _ apart_whole begins_fraction c.in_err-whole.was c.read_whole.ensures)

pub returns : goal.returns
unfolding Number
returns c = reads_then _ _ _ _ _ _ _ apart_whole c.read_whole.ensures c.in_ok-whole.was c.read_fraction.ensures c.after.ensures
