use Rattle.std.proofs.Common.{arith}
use Rattle.std.proofs.lemmas.Grind.{common_steps}
use Rattle.grammar.proofs.Places.{passed_on}
use Rattle.grammar.proofs.Rows.{reads_then, reads_stuck}
use Rattle.grammar.proofs.Empty.{begins_fixed}
use Rattle.sql_literals.proofs.ConvertedReads.{apart_converted_close}
use Rattle.sql_cells.specs.Spelling.{Converted}
use Rattle.sql_literals.proofs.reading.converted.read_converted.Goals as goal

pub returns-in_err-opened : goal.returns-in_err-opened
unfolding Converted
returns-in_err-opened c = passed_on _ _ _ _ _ c.in_err-opened.was (grind (arith, common_steps)) (reads_stuck _ _ _ _ _ apart_converted_close (begins_fixed _) c.in_err-opened.was c.read_opened.ensures)

pub returns : goal.returns
unfolding Converted
returns c = reads_then _ _ _ _ _ _ _ apart_converted_close c.read_opened.ensures c.in_ok-opened.was c.read_fixed.ensures c.after.ensures
