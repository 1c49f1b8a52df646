use Rattle.std.proofs.Common.{arith}
use Rattle.std.proofs.lemmas.Grind.{common_steps}
use Rattle.grammar.proofs.Places.{passed_on}
use Rattle.grammar.proofs.Rows.{reads_then, reads_stuck}
use Rattle.grammar.proofs.Empty.{begins_fixed}
use Rattle.sql_literals.proofs.HexReads.{apart_hex_close}
use Rattle.sql_cells.specs.Spelling.{Hex}
use Rattle.sql_literals.proofs.reading.hexadecimal.read_hexadecimal.Goals as goal

pub returns-in_err-opened : goal.returns-in_err-opened
unfolding Hex
returns-in_err-opened c = passed_on _ _ _ _ _ c.in_err-opened.was (grind (arith, common_steps)) (reads_stuck _ _ _ _ _ apart_hex_close (begins_fixed _) c.in_err-opened.was c.read_opened.ensures)

pub returns : goal.returns
unfolding Hex
returns c = reads_then _ _ _ _ _ _ _ apart_hex_close c.read_opened.ensures c.in_ok-opened.was c.read_fixed.ensures c.after.ensures
