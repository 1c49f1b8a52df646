use Rattle.std.proofs.Common.{arith}
use Rattle.std.proofs.lemmas.Grind.{common_steps}
use Rattle.grammar.proofs.Places.{passed_on}
use Rattle.grammar.proofs.Rows.{reads_then, reads_stuck}
use Rattle.statement_reading.proofs.NameReads.{apart_fourth, begins_fourth}
use Rattle.statement_reading.specs.Parts.{ThirdKey}
use Rattle.statement_reading.proofs.reading.keys.read_third_key.Goals as goal

pub returns-in_err-third : goal.returns-in_err-third
unfolding ThirdKey
returns-in_err-third c = passed_on _ _ _ _ _ c.in_err-third.was (grind (arith, common_steps)) (reads_stuck _ _ _ _ _ apart_fourth begins_fourth c.in_err-third.was c.read_next_name.ensures)

pub returns : goal.returns
unfolding ThirdKey
returns c = reads_then _ _ _ _ _ _ _ apart_fourth c.read_next_name.ensures c.in_ok-third.was c.read_fourth_key.ensures c.after.ensures
