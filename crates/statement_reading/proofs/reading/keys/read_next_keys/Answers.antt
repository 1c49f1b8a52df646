use Rattle.std.proofs.Common.{arith}
use Rattle.std.proofs.lemmas.Grind.{common_steps}
use Rattle.grammar.proofs.Places.{passed_on}
use Rattle.grammar.proofs.Rows.{reads_then, reads_stuck}
use Rattle.statement_reading.proofs.NameReads.{apart_later, begins_later}
use Rattle.statement_reading.specs.Parts.{NextKeys}
use Rattle.statement_reading.proofs.reading.keys.read_next_keys.Goals as goal

pub returns-in_err-second : goal.returns-in_err-second
unfolding NextKeys
returns-in_err-second c = passed_on _ _ _ _ _ c.in_err-second.was (grind (arith, common_steps)) (reads_stuck _ _ _ _ _ apart_later begins_later c.in_err-second.was c.read_next_name.ensures)

pub returns : goal.returns
unfolding NextKeys
returns c = reads_then _ _ _ _ _ _ _ apart_later c.read_next_name.ensures c.in_ok-second.was c.read_later_keys.ensures c.after.ensures
