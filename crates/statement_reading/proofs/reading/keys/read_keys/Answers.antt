use Rattle.std.proofs.Common.{arith}
use Rattle.std.proofs.lemmas.Grind.{common_steps}
use Rattle.grammar.proofs.Places.{passed_on}
use Rattle.grammar.proofs.Rows.{reads_then, reads_stuck}
use Rattle.statement_reading.proofs.NameReads.{apart_keys_next, begins_keys_next}
use Rattle.statement_reading.specs.Parts.{KeyNames}
use Rattle.statement_reading.proofs.reading.keys.read_keys.Goals as goal

pub returns-in_err-first : goal.returns-in_err-first
unfolding KeyNames
returns-in_err-first c = passed_on _ _ _ _ _ c.in_err-first.was (grind (arith, common_steps)) (reads_stuck _ _ _ _ _ apart_keys_next begins_keys_next c.in_err-first.was c.read_name.ensures)

pub returns : goal.returns
unfolding KeyNames
returns c = reads_then _ _ _ _ _ _ _ apart_keys_next c.read_name.ensures c.in_ok-first.was c.read_next_keys.ensures c.after.ensures
