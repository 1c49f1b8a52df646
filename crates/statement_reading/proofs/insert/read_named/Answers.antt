use Rattle.std.proofs.Common.{arith, refl}
use Rattle.std.proofs.lemmas.Grind.{common_steps}
use Rattle.grammar.proofs.Places.{passed_on}
use Rattle.grammar.proofs.Rows.{reads_then, reads_stuck}
use Rattle.statement_reading.proofs.InsertReads.{apart_filled, begins_filled}
use Rattle.statement_reading.proofs.insert.read_named.Goals as goal

pub returns-in_err-name : goal.returns-in_err-name
returns-in_err-name c = passed_on _ _ _ _ _ c.in_err-name.was (grind (arith, common_steps)) (reads_stuck _ _ _ _ _ apart_filled begins_filled c.in_err-name.was c.read_name.ensures)

pub returns-in-Ok : goal.returns-in-Ok
returns-in-Ok c = reads_then _ _ _ _ _ _ _ apart_filled c.read_name.ensures c.in_ok-name.was c.in-Ok.ensures.reads refl

pub returns-in-Err : goal.returns-in-Err
returns-in-Err c = reads_then _ _ _ _ _ _ _ apart_filled c.read_name.ensures c.in_ok-name.was c.in-Err.ensures.reads refl
