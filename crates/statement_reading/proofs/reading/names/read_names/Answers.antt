use Rattle.std.proofs.Common.{arith}
use Rattle.std.proofs.lemmas.Grind.{common_steps}
use Rattle.grammar.proofs.Places.{passed_on}
use Rattle.grammar.proofs.Repeats.{begins_many}
use Rattle.grammar.proofs.Rows.{reads_then, reads_stuck}
use Rattle.statement_reading.specs.Parts.{Names}
use Rattle.statement_reading.proofs.NameReads.{apart_first_name}
use Rattle.statement_reading.proofs.reading.names.read_names.Goals as goal

pub returns-in_err-first : goal.returns-in_err-first
unfolding Names
returns-in_err-first c = passed_on _ _ _ _ _ c.in_err-first.was (grind (arith, common_steps)) (reads_stuck _ _ _ _ _ apart_first_name (begins_many _) c.in_err-first.was c.read_name.ensures)

pub returns : goal.returns
unfolding Names
returns c = reads_then _ _ _ _ _ _ _ apart_first_name c.read_name.ensures c.in_ok-first.was c.read_next_names.ensures c.after.ensures
