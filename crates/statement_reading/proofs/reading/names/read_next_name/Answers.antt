use Rattle.std.proofs.Common.{arith}
use Rattle.std.proofs.lemmas.Grind.{common_steps}
use Rattle.grammar.proofs.Leaves.{fixed_apart}
use Rattle.grammar.proofs.Places.{passed_on}
use Rattle.grammar.proofs.Rows.{reads_then, reads_stuck}
use Rattle.statement_forms.specs.Insert.{NextName}
use Rattle.statement_reading.proofs.NameReads.{begins_name}
use Rattle.statement_reading.proofs.reading.names.read_next_name.Goals as goal

pub returns-in_err-comma : goal.returns-in_err-comma
unfolding NextName
returns-in_err-comma c = passed_on _ _ _ _ _ c.in_err-comma.was (grind (arith, common_steps)) (reads_stuck _ _ _ _ _ (fixed_apart _ _) begins_name c.in_err-comma.was c.read_fixed.ensures)

pub returns : goal.returns
unfolding NextName
returns c = reads_then _ _ _ _ _ _ _ (fixed_apart _ _) c.read_fixed.ensures c.in_ok-comma.was c.read_name.ensures c.after.ensures
