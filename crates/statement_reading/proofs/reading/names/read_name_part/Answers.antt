use Rattle.std.proofs.Common.{arith}
use Rattle.std.proofs.lemmas.Grind.{common_steps}
use Rattle.grammar.proofs.Empty.{begins_fixed}
use Rattle.grammar.proofs.Places.{passed_on}
use Rattle.grammar.proofs.Rows.{reads_then, reads_stuck}
use Rattle.statement_forms.specs.Insert.{NamePart}
use Rattle.statement_reading.proofs.NameReads.{apart_close}
use Rattle.statement_reading.proofs.reading.names.read_name_part.Goals as goal

pub returns-in_err-opened : goal.returns-in_err-opened
unfolding NamePart
returns-in_err-opened c = passed_on _ _ _ _ _ c.in_err-opened.was (grind (arith, common_steps)) (reads_stuck _ _ _ _ _ apart_close (begins_fixed _) c.in_err-opened.was c.read_opened_name.ensures)

pub returns : goal.returns
unfolding NamePart
returns c = reads_then _ _ _ _ _ _ _ apart_close c.read_opened_name.ensures c.in_ok-opened.was c.read_fixed.ensures c.after.ensures
