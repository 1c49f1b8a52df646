use Rattle.std.proofs.Common.{arith}
use Rattle.std.proofs.lemmas.Grind.{common_steps}
use Rattle.grammar.proofs.Places.{passed_on}
use Rattle.grammar.proofs.Rows.{reads_then, reads_stuck}
use Rattle.grammar.proofs.Repeats.{begins_many}
use Rattle.sql_literals.proofs.TextReads.{apart_quoted}
use Rattle.sql_cells.specs.Spelling.{Text}
use Rattle.sql_literals.proofs.reading.text.read_text.Goals as goal

pub returns-in_err-first : goal.returns-in_err-first
unfolding Text
returns-in_err-first c = passed_on _ _ _ _ _ c.in_err-first.was (grind (arith, common_steps)) (reads_stuck _ _ _ _ _ apart_quoted (begins_many _) c.in_err-first.was c.read_quoted.ensures)

pub returns : goal.returns
unfolding Text
returns c = reads_then _ _ _ _ _ _ _ apart_quoted c.read_quoted.ensures c.in_ok-first.was c.read_more.ensures c.after.ensures
