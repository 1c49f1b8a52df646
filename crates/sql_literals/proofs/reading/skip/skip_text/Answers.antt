use Rattle.std.proofs.Common.{◌≡◌, Err, arith}
use Rattle.std.proofs.lemmas.Grind.{common_steps}
use Rattle.grammar.proofs.Places.{rest_of}
use Rattle.grammar.proofs.Skips.{longest_row}
use Rattle.sql_cells.specs.Spelling.{Text}
use Rattle.sql_literals.proofs.TextReads.{apart_quoted, text_broken}
use Rattle.sql_literals.proofs.reading.skip.skip_text.Goals as goal

pub returns-in_err-first : goal.returns-in_err-first
returns-in_err-first c =
    let passed : c.from_residual.result ≡ Err c.in_err-first.field-0.0 = grind (arith, common_steps) in
    rw passed (text_broken _ _ (rw c.in_err-first.was at c.read_quoted.ensures))

pub returns : goal.returns
unfolding Text
returns c = longest_row _ _ _ _ _ apart_quoted (rw c.in_ok-first.was at c.read_quoted.ensures) (rw (rest_of c.args.bytes.now c.in_ok-first.first) at c.parts_size.ensures)
