use Rattle.std.proofs.Common.{◌≡◌, Err, arith}
use Rattle.std.proofs.lemmas.Grind.{common_steps}
use Rattle.grammar.proofs.Places.{rest_of}
use Rattle.grammar.proofs.Skips.{longest_row}
use Rattle.sql_cells.specs.Number.{Number}
use Rattle.sql_literals.proofs.NumberReads.{apart_whole, number_broken}
use Rattle.sql_literals.proofs.reading.skip.skip_number.Goals as goal

pub returns-in_err-whole : goal.returns-in_err-whole
returns-in_err-whole c =
    let passed : c.from_residual.result ≡ Err c.in_err-whole.field-0.0 = grind (arith, common_steps) in
    rw passed (number_broken _ _ (rw c.in_err-whole.was at c.read_whole.ensures))

pub returns : goal.returns
unfolding Number
returns c = longest_row _ _ _ _ _ apart_whole (rw c.in_ok-whole.was at c.read_whole.ensures) (rw (rest_of c.args.bytes.now c.in_ok-whole.whole) at c.fraction_size.ensures)
