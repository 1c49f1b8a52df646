use Rattle.std.proofs.Common.{arith}
use Rattle.sql_statements.proofs.Lengths.{later_numbers_fit}
use Rattle.sql_statements.proofs.piece.push_later_numbers.Goals as goal

pub push_later_number-requires : goal.push_later_number-requires
push_later_number-requires c = omega (arith, c.loop-number.invariant.1, c.requires, later_numbers_fit c.args.numbers.now c.loop-number.number-index c.loop-number-test.true)
