use Rattle.std.proofs.Common.{arith}
use Rattle.std.proofs.lemmas.Grind.{common_steps}
use Rattle.sql_statements.proofs.Lengths.{numbers_length_is}
use Rattle.sql_statements.proofs.piece.numbers_length.Goals as goal

pub returns-in_err-later_numbers_length : goal.returns-in_err-later_numbers_length
returns-in_err-later_numbers_length c = grind (arith, common_steps, numbers_length_is _ _ _ c.in-Some.ensures.cases.0)

pub returns : goal.returns
returns c = grind (arith, common_steps, numbers_length_is _ _ _ c.in-Some.ensures.cases.0)
