use Rattle.std.proofs.Common.{arith, append_assoc}
use Rattle.std.proofs.lemmas.Grind.{common_steps}
use Rattle.sql_statements.proofs.Lengths.{numbers_is, numbers_length_is}
use Rattle.sql_statements.proofs.piece.push_numbers.Goals as goal

pub push_later_numbers-requires : goal.push_later_numbers-requires
push_later_numbers-requires c = grind (arith, common_steps, numbers_length_is _ _ _ c.in-Some.ensures.cases.0)

pub returns-in-Some-clause-bytes : goal.returns-in-Some-clause-bytes
returns-in-Some-clause-bytes c = rw (c.push_later_numbers.ensures.bytes, c.push_number.ensures.bytes, numbers_is _ _ _ c.in-Some.ensures.cases.0, append_assoc)

pub returns-in-Some-clause-spare : goal.returns-in-Some-clause-spare
returns-in-Some-clause-spare c = grind (arith, common_steps, numbers_length_is _ _ _ c.in-Some.ensures.cases.0)
