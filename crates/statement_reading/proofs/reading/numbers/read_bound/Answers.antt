use Rattle.std.proofs.Common.{arith, ◌≡◌, Err}
use Rattle.std.proofs.lemmas.Grind.{common_steps}
use Rattle.grammar.proofs.Places.{rest_of}
use Rattle.statement_reading.proofs.NumberReads.{bound_positive, bound_negative}
use Rattle.statement_reading.proofs.reading.numbers.read_bound.Goals as goal

pub returns-in_err-number : goal.returns-in_err-number
returns-in_err-number c =
    let is : c.from_residual.result ≡ Err c.in_err-number.field-0.0 = grind (arith, common_steps) in
    rw is (bound_positive _ _ (omega arith) c.in_err-number.ensures.reads)

pub returns-then-first_byte-ne45 : goal.returns-then-first_byte-ne45
returns-then-first_byte-ne45 c = bound_positive _ _ (omega arith) c.in_ok-number.ensures.reads

pub returns-in-Ok : goal.returns-in-Ok
returns-in-Ok c = bound_negative _ _ (omega arith) (rw rest_of at c.in-Ok.ensures.reads)

pub returns-in-Err : goal.returns-in-Err
returns-in-Err c = bound_negative _ _ (omega arith) (rw rest_of at c.in-Err.ensures.reads)
