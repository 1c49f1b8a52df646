use Rattle.std.proofs.Common.{arith}
use Rattle.sql_literals.proofs.NumberReads.{digits_some, digits_none}
use Rattle.sql_literals.proofs.reading.number.read_digits.Goals as goal

pub returns-then-size-eq0 : goal.returns-then-size-eq0
returns-then-size-eq0 c = digits_none _ (rw c.if-size-eq0.true at c.digit_count-size.ensures.value)

pub returns-else-size-eq0 : goal.returns-else-size-eq0
returns-else-size-eq0 c = digits_some _ _ (omega arith) c.digit_count-size.ensures.value
