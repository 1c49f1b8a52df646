use Rattle.std.proofs.Common.{arith}
use Rattle.sql_literals.proofs.Tables.{width_of, escaped_short}
use Rattle.sql_literals.proofs.pairs.width.Goals as goal

pub returns-clause-value : goal.returns-clause-value
returns-clause-value c = width_of c.args.byte c.ranges.byte.fits

pub returns-clause-small : goal.returns-clause-small
returns-clause-small c = omega (arith, width_of c.args.byte c.ranges.byte.fits, escaped_short c.args.byte)
