use Rattle.sql_literals.proofs.Tables.{pair_of}
use Rattle.sql_literals.proofs.pairs.pair.Goals as goal

pub returns : goal.returns
returns c = pair_of c.args.byte c.ranges.byte.fits
