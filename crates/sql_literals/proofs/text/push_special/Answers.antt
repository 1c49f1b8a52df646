use Rattle.std.proofs.Common.{arith}
use Rattle.sql_literals.proofs.Growth.{piece_fits}
use Rattle.sql_literals.proofs.text.push_special.Goals as goal

pub push_dense-requires-clause-fits : goal.push_dense-requires-clause-fits
push_dense-requires-clause-fits c = omega (arith, c.requires.fits, piece_fits c.args.bytes.now c.args.from c.dense_until-end.result (omega (arith, c.dense_until-end.ensures.onward)))

pub push_few-requires-clause-fits : goal.push_few-requires-clause-fits
push_few-requires-clause-fits c = omega (arith, c.requires.fits, piece_fits c.args.bytes.now c.args.from _ c.requires.within)
