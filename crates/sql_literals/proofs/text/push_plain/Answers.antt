use Rattle.std.proofs.Common.{arith}
use Rattle.sql_literals.proofs.Growth.{run_appended, run_length, piece_fits}
use Rattle.sql_literals.proofs.text.push_plain.Goals as goal

pub push-requires : goal.push-requires
push-requires c = omega (arith, c.requires.fits, run_length _ _ _ c.requires.plain, piece_fits c.args.bytes.now c.args.from c.args.to c.requires.plain.low)

pub returns-then-from-to : goal.returns-then-from-to
returns-then-from-to c = run_appended _ _ _ _ _ c.requires.plain c.push.ensures.bytes c.push.ensures.spare
