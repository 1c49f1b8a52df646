use Rattle.std.proofs.Common.{arith}
use Rattle.metadata_ini.proofs.Spelled.{spelled_none}
use Rattle.metadata_ini.proofs.spelling.spelled.Goals as goal

pub returns-in_default-clause-err : goal.returns-in_default-clause-err
returns-in_default-clause-err c = spelled_none c.bytes.made.items c.bytes.rest.now c.args.text.now c.bytes.invariant (omega (arith, c.bytes-test.true)) c.in_default.ensures
