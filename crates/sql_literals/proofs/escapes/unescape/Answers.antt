use Rattle.std.proofs.Common.{arith}
use Rattle.std.proofs.lemmas.Grind.{common_steps}
use Rattle.sql_literals.proofs.Units.{run_unit, next_unit}
use Rattle.sql_literals.proofs.escapes.unescape.Goals as goal

pub runs-preserved : goal.runs-preserved
runs-preserved c =
    let run = run_unit _ _ _ c.plain_until-to.ensures in
    let unit = next_unit c.args.inner.now c.plain_until-to.result c.first_unit-byte.result.1 c.first_unit-byte.result.0 c.first_unit-byte.ensures.unit in
    (omega arith, grind (arith, common_steps))

pub returns-then-to-inner : goal.returns-then-to-inner
returns-then-to-inner c =
    let run = run_unit _ _ _ c.plain_until-to.ensures in
    grind (arith, common_steps)
