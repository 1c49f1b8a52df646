use Rattle.std.proofs.Common.{◌<◌, ◌≤◌, ◌-◌, length, refl, ap, arith, Err}
use Rattle.grammar.proofs.Onward.{onward_start, onward_more, onward_end, onward_stuck, read_step}
use Rattle.sql_literals.proofs.TextReads.{apart_inner, no_empty_inner, onward_run}
use Rattle.sql_literals.proofs.reading.text.read_inners.Goals as goal

pub runs-init : goal.runs-init
runs-init c = onward_start _ _

pub runs-preserved : goal.runs-preserved
runs-preserved c = onward_more _ _ _ _ _ _ apart_inner no_empty_inner (onward_run _ _ _ _ c.plain_until-to.ensures c.runs.invariant) c.in-Ok.ensures refl

pub runs-smaller : goal.runs-smaller
runs-smaller c = let step : (0 < c.in-Ok.size) × (c.in-Ok.size ≤ length c.args.bytes.now - c.plain_until-to.result) = read_step _ _ _ _ no_empty_inner c.in-Ok.ensures in omega (arith, c.plain_until-to.ensures.low)

pub returns-in-Err-eq0 : goal.returns-in-Err-eq0
returns-in-Err-eq0 c = onward_end _ _ _ _ _ apart_inner (onward_run _ _ _ _ c.plain_until-to.ensures c.runs.invariant) c.in-Err-eq0.ensures (ap Err c.in-Err-eq0.field-0-test)

pub returns-in-Err : goal.returns-in-Err
returns-in-Err c = onward_stuck _ _ _ _ _ _ apart_inner (onward_run _ _ _ _ c.plain_until-to.ensures c.runs.invariant) c.in-Err.ensures refl (omega arith)
