use Rattle.std.proofs.Common.{arith, ◌<◌, ◌≤◌, ◌-◌, length, refl, ap, Err}
use Rattle.grammar.proofs.Onward.{onward_start, onward_more, onward_end, onward_stuck, read_step}
use Rattle.statement_reading.proofs.NameReads.{apart_part, no_empty_part}
use Rattle.statement_reading.proofs.reading.names.read_name_parts.Goals as goal

pub parts-init : goal.parts-init
parts-init c = onward_start _ _

pub parts-preserved : goal.parts-preserved
parts-preserved c = onward_more _ _ _ _ _ _ apart_part no_empty_part c.parts.invariant c.in-Ok.ensures refl

pub parts-smaller : goal.parts-smaller
parts-smaller c = let step : (0 < c.in-Ok.size) × (c.in-Ok.size ≤ length c.args.bytes.now - c.parts.at) = read_step _ _ _ _ no_empty_part c.in-Ok.ensures in omega arith

pub returns-in-Err-eq0 : goal.returns-in-Err-eq0
returns-in-Err-eq0 c = onward_end _ _ _ _ _ apart_part c.parts.invariant c.in-Err-eq0.ensures (ap Err c.in-Err-eq0.field-0-test)

pub returns-in-Err : goal.returns-in-Err
returns-in-Err c = onward_stuck _ _ _ _ _ _ apart_part c.parts.invariant c.in-Err.ensures refl (omega arith)
