use Rattle.std.proofs.Common.{arith, ◌<◌, ◌≤◌, ◌-◌, length, refl, ap, Err}
use Rattle.grammar.proofs.Onward.{onward_start, onward_more, onward_end, onward_stuck, read_step}
use Rattle.statement_reading.proofs.NameReads.{apart_next_name, no_empty_next_name}
use Rattle.statement_reading.proofs.reading.names.read_next_names.Goals as goal

pub names-init : goal.names-init
names-init c = onward_start _ _

pub names-preserved : goal.names-preserved
names-preserved c = onward_more _ _ _ _ _ _ apart_next_name no_empty_next_name c.names.invariant c.in-Ok.ensures refl

pub names-smaller : goal.names-smaller
names-smaller c = let step : (0 < c.in-Ok.size) × (c.in-Ok.size ≤ length c.args.bytes.now - c.names.at) = read_step _ _ _ _ no_empty_next_name c.in-Ok.ensures in omega arith

pub returns-in-Err-eq0 : goal.returns-in-Err-eq0
returns-in-Err-eq0 c = onward_end _ _ _ _ _ apart_next_name c.names.invariant c.in-Err-eq0.ensures (ap Err c.in-Err-eq0.field-0-test)

pub returns-in-Err : goal.returns-in-Err
returns-in-Err c = onward_stuck _ _ _ _ _ _ apart_next_name c.names.invariant c.in-Err.ensures refl (omega arith)
