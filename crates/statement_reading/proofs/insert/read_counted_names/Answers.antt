use Rattle.std.proofs.Common.{arith, ◌<◌, ◌≤◌, ◌-◌, length, refl, ap, Err}
use Rattle.grammar.proofs.Onward.{onward_start, onward_more, onward_end, onward_stuck, read_step, times_next}
use Rattle.grammar.proofs.Repeats.{times_none}
use Rattle.statement_reading.proofs.NameReads.{apart_next_name, no_empty_next_name}
use Rattle.statement_reading.proofs.insert.read_counted_names.Goals as goal

pub names-init : goal.names-init
names-init c = record { onward = onward_start _ _; counted = times_none _; few = omega arith }

pub names-preserved : goal.names-preserved
names-preserved c =
    let step : (0 < c.in-Ok.next) × (c.in-Ok.next ≤ length c.args.bytes.now - c.names.size) = read_step _ _ _ _ no_empty_next_name c.in-Ok.ensures in
    record { onward = onward_more _ _ _ _ _ _ apart_next_name no_empty_next_name c.names.invariant.onward c.in-Ok.ensures refl; counted = times_next _ _ _ _ _ c.names.invariant.counted c.in-Ok.ensures; few = omega arith }

pub names-smaller : goal.names-smaller
names-smaller c = let step : (0 < c.in-Ok.next) × (c.in-Ok.next ≤ length c.args.bytes.now - c.names.size) = read_step _ _ _ _ no_empty_next_name c.in-Ok.ensures in omega arith

pub returns-in-Err-eq0-clause-reads : goal.returns-in-Err-eq0-clause-reads
returns-in-Err-eq0-clause-reads c = onward_end _ _ _ _ _ apart_next_name c.names.invariant.onward c.in-Err-eq0.ensures (ap Err c.in-Err-eq0.field-0-test)

pub returns-in-Err-clause-reads : goal.returns-in-Err-clause-reads
returns-in-Err-clause-reads c = onward_stuck _ _ _ _ _ _ apart_next_name c.names.invariant.onward c.in-Err.ensures refl (omega arith)
