use Rattle.std.proofs.Common.{arith, ◌<◌, ◌≤◌, ◌-◌, length, refl, ap, Err}
use Rattle.grammar.proofs.Onward.{onward_start, onward_more, onward_end, onward_stuck, read_step}
use Rattle.statement_reading.proofs.TextReads.{apart_byte, no_empty_byte}
use Rattle.statement_reading.proofs.reading.texts.read_written_bytes.Goals as goal

pub bytes-init : goal.bytes-init
bytes-init c = onward_start _ _

pub bytes-preserved : goal.bytes-preserved
bytes-preserved c = onward_more _ _ _ _ _ _ apart_byte no_empty_byte c.bytes.invariant c.in-Ok.ensures refl

pub bytes-smaller : goal.bytes-smaller
bytes-smaller c = let step : (0 < c.in-Ok.size) × (c.in-Ok.size ≤ length c.args.bytes.now - c.bytes.at) = read_step _ _ _ _ no_empty_byte c.in-Ok.ensures in omega arith

pub returns-in-Err-eq0 : goal.returns-in-Err-eq0
returns-in-Err-eq0 c = onward_end _ _ _ _ _ apart_byte c.bytes.invariant c.in-Err-eq0.ensures (ap Err c.in-Err-eq0.field-0-test)

pub returns-in-Err : goal.returns-in-Err
returns-in-Err c = onward_stuck _ _ _ _ _ _ apart_byte c.bytes.invariant c.in-Err.ensures refl (omega arith)
