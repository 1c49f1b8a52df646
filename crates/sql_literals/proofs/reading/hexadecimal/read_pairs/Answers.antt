use Rattle.std.proofs.Common.{◌<◌, ◌≤◌, ◌-◌, length, refl, ap, arith, Err}
use Rattle.grammar.proofs.Onward.{onward_start, onward_more, onward_end, onward_stuck, read_step}
use Rattle.sql_literals.proofs.HexReads.{apart_pair, no_empty_pair}
use Rattle.sql_literals.proofs.reading.hexadecimal.read_pairs.Goals as goal

pub pairs-init : goal.pairs-init
pairs-init c = onward_start _ _

pub pairs-preserved : goal.pairs-preserved
pairs-preserved c = onward_more _ _ _ _ _ _ apart_pair no_empty_pair c.pairs.invariant c.in-Ok.ensures refl

pub pairs-smaller : goal.pairs-smaller
pairs-smaller c = let step : (0 < c.in-Ok.size) × (c.in-Ok.size ≤ length c.args.bytes.now - c.pairs.at) = read_step _ _ _ _ no_empty_pair c.in-Ok.ensures in omega arith

pub returns-in-Err-eq0 : goal.returns-in-Err-eq0
returns-in-Err-eq0 c = onward_end _ _ _ _ _ apart_pair c.pairs.invariant c.in-Err-eq0.ensures (ap Err c.in-Err-eq0.field-0-test)

pub returns-in-Err : goal.returns-in-Err
returns-in-Err c = onward_stuck _ _ _ _ _ _ apart_pair c.pairs.invariant c.in-Err.ensures refl (omega arith)
