use Rattle.std.proofs.Common.{arith}
use Rattle.statement_reading.proofs.BoundReads.{later_start, later_more, later_broken, later_end}
use Rattle.statement_reading.proofs.reading.bounds.read_next_bounds.Goals as goal

pub loop-i-init : goal.loop-i-init
loop-i-init c = later_start _ _

pub loop-i-preserved : goal.loop-i-preserved
loop-i-preserved c = later_more _ _ _ _ _ (omega arith) c.loop-i.invariant c.in-Ok.ensures

pub returns-in-Err : goal.returns-in-Err
returns-in-Err c = later_broken _ _ _ _ _ (omega arith) c.loop-i.invariant c.in-Err.ensures

pub returns : goal.returns
returns c = later_end _ _ _ _ (omega arith) c.loop-i.invariant
