use Rattle.std.proofs.Common.{arith}
use Rattle.statement_reading.proofs.InsertReads.{rest_start, rest_more, rest_broken, rest_end}
use Rattle.statement_reading.proofs.insert.read_row_rest.Goals as goal

pub loop-i-init : goal.loop-i-init
loop-i-init c = rest_start _ _

pub loop-i-preserved : goal.loop-i-preserved
loop-i-preserved c = rest_more _ _ _ _ _ (omega arith) c.loop-i.invariant c.in-Ok.ensures

pub returns-in-Err : goal.returns-in-Err
returns-in-Err c = rest_broken _ _ _ _ _ (omega arith) c.loop-i.invariant c.in-Err.ensures

pub returns : goal.returns
returns c = rest_end _ _ _ _ _ _ (omega arith) c.loop-i.invariant c.read_fixed.ensures c.after.ensures
