use Rattle.std.proofs.Common.{arith}
use Rattle.std.proofs.lemmas.Grind.{common_steps}
use Rattle.system_outside.proofs.Moves.{appends_more}
use Rattle.system_outside.proofs.transfer.write_front.Goals as goal

pub loop-preserved : goal.loop-preserved
loop-preserved g c = record {
  within = grind (arith, common_steps, c.in-Some.ensures.within);
  appended = appends_more _ _ _ _ _ _ c.loop.invariant.appended c.in-Some.ensures.written;
}
