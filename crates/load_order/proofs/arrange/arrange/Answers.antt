use Rattle.std.proofs.Common.{arith, refl}
use Rattle.load_order.proofs.ArrangeLemmas.{standing_end, standing_put}
use Rattle.load_order.proofs.arrange.arrange.Goals as goal

pub loop-done-preserved : goal.loop-done-preserved
loop-done-preserved c =
    standing_put _ c.loop-done.views c.advance.new.left c.loop-done.done (omega arith) c.loop-done.invariant (c.if-not-advance.ensures.found refl)

pub returns-clause-ordered : goal.returns-clause-ordered
returns-clause-ordered c = λ yes. standing_end _ c.loop-done.views c.loop-done.done (omega arith) c.loop-done.invariant
