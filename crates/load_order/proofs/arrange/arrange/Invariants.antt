use Rattle.load_order.proofs.ArrangeLemmas.{Standing}
use Rattle.load_order.proofs.arrange.arrange.Given as goal

abbrev pub invariant-loop-done : goal.invariant-loop-done
invariant-loop-done l = Standing l.fn.views l.views l.done
