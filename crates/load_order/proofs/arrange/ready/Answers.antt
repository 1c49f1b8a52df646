use Rattle.std.proofs.Common.{sym, ◌∙◌}
use Rattle.load_order.proofs.ReadyLemmas.{ready_all, ready_some}
use Rattle.load_order.proofs.arrange.ready.Goals as goal

pub returns-then-names_one : goal.returns-then-names_one
returns-then-names_one c =
    ready_some c.args.left.now c.args.view.now c.loop-need.need-index c.need-item.result
    (rw (← c.as_slice-need-items.ensures) c.loop-need-test.true)
    (rw (← c.as_slice-need-items.ensures) c.need-item.is)
    (sym c.if-names_one.true ∙ c.names_one.ensures)

pub returns : goal.returns
returns c =
    ready_all c.args.left.now c.args.view.now c.loop-need.need-index
    (rw (← c.as_slice-need-items.ensures) c.loop-need-test.false) c.loop-need.invariant
