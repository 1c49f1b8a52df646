use Rattle.std.proofs.Common.{◌≡◌, false, take}
use Rattle.std.specs.List.{list_any}
use Rattle.load_order.specs.Stages.{names_view}
use Rattle.load_order.proofs.arrange.ready.Given as goal

abbrev pub invariant-loop-need : goal.invariant-loop-need
invariant-loop-need l =
    list_any (λ need. list_any (names_view need) l.left) (take l.need-index l.view.needs) ≡ false
