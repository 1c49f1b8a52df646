use Rattle.std.proofs.Common.{◌≡◌, false}
use Rattle.std.specs.List.{AllWithin}
use Rattle.folder_forms.specs.LoadOrder.{is_ready}
use Rattle.load_order.proofs.arrange.first_ready.Given as goal

abbrev pub invariant-loop-at : goal.invariant-loop-at
invariant-loop-at l = AllWithin (λ view. is_ready l.left view ≡ false) l.left 0 l.at
