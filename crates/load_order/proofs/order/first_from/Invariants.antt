use Rattle.std.proofs.Common.{◌<◌}
use Rattle.std.specs.List.{AllWithin}
use Rattle.server_data.specs.Equal.{kind_number}
use Rattle.load_order.proofs.order.first_from.Given as goal

abbrev pub invariant-loop-at : goal.invariant-loop-at
invariant-loop-at l = AllWithin (λ object. kind_number object.kind < l.number) l.objects 0 l.at
