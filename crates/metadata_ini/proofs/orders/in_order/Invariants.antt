use Rattle.std.proofs.Common.{take}
use Rattle.std.specs.BTreeMap.{is_at}
use Rattle.std.specs.Map.{lookup}
use Rattle.metadata_ini.proofs.FileOrders.{Seen, key_order}
use Rattle.metadata_ini.proofs.orders.in_order.Given as goal

abbrev pub invariant-loop-index : goal.invariant-loop-index
invariant-loop-index l = Seen (take l.index l.files) l.place (λ key. lookup (is_at (key_order key)) l.last.entries)
