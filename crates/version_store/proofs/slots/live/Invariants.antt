use Rattle.std.proofs.Common.{◌≡◌, ◌≤◌, ◌+◌, length}
use Rattle.version_store.specs.Slots.{live_in}
use Rattle.version_store.proofs.slots.live.Given as goal

abbrev pub invariant-slots : goal.invariant-slots
invariant-slots l = record {
  told : l.count + live_in l.left ≡ live_in l.slots;
  within : l.count + length l.left ≤ length l.slots;
}

abbrev pub decreases-slots : goal.decreases-slots
decreases-slots l = length l.left
