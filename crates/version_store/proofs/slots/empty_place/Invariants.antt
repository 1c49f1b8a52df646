use Rattle.std.proofs.Common.{◌≡◌, ◌+◌, length}
use Rattle.std.specs.Prelude.{is_none}
use Rattle.std.specs.List.{position_or_len}
use Rattle.version_store.proofs.slots.empty_place.Given as goal

abbrev pub invariant-slots : goal.invariant-slots
invariant-slots l = record {
  told : l.id + position_or_len is_none l.left ≡ position_or_len is_none l.slots;
  within : l.id + length l.left ≡ length l.slots;
}

abbrev pub decreases-slots : goal.decreases-slots
decreases-slots l = length l.left
