use Rattle.std.proofs.Common.{◌≡◌, ◌+◌, ◌-◌, ◌<◌, ◌≤◌, length}
use Rattle.splitter_tests.proofs.places.places_of.Given as goal

abbrev pub invariant-cuts : goal.invariant-cuts
invariant-cuts l = record {
  inside : l.at ≤ length l.file;
  some : 0 < l.count;
  even : l.splitter.unread.offset + length l.splitter.unread.rest ≡ l.at;
}

abbrev pub decreases-cuts : goal.decreases-cuts
decreases-cuts l = length l.file - l.at
