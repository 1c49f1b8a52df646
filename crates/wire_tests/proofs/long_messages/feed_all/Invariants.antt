use Rattle.std.proofs.Common.{◌≡◌, ◌<◌, ◌+◌, ◌^◌, length}
use Rattle.wire_tests.proofs.long_messages.feed_all.Given as goal

abbrev pub invariant-pieces : goal.invariant-pieces
invariant-pieces l = (l.frames.place ≡ 0) × (length l.frames.bytes + length l.rest < 2 ^ 32)
