use Rattle.std.proofs.Common.{◌≡◌, ◌+◌, length}
use Rattle.wire_tests.proofs.packets.add_by_bytes.Given as goal

abbrev pub invariant-loop-fed : goal.invariant-loop-fed
invariant-loop-fed l = l.frames.place + length l.frames.bytes ≡ l.fed
