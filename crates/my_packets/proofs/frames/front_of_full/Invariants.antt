use Rattle.std.proofs.Common.{length}
use Rattle.my_packets.proofs.Splits.{Passed}
use Rattle.my_packets.proofs.frames.front_of_full.Given as goal

abbrev pub invariant-packets : goal.invariant-packets
invariant-packets l = Passed l.limit l.id l.before l.next l.bytes l.rest

abbrev pub decreases-packets : goal.decreases-packets
decreases-packets l = length l.rest
