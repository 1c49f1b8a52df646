use Rattle.std.proofs.Common.{◌≡◌, ◌≤◌, ℕ, ◌+◌, ◌*◌, List, ◌++◌, drop, length, vec_len, vec_capacity}
use Rattle.my_packets.proofs.Joined.{Closing}
use Rattle.wire_forms.specs.Packet.{packets, full_count, packet_count}
use Rattle.my_packets.proofs.frames.close_gaps.Given as goal

abbrev pub invariant-full_packets : goal.invariant-full_packets
invariant-full_packets l = record {
  to_is : l.to + l.left ≡ l.end + l.size;
  packet_is : l.packet + 4 + l.left + 4 * full_count l.left ≡ l.end + l.size + 4 * packet_count l.size;
  order : l.to ≤ l.packet;
  len : vec_len l.store ≡ vec_len l.fn.store;
  room : vec_capacity l.store ≡ vec_capacity l.fn.store;
  closing : (id : ℕ) (message after : List ℕ) → drop l.end l.fn.store.items ≡ packets id message ++ after → l.size ≡ length message → Closing l.end message after l.fn.store.items l.to l.packet l.left l.store.items;
}

abbrev pub decreases-full_packets : goal.decreases-full_packets
decreases-full_packets l = l.left
