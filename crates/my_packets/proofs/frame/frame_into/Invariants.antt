use Rattle.std.proofs.Common.{◌≡◌, ◌+◌, ◌*◌, ◌≤◌, ◌++◌, length, vec_len, vec_capacity}
use Rattle.wire_forms.specs.Packet.{packets, packet_count, id_after}
use Rattle.my_packets.proofs.frame.frame_into.Given as goal

abbrev pub invariant-full_packets : goal.invariant-full_packets
invariant-full_packets l = record {
  bytes : l.out.items ++ packets l.id l.rest ≡ l.fn.out.items ++ packets l.seq l.message;
  ids : id_after (packet_count (length l.rest)) l.id ≡ id_after (packet_count (length l.message)) l.seq;
  room : vec_len l.out + length l.rest + 4 * packet_count (length l.rest) ≤ vec_capacity l.out;
}

abbrev pub decreases-full_packets : goal.decreases-full_packets
decreases-full_packets l = length l.rest
