use Rattle.std.proofs.Common.{arith}
use Rattle.my_packets.proofs.Packets.{written_full, written_last}
use Rattle.my_packets.proofs.frame.frame_into.Goals as goal

pub full_packets-preserved : goal.full_packets-preserved
full_packets-preserved c = record {
  bytes = written_full c.full_packets.id c.full_packets.rest.now c.split_at.result.0.now c.split_at.result.1.now c.full_packets.out.items c.packet_into.new.out.items _ (omega arith) (omega arith) c.split_at.ensures.front c.split_at.ensures.back c.in_ok-packet_into.ensures.ok c.full_packets.invariant.bytes;
  ids = omega (arith, c.split_at.ensures.back_len);
  room = omega (arith, c.in_ok-packet_into.ensures.len);
}

pub returns-clause-ok : goal.returns-clause-ok
returns-clause-ok c =
    written_last c.full_packets.id c.full_packets.rest.now c.full_packets.out.items c.packet_into-2.new.out.items _ (omega arith) (omega arith) c.in_ok-packet_into-2.ensures.ok c.full_packets.invariant.bytes
