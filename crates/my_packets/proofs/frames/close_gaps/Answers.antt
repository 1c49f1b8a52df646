use Rattle.std.proofs.Common.{refl, ◌∙◌, arith}
use Rattle.my_packets.proofs.Joined.{closing_start, closing_more, closing_end}
use Rattle.my_packets.proofs.frames.close_gaps.Goals as goal

pub full_packets-init : goal.full_packets-init
full_packets-init c = record {
  to_is = refl;
  packet_is = omega arith;
  order = omega arith;
  len = refl;
  room = refl;
  closing = λ id message after bytes_are size_is. closing_start c.args.end id message after c.args.store.now.items c.args.size bytes_are size_is;
}

pub full_packets-preserved : goal.full_packets-preserved
full_packets-preserved c = record {
  to_is = omega arith;
  packet_is = omega arith;
  order = omega arith;
  len = omega (arith, c.copy_within.ensures.len);
  room = c.copy_within.ensures.capacity ∙ c.full_packets.invariant.room;
  closing = λ id message after bytes_are size_is.
      closing_more c.args.end message after c.args.store.now.items c.full_packets.to c.full_packets.packet c.full_packets.left c.full_packets.store.items c.copy_within.new.self.items
      (c.full_packets.invariant.closing id message after bytes_are size_is) c.full_packets.invariant.order c.full_packets-test.true c.copy_within.ensures.items (omega arith);
}

pub returns : goal.returns
returns c = record {
  length = omega (arith, c.copy_within-2.ensures.len);
  room = c.copy_within-2.ensures.capacity ∙ c.full_packets.invariant.room;
  joined = λ id message after bytes_are size_is.
      closing_end c.args.end message after c.args.store.now.items c.full_packets.to c.full_packets.packet c.full_packets.left c.full_packets.store.items c.copy_within-2.new.self.items
      (c.full_packets.invariant.closing id message after bytes_are size_is) c.full_packets.invariant.order (omega arith) c.full_packets-test.false c.copy_within-2.ensures.items (omega arith) (omega arith) (omega arith);
}
