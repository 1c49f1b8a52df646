use Rattle.std.proofs.Common.{refl, arith}
use Rattle.my_packets.proofs.Splits.{passed_none, passed_whole, passed_full, passed_part, passed_other, passed_past, packet_within}
use Rattle.my_packets.proofs.frames.front_of_full.Goals as goal

pub packets-init : goal.packets-init
packets-init c = passed_none _ _ _ (omega arith)

pub packets-preserved : goal.packets-preserved
packets-preserved c =
    passed_full _ _ _ _ _ _ _ c.packets.invariant refl c.in-Whole.size _ c.in-Whole.ensures c.if-size-lt-FULL_SIZE.false c.split_at.ensures.back

pub split_at-requires : goal.split_at-requires
split_at-requires c =
    packet_within _ _ _ _ _ _ _ c.packets.invariant refl c.in-Whole.size c.in-Whole.ensures c.if-size-lt-FULL_SIZE.false

pub packets-smaller : goal.packets-smaller
packets-smaller c =
    let within = packet_within _ _ _ _ _ _ _ c.packets.invariant refl c.in-Whole.size c.in-Whole.ensures c.if-size-lt-FULL_SIZE.false in
    omega (arith, c.split_at.ensures.back_len)

pub returns-then-size-lt-FULL_SIZE : goal.returns-then-size-lt-FULL_SIZE
returns-then-size-lt-FULL_SIZE c =
    passed_whole _ _ _ _ _ _ _ c.packets.invariant refl c.in-Whole.size _ c.in-Whole.ensures c.if-size-lt-FULL_SIZE.true refl

pub returns-in-Part : goal.returns-in-Part
returns-in-Part c = passed_part _ _ _ _ _ _ _ c.packets.invariant refl c.in-Part.more c.in-Part.ensures

pub returns-in-Wrong-BadSequence : goal.returns-in-Wrong-BadSequence
returns-in-Wrong-BadSequence c =
    rw (c.in-Wrong-BadSequence.found-is, c.in-Wrong-BadSequence.wanted-is)
    (passed_other _ _ _ _ _ _ _ c.packets.invariant refl c.in-Wrong-BadSequence.found c.in-Wrong-BadSequence.wanted (rw c.in-Wrong-BadSequence.field-0-is at c.in-Wrong-BadSequence.ensures))

pub returns-in-Wrong-TooLong : goal.returns-in-Wrong-TooLong
returns-in-Wrong-TooLong c =
    rw (c.from.ensures, c.in-Wrong-TooLong.size-is)
    (passed_past _ _ _ _ _ _ _ c.packets.invariant refl c.in-Wrong-TooLong.size _ (rw c.in-Wrong-TooLong.field-0-is at c.in-Wrong-TooLong.ensures) refl)
