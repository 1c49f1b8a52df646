use Rattle.std.proofs.Common.{drop}
use Rattle.my_packets.proofs.Joined.{joins_short, joins_long, later_packets, later_length}
use Rattle.wire_forms.specs.Packet.{next_id}
use Rattle.my_packets.proofs.frames.join.Goals as goal

pub returns-then-size-ge-FULL_SIZE-clause-joined : goal.returns-then-size-ge-FULL_SIZE-clause-joined
returns-then-size-ge-FULL_SIZE-clause-joined c id message after bytes_are size_is =
    let long = c.if-size-ge-FULL_SIZE.true in
    let store = c.args.store.now.items in
    joins_long c.args.from id c.args.size message after store bytes_are size_is long c.close_gaps.new.store.items
    (c.close_gaps.ensures.joined (next_id id) (drop 16777215 message) after
    (later_packets c.args.from id c.args.size message after store bytes_are size_is long)
    (later_length c.args.from id c.args.size message after store bytes_are size_is long))

pub returns-else-size-ge-FULL_SIZE-clause-joined : goal.returns-else-size-ge-FULL_SIZE-clause-joined
returns-else-size-ge-FULL_SIZE-clause-joined c id message after bytes_are size_is =
    joins_short c.args.from id c.args.size message after c.args.store.now.items bytes_are size_is c.if-size-ge-FULL_SIZE.false
