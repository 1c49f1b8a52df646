use Rattle.std.proofs.Common.{arith, refl}
use Rattle.my_packets.proofs.Passes.{to_the_end, whole_within, stands}
use Rattle.my_packets.proofs.frames.Frames.step.Goals as goal

pub join-requires : goal.join-requires
join-requires c =
    let frames = c.self.inside in
    let split = to_the_end frames.store.items _ frames.limit frames.id frames.from c.in-Whole.size c.deref.ensures.value c.in-Whole.ensures in
    let within = whole_within frames.limit frames.id frames.from c.in-Whole.size frames.store.items split (omega arith) in
    omega arith

pub invariant_of-self : goal.invariant_of-self
invariant_of-self c =
    let frames = c.self.inside in
    let split = to_the_end frames.store.items _ frames.limit frames.id frames.from c.in-Whole.size c.deref.ensures.value c.in-Whole.ensures in
    let within = whole_within frames.limit frames.id frames.from c.in-Whole.size frames.store.items split (omega arith) in
    (omega arith, omega arith, omega arith, omega arith)

pub returns-in-Whole : goal.returns-in-Whole
returns-in-Whole c =
    let frames = c.self.inside in
    let split = to_the_end frames.store.items _ frames.limit frames.id frames.from c.in-Whole.size c.deref.ensures.value c.in-Whole.ensures in
    let stood = stands frames.limit frames.id frames.from c.in-Whole.size frames.store.items c.join.new.store.items split c.join.ensures.joined in
    rw (← c.self.view_is) record {
      message = rw c.count_packets-packets.ensures stood.message_is;
      began = refl;
      place = let size_is = stood.size_is in omega arith;
      id = let size_is = stood.size_is in omega arith;
      limit = refl;
      room = c.join.ensures.room;
    }
