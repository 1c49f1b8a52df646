use Rattle.my_packets.proofs.Passes.{to_the_end, wrong_to_the_end, whole_settles, wrong_settles}
use Rattle.my_packets.proofs.frames.Frames.wants.Goals as goal

pub returns-in-Whole : goal.returns-in-Whole
returns-in-Whole c =
    let frames = c.self.inside in
    rw (← c.self.view_is)
    (whole_settles frames.limit frames.id c.in-Whole.field-0 _ (to_the_end frames.store.items _ frames.limit frames.id frames.from c.in-Whole.field-0 c.deref.ensures.value c.in-Whole.ensures))

pub returns-in-Wrong : goal.returns-in-Wrong
returns-in-Wrong c =
    let frames = c.self.inside in
    rw (← c.self.view_is)
    (wrong_settles frames.limit frames.id _ c.in-Wrong.field-0 (wrong_to_the_end frames.store.items _ frames.limit frames.id frames.from c.in-Wrong.field-0 c.deref.ensures.value c.in-Wrong.ensures))
