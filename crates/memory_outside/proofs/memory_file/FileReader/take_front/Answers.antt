use Rattle.memory_outside.proofs.Taken.{front_taken}
use Rattle.memory_outside.proofs.memory_file.FileReader.take_front.Goals as goal

pub returns-clause-front : goal.returns-clause-front
returns-clause-front c =
    let count = rw c.deref.ensures.value at c.min-count.ensures in
    let copied = rw c.deref.ensures.value at c.copy_from_slice.ensures.after in
    rw (← c.self.view_is) (front_taken c.self.inside.bytes.items c.args.buffer.now c.copy_from_slice.new.self c.self.inside.place c.min-count.result count copied)
