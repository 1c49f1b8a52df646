use Rattle.std.proofs.Common.{◌≤◌, ◌+◌, ◌∙◌, sym, arith}
use Rattle.std.proofs.lemmas.Grind.{common_steps}
use Rattle.system_outside.proofs.Moves.{taken_off}
use Rattle.system_outside.proofs.read_buffer.ReadBuffer.take_front.Goals as goal

pub returns-clause-bytes : goal.returns-clause-bytes
returns-clause-bytes c =
    let fits : c.self.inside.start + c.min-count.result ≤ c.self.inside.end = grind (arith, common_steps) in
    let copied = rw c.deref.ensures.value at c.copy_from_slice.ensures.after in
    sym c.self.view_is ∙ taken_off c.self.inside.bytes.items c.args.into.now _ c.self.inside.start c.self.inside.end c.min-count.result fits (grind (arith, common_steps)) copied
