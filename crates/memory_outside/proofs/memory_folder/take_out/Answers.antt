use Rattle.std.proofs.Common.{◌≡◌, Some, None, rules}
use Rattle.std.specs.List.{position}
use Rattle.link_traits.specs.Contents.{has_name}
use Rattle.memory_outside.proofs.Parts.{position-without-part, position-without-nowhere}
use Rattle.memory_outside.proofs.memory_folder.take_out.Goals as goal

pub returns-in-Some-clause-files : goal.returns-in-Some-clause-files
returns-in-Some-clause-files c =
    let at : position (λ part. has_name c.args.name.now part.items) c.args.parts.now.items ≡ Some c.in-Some.part = search rules in
    position-without-part _ c.args.parts.now.items c.args.name.now c.in-Some.part c.index_mut.result.now c.take_out_of.new.files at c.index_mut.ensures.value c.take_out_of.ensures

pub returns-in_default-clause-files : goal.returns-in_default-clause-files
returns-in_default-clause-files c =
    let none : position (λ part. has_name c.args.name.now part.items) c.args.parts.now.items ≡ None = search rules in
    position-without-nowhere _ c.args.parts.now.items c.args.name.now none
