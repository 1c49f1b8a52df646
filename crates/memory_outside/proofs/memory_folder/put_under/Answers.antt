use Rattle.std.proofs.Common.{◌≡◌, Some, None, string_bytes, rules}
use Rattle.std.specs.List.{position}
use Rattle.link_traits.specs.Contents.{has_name}
use Rattle.memory_outside.proofs.Parts.{position-with_name-part, position-with_name-nowhere}
use Rattle.memory_outside.proofs.memory_folder.put_under.Goals as goal

pub returns-in-Some-clause-files : goal.returns-in-Some-clause-files
returns-in-Some-clause-files c =
    let at : position (λ part. has_name c.args.from.now part.items) c.args.parts.now.items ≡ Some c.in-Some.part = search rules in
    position-with_name-part _ c.args.parts.now.items c.args.from.now (string_bytes c.args.to) c.in-Some.part c.index_mut.result.now c.put_under_in.new.files at c.index_mut.ensures.value c.put_under_in.ensures

pub returns-in_default-clause-files : goal.returns-in_default-clause-files
returns-in_default-clause-files c =
    let none : position (λ part. has_name c.args.from.now part.items) c.args.parts.now.items ≡ None = search rules in
    position-with_name-nowhere _ c.args.parts.now.items c.args.from.now (string_bytes c.args.to) none
