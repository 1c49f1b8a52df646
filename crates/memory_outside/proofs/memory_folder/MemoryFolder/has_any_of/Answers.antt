use Rattle.std.proofs.Common.{◌≡◌, false, sym, ◌∙◌}
use Rattle.std.specs.List.{flat_map, list_any}
use Rattle.link_traits.specs.Contents.{has_name}
use Rattle.memory_outside.proofs.Names.{none_apart}
use Rattle.memory_outside.proofs.Parts.{list_any-parts}
use Rattle.memory_outside.proofs.memory_folder.MemoryFolder.has_any_of.Goals as goal

pub returns-clause-is : goal.returns-clause-is
returns-clause-is c =
    let parts = c.self.inside.parts.items in
    rw (← c.self.view_is) ((rw c.as_slice.ensures.value at c.has_any.ensures) ∙ sym (list_any-parts (λ file. has_name file.name c.args.shelf.now.made) (λ part. part.items) parts))

pub returns-clause-apart : goal.returns-clause-apart
returns-clause-apart c none =
    let parts = c.self.inside.parts.items in
    let in_parts : list_any (λ part. list_any (λ file. has_name file.name c.args.shelf.now.made) part.items) parts ≡ false = rw c.as_slice.ensures.value at (sym c.has_any.ensures ∙ none) in
    rw (← c.self.view_is) (none_apart c.args.shelf.now.made (flat_map (λ part. part.items) parts) (list_any-parts (λ file. has_name file.name c.args.shelf.now.made) (λ part. part.items) parts ∙ in_parts))
