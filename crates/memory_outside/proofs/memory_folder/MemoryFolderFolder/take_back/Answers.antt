use Rattle.std.proofs.Common.{rules}
use Rattle.std.specs.List.{flat_map}
use Rattle.link_traits.specs.Contents.{HaveOwnNames, ShareNoName}
use Rattle.memory_outside.proofs.Names.{own_names_part}
use Rattle.memory_outside.proofs.memory_folder.MemoryFolderFolder.take_back.Goals as goal

own : (c : goal.After-drop-script-inside) → HaveOwnNames (flat_map (λ part. part.items) c.push_reserved.new.self.items)
own c =
    let apart : ShareNoName c.args.shelf.made (flat_map (λ part. part.items) c.self.inside.parts.items) = rw (← c.self.view_is) at c.requires.new_names c.self.invariant.1 in
    own_names_part (λ part. part.items) c.self.inside.parts.items c.push_reserved.new.self.items c.close-made.result.0 c.push_reserved.ensures.items c.self.invariant.1 (rw c.close-made.ensures.made c.close-made.ensures.own_names) (rw c.close-made.ensures.made apart)

pub invariant_of-self : goal.invariant_of-self
invariant_of-self c = (search rules, own c)

pub returns-clause-tells : goal.returns-clause-tells
returns-clause-tells c = (λ _. own c, λ _. rw (← c.self.view_is) c.self.invariant.1)
