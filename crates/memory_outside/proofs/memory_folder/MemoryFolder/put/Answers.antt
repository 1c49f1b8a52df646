use Rattle.std.proofs.Common.{sym, subst, rules}
use Rattle.link_traits.specs.Contents.{HaveOwnNames}
use Rattle.memory_outside.proofs.Names.{own_names_with_file, own_names_put}
use Rattle.memory_outside.proofs.memory_folder.MemoryFolder.put.Goals as goal

pub invariant_of-self : goal.invariant_of-self
invariant_of-self c = (search rules, subst HaveOwnNames (sym c.put_among.ensures.files) (own_names_with_file _ _ c.self.invariant.1))

pub invariant_of-self-2 : goal.invariant_of-self-2
invariant_of-self-2 c = (search rules, own_names_put c.put_after.result _ _ _ _ c.self.invariant.1 c.put_after.ensures.ok c.put_after.ensures.err)
