use Rattle.std.proofs.Common.{◌≡◌, string_bytes, rules}
use Rattle.std.specs.List.{flat_map}
use Rattle.memory_outside.proofs.Names.{own_names_moved}
use Rattle.memory_outside.proofs.memory_folder.MemoryFolder.change_name.Goals as goal

pub returns-then-ne-clause-own_names : goal.returns-then-ne-clause-own_names
returns-then-ne-clause-own_names c =
    let is : string_bytes c.in_ok-name.name ≡ c.args.to.now = search rules in
    own_names_moved (flat_map (λ part. part.items) c.self.inside.parts.items) (flat_map (λ part. part.items) c.take_out.new.parts.items) (flat_map (λ part. part.items) c.put_under.new.parts.items) c.args.from.now c.args.to.now (string_bytes c.in_ok-name.name) is c.take_out.ensures.files c.put_under.ensures.files c.self.invariant.1

pub invariant_of-self : goal.invariant_of-self
invariant_of-self c = (search rules, returns-then-ne-clause-own_names c)
