use Rattle.std.proofs.Common.{◌≡◌, ◌++◌, ◌∷◌, [], ◌∙◌, ap, rules}
use Rattle.std.specs.List.{flat_map}
use Rattle.memory_outside.proofs.Parts.{position-with_file-new}
use Rattle.memory_outside.proofs.memory_folder.put_after.Goals as goal

pub returns-clause-ok : goal.returns-clause-ok
returns-clause-ok c =
    let one : c.push_reserved.new.self.items ≡ c.args.file ∷ [] = search rules in
    let more : c.push_reserved-2.new.self.items ≡ c.args.parts.now.items ++ c.push_reserved.new.self ∷ [] = search rules in
    ap (flat_map (λ part. part.items)) more ∙ position-with_file-new _ c.args.parts.now.items c.args.file c.push_reserved.new.self c.requires one
