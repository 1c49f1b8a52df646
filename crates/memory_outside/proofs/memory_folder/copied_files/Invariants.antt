use Rattle.std.proofs.Common.{◌≡◌, take}
use Rattle.std.specs.List.{flat_map}
use Rattle.memory_outside.proofs.memory_folder.copied_files.Given as goal

abbrev pub invariant-parts : goal.invariant-parts
invariant-parts l = l.copies.items ≡ flat_map (λ part. part.items) (take l.part-index l.parts)
