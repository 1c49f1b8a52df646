use Rattle.std.proofs.Common.{◌≡◌, take}
use Rattle.std.specs.List.{flat_map}
use Rattle.link_traits.specs.Contents.{file_names}
use Rattle.memory_outside.proofs.memory_folder.MemoryFolder.copied_names.Given as goal

abbrev pub invariant-parts : goal.invariant-parts
invariant-parts l = l.found ≡ file_names (flat_map (λ part. part.items) (take l.part-index l.part-items))
