use Rattle.std.proofs.Common.{◌≡◌, drop}
use Rattle.std.specs.List.{flat_map}
use Rattle.link_traits.specs.Contents.{contents_of}
use Rattle.memory_outside.proofs.memory_folder.MemoryFolder.file.Given as goal

abbrev pub invariant-parts : goal.invariant-parts
invariant-parts l = contents_of l.self.contents l.name ≡ contents_of (flat_map (λ part. part.items) (drop l.part-index l.part-items)) l.name
