use Rattle.std.proofs.Common.{◌≡◌, drop}
use Rattle.link_traits.specs.Contents.{contents_of}
use Rattle.memory_outside.proofs.memory_shelf.file_in.Given as goal

abbrev pub invariant-files : goal.invariant-files
invariant-files l = contents_of l.files l.name ≡ contents_of (drop l.file-index l.files) l.name
