use Rattle.std.proofs.Common.{◌≡◌, ◌++◌, take}
use Rattle.link_traits.specs.Contents.{file_names}
use Rattle.memory_outside.proofs.memory_folder.names_into.Given as goal

abbrev pub invariant-files : goal.invariant-files
invariant-files l = l.found ≡ l.fn.found ++ file_names (take l.file-index l.files)
