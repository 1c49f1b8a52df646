use Rattle.std.proofs.Common.{◌≡◌, ◌++◌, take}
use Rattle.memory_outside.proofs.memory_folder.files_into.Given as goal

abbrev pub invariant-files : goal.invariant-files
invariant-files l = l.copies.items ≡ l.fn.copies.items ++ take l.file-index l.files
