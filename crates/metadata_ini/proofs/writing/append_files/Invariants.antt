use Rattle.std.proofs.Common.{◌≡◌, ◌++◌, map, take}
use Rattle.std.specs.List.{flat_map}
use Rattle.folder_forms.specs.Metadata.{ended, file_line}
use Rattle.metadata_ini.proofs.writing.append_files.Given as goal

abbrev pub invariant-loop-file : goal.invariant-loop-file
invariant-loop-file l = l.out.bytes ≡ l.initial.out.bytes ++ flat_map ended (map file_line (take l.file-index l.files))
