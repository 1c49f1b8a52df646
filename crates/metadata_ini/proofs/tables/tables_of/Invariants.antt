use Rattle.std.proofs.Common.{take}
use Rattle.folder_forms.specs.Metadata.{IsTableList}
use Rattle.metadata_ini.specs.Tables.{plain_tables}
use Rattle.metadata_ini.proofs.tables.tables_of.Given as goal

abbrev pub invariant-loop-file : goal.invariant-loop-file
invariant-loop-file l = IsTableList (take l.file-index l.files) (plain_tables l.made.entries)
