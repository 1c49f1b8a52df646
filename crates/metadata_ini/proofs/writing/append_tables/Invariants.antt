use Rattle.std.proofs.Common.{◌≡◌, ◌++◌, map}
use Rattle.std.specs.List.{flat_map}
use Rattle.folder_forms.specs.Metadata.{ended, table_line}
use Rattle.metadata_ini.specs.Tables.{plain_tables}
use Rattle.metadata_ini.proofs.writing.append_tables.Given as goal

abbrev pub invariant-loop-schema : goal.invariant-loop-schema
invariant-loop-schema l =
    l.out.bytes ++ flat_map ended (map table_line (plain_tables l.schema-iterator)) ≡ l.initial.out.bytes ++ flat_map ended (map table_line (plain_tables l.initial.schema-iterator))
