-- Worked lines of `metadata`.
use Rattle.std.specs.Prelude.{◌≡◌, ◌-◌, ◌^◌, ℕ, List, [], ◌∷◌, ◌++◌, codes, Some, None}
use Rattle.folder_forms.specs.FileName.{file_of}
use Rattle.folder_forms.specs.Metadata.{TableNames, file_line, moment_text, position_lines, rows_of_table, table_line, table_lines}
use Rattle.folder_forms.specs.declared.file_kind.FileKind.TheVariants.{Object, Rows}
use Rattle.folder_forms.specs.declared.metadata.FileLine.{FileLine}
use Rattle.folder_forms.specs.declared.moment.Moment.{Moment}
use Rattle.server_data.specs.declared.data.Position.{Position}
use Rattle.object_forms.specs.declared.kind.Kind.TheVariants.{Schema}

-- the digest whose bytes are 0 to 19
abbrev pub digest : List ℕ
digest =
    0 ∷ 1 ∷ 2 ∷ 3 ∷ 4 ∷ 5 ∷ 6 ∷ 7 ∷ 8 ∷ 9 ∷ 10 ∷ 11 ∷ 12 ∷ 13 ∷ 14 ∷ 15 ∷ 16 ∷ 17 ∷ 18 ∷ 19 ∷ []

-- the digest as it is spelled
abbrev pub digits : List ℕ
digits = codes "000102030405060708090a0b0c0d0e0f10111213"

-- a file of so many rows of the table `t` of the schema `s`
abbrev pub rows_file : ℕ → ℕ → FileLine
rows_file number rows = record {
  name = file_of Rows (codes "s") (codes "t") number;
  rows = rows;
  bytes = 121;
  digest = digest;
}

-- the file of that schema
abbrev pub schema_file : FileLine
schema_file = record {
  name = file_of (Object Schema) (codes "s") (codes "s") 0;
  rows = 0;
  bytes = 108;
  digest = digest;
}

-- a moment
abbrev pub moment : Moment
moment = record { year = 2024; month = 5; day = 1; hour = 12; minute = 0; second = 5 }

-- a position of the binary log
abbrev pub log_position : Position
log_position = record { file = codes "binlog.000001"; offset = 157; gtid = [] }

-- the table `t` of the schema `s`
abbrev pub worked_table : TableNames
worked_table = (codes "s", codes "t")

-- the greatest number of rows
abbrev pub most : ℕ
most = 2 ^ 64 - 1

-- how the lines read
pub record MetadataLines : Type 0 where
  pub schema : file_line schema_file
      ≡ codes "schema 0 108 " ++ digits ++ codes " s-schema-create.sql"
  pub rows : file_line (rows_file 0 2) ≡ codes "data 2 121 " ++ digits ++ codes " s.t.00000.sql"
  pub time : moment_text moment ≡ codes "2024-05-01T12:00:05Z"
  pub no_position : position_lines None ≡ []
  pub position : position_lines (Some log_position)
      ≡ codes "[position]" ∷ codes "file=binlog.000001" ∷ codes "offset=157" ∷ codes "gtid=" ∷ []
  pub table : table_line (worked_table, 2) ≡ codes "2 s.t"
  pub escaped : table_line ((codes "a.b", codes "x/y-1"), 0) ≡ codes "0 a@2eb.x@2fy@2d1"
  pub none_in_version_1 : table_lines 1 ((worked_table, 2) ∷ []) ≡ []
  pub some_in_version_2 : table_lines 2 [] ≡ codes "[tables]" ∷ []

-- how many rows a table has
pub record RowsOfTables : Type 0 where
  pub sum : rows_of_table (schema_file ∷ rows_file 0 2 ∷ rows_file 1 3 ∷ []) worked_table ≡ Some 5
  pub greatest : rows_of_table (rows_file 0 most ∷ rows_file 1 3 ∷ []) worked_table ≡ Some most
  pub other : rows_of_table (schema_file ∷ rows_file 0 2 ∷ []) (codes "s", codes "u") ≡ None
