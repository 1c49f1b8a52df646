-- The data files of a dump, each of which has rows of one table.
use Rattle.std.specs.Prelude.{ℕ, ◌≡◌, true, List, ◌++◌, length, codes, All}
use Rattle.file_forms.specs.SchemaFile.{command_line}
use Rattle.folder_forms.specs.FileName.{NamedFile, HasFileName}
use Rattle.folder_forms.specs.declared.file_kind.FileKind.TheVariants as Kinds
use Rattle.honest_server.specs.Columns.{plain_columns, plain_names}
use Rattle.honest_server.specs.Insert.{Insertion, SpelledCell, SpellsInsert, are_spelled_for}
use Rattle.object_forms.specs.declared.shape.Column.{Column}
use Rattle.statement_forms.specs.declared.command.Command.TheVariants.{NamesBinary, ForeignKeyChecksOff, TimeZoneUtc}

-- the lines that every data file begins with
abbrev pub data_front : List ℕ
data_front =
    command_line NamesBinary ++ command_line ForeignKeyChecksOff ++ command_line TimeZoneUtc

-- INSERTs into this table with the names of these columns, each with a semicolon and a line feed after it, spell these rows
pub data SpellsInserts (table : List ℕ) (columns : List (List ℕ)) :
    List ℕ → List (List SpelledCell) → Type 0 where
  last_insert : {text whole : List ℕ} {rows : List (List SpelledCell)} →
      SpellsInsert text table (record { columns = columns; rows = rows }) →
      whole ≡ text ++ codes ";\n" → SpellsInserts table columns whole rows
  next_insert : {text rest whole : List ℕ} {rows more all : List (List SpelledCell)} →
      SpellsInsert text table (record { columns = columns; rows = rows }) →
      SpellsInserts table columns rest more → whole ≡ text ++ codes ";\n" ++ rest →
      all ≡ rows ++ more → SpellsInserts table columns whole all

-- The bytes are a data file of the table, which says these columns and rows: three lines that set the session, and INSERTs with as many literals
-- in each row as there are columns.
pub record IsDataFile (table : List ℕ) (says : Insertion) (bytes : List ℕ) : Type 0 where
  pub inserts : List ℕ
  pub bytes_are : bytes ≡ data_front ++ inserts
  pub spells : SpellsInserts table says.columns inserts says.rows
  pub as_many : All (λ row. length row ≡ length says.columns) says.rows

-- a file of this name with these bytes spells rows of its table
pub record SpellsTable (file : NamedFile) (bytes : List ℕ) (says : Insertion) : Type 0 where
  pub of_rows : file.kind ≡ Kinds.Rows
  pub named : HasFileName file
  pub is_file : IsDataFile file.name says bytes

-- the columns are all that rows of the table have cells of, in their order; cells of JSON columns are NULL or spelled by CONVERT, and no others are
pub record FitsColumns (columns : List Column) (says : Insertion) : Type 0 where
  pub names : says.columns ≡ plain_names columns
  pub json : All (λ row. are_spelled_for (λ _. true) (plain_columns columns) row ≡ true) says.rows
