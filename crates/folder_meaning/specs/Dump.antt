-- Which folders a dump may leave.
use Rattle.std.specs.Prelude.{ℕ, ◌≡◌, ◌≢◌, ◌+◌, ◌&&◌, not, if◌then◌else◌, Bool, true, false, List, [], ◌∷◌, ◌++◌, length, map, filter, take, drop, IsPermutation, Option, Some, None}
use Rattle.std.specs.Option.{option_map, option_or}
use Rattle.file_forms.specs.ColumnKind.{kinds_of}
use Rattle.file_forms.specs.SchemaFile.{IsSchemaText, file_of_object}
use Rattle.file_forms.specs.TableRows.{data_text, insert_front, texts_of_rows}
use Rattle.folder_forms.specs.FileName.{file_of}
use Rattle.folder_forms.specs.LoadOrder.{IsLoadOrder}
use Rattle.folder_forms.specs.declared.file_kind.FileKind.{FileKind}
use Rattle.folder_forms.specs.declared.file_kind.FileKind.TheVariants as Kinds
use Rattle.folder_forms.specs.declared.metadata.FileLine.{FileLine}
use Rattle.folder_forms.specs.declared.metadata.Metadata.{Metadata}
use Rattle.folder_meaning.specs.Folder.{HasFile, HasMetadataFile, HasNoOther}
use Rattle.honest_server.specs.Columns.{plain_names}
use Rattle.honest_server.specs.WideKey.{integers_at, wide_key, wide_keys_rise}
use Rattle.link_traits.specs.Contents.{File}
use Rattle.object_forms.specs.declared.kind.Kind.TheVariants.{Table}
use Rattle.server_data.specs.Bag.{IsSameBag}
use Rattle.server_data.specs.Equal.{kind_eq}
use Rattle.server_data.specs.Fold.{rows_of}
use Rattle.server_data.specs.Select.{has_selected_table, selection}
use Rattle.server_data.specs.declared.choice.Choice.{Choice}
use Rattle.server_data.specs.declared.data.Database.{Database}
use Rattle.server_data.specs.declared.data.Object.{Object}
use Rattle.server_data.specs.declared.data.Position.{Position}
use Rattle.sha1.specs.Sha1.{sha1}
use Rattle.sql_cells.specs.declared.cell.Cell.{Cell}
use Rattle.sql_cells.specs.declared.cell_kind.CellKind.{CellKind}

-- how rows are written: how many at most into a file of a table with a key, how many bytes a statement has at most, whether bytes are written in
-- hexadecimal digits, and whether a key of several columns counts as a key
pub record Layout : Type 0 where
  pub row_limit : Option ℕ
  pub statement_size : ℕ
  pub hex : Bool
  pub wide : Bool

-- what is dumped and how: the choice, the layout, the database, the position, and the times of start and end in seconds since 1970
pub record Dump : Type 0 where
  pub choice : Choice
  pub layout : Layout
  pub database : Database
  pub position : Option Position
  pub started : ℕ
  pub finished : ℕ

-- the key by which a table's rows are read, if it has one: its columns' indices
abbrev pub key_of_rows : Bool → Object → Option (List ℕ)
key_of_rows wide object =
    option_or (option_map (λ index. index ∷ []) object.key)
    (if wide then wide_key object else None)

-- the rows stand in the order of the key, where there is one
abbrev pub AreInKeyOrder : Object → Option (List ℕ) → List (List Cell) → Type 0
AreInKeyOrder object None rows = Unit {0}
AreInKeyOrder object (Some indices) rows =
    wide_keys_rise (map (integers_at object.columns indices) rows) ≡ true

-- how many rows of so many go into a file of a table: with a key the limit, where there is one, and else all
abbrev pub rows_a_file : Option ℕ → Option (List ℕ) → ℕ → ℕ
rows_a_file None key all = all
rows_a_file (Some limit) None all = all
rows_a_file (Some limit) (Some indices) all = limit

-- a data file: its table, its number, and its rows
pub record TableFile : Type 0 where
  pub object : Object
  pub number : ℕ
  pub rows : List (List Cell)

-- the files of a table's rows from a number on, each of so many rows, the last one of what is left
pub data AreFilesFrom (object : Object) (size : ℕ) :
    ℕ → List (List Cell) → List TableFile → Type 0 where
  no_rows : {number : ℕ} → AreFilesFrom object size number [] []
  more_rows : {number : ℕ} {rows : List (List Cell)} {files : List TableFile} → rows ≢ [] →
      AreFilesFrom object size (number + 1) (drop size rows) files →
      AreFilesFrom object size number rows
      (record { object = object; number = number; rows = take size rows } ∷ files)

-- the files of a table: of its rows, in the order of its key or, without one, in any order
pub record AreFilesOfTable (layout : Layout) (database : Database) (object : Object)
    (files : List TableFile) : Type 0 where
  pub rows : List (List Cell)
  pub same : IsSameBag rows (rows_of database object.schema object.name)
  pub in_order : AreInKeyOrder object (key_of_rows layout.wide object) rows
  pub are_files : AreFilesFrom object
      (rows_a_file layout.row_limit (key_of_rows layout.wide object) (length rows)) 0 rows files

-- the files of these tables, one table after the other
pub data AreFilesOfTables (layout : Layout) (database : Database) :
    List Object → List TableFile → Type 0 where
  no_tables : AreFilesOfTables layout database [] []
  next_table : {object : Object} {tables : List Object} {files more all : List TableFile} →
      AreFilesOfTable layout database object files → AreFilesOfTables layout database tables more →
      all ≡ files ++ more → AreFilesOfTables layout database (object ∷ tables) all

-- a table whose rows are selected
abbrev pub is_dumped_table : Choice → Database → Object → Bool
is_dumped_table choice database object =
    kind_eq object.kind Table && has_selected_table choice database object.schema object.name

-- the tables whose rows are selected
abbrev pub dumped_tables : Choice → Database → List Object
dumped_tables choice database =
    if choice.no_data then [] else filter (is_dumped_table choice database) database.objects

-- the line has its file's length and digest
pub record IsLineOf (line : FileLine) (bytes : List ℕ) : Type 0 where
  pub size : line.bytes ≡ length bytes
  pub digest : line.digest ≡ sha1 bytes

-- the folder has the schema file that is written for the object, and this is its line
pub record IsObjectLine (files : List File) (line : FileLine) (object : Object) : Type 0 where
  pub bytes : List ℕ
  pub name : line.name ≡ file_of_object object
  pub has : HasFile files line.name bytes
  pub text : IsSchemaText object bytes
  pub rows : line.rows ≡ 0
  pub line_is : IsLineOf line bytes

-- the folder has the data file that is written for these rows, and this is its line
pub record IsRowsLine (layout : Layout) (files : List File) (line : FileLine) (file : TableFile)
    : Type 0 where
  pub bytes : List ℕ
  pub name : line.name ≡ file_of Kinds.Rows file.object.schema file.object.name file.number
  pub has : HasFile files line.name bytes
  pub kinds : List CellKind
  pub kinds_are : kinds_of layout.hex file.object.columns ≡ Some kinds
  pub text : bytes
      ≡ data_text (insert_front file.object.name (plain_names file.object.columns))
      layout.statement_size (texts_of_rows kinds file.rows)
  pub rows : line.rows ≡ length file.rows
  pub line_is : IsLineOf line bytes

-- each line is of the object in its place
pub data AreObjectLines (files : List File) : List FileLine → List Object → Type 0 where
  no_objects : AreObjectLines files [] []
  next_object : {line : FileLine} {lines : List FileLine} {object : Object}
      {objects : List Object} → IsObjectLine files line object →
      AreObjectLines files lines objects → AreObjectLines files (line ∷ lines) (object ∷ objects)

-- each line is of the data file in its place
pub data AreRowsLines (layout : Layout) (files : List File) :
    List FileLine → List TableFile → Type 0 where
  no_files : AreRowsLines layout files [] []
  next_file : {line : FileLine} {lines : List FileLine} {file : TableFile}
      {more : List TableFile} → IsRowsLine layout files line file →
      AreRowsLines layout files lines more →
      AreRowsLines layout files (line ∷ lines) (file ∷ more)

-- whether a file holds rows
abbrev pub holds_rows : FileKind → Bool
holds_rows (Kinds.Object kind) = false
holds_rows Kinds.Rows = true

-- the lines of files that hold rows
abbrev pub lines_of_rows : List FileLine → List FileLine
lines_of_rows lines = filter (λ line. holds_rows line.name.kind) lines

-- the lines of files that hold an object
abbrev pub lines_of_objects : List FileLine → List FileLine
lines_of_objects lines = filter (λ line. not (holds_rows line.name.kind)) lines

-- the selected objects, in the order in which they are loaded
pub record AreSelected (dump : Dump) (objects : List Object) : Type 0 where
  pub same : IsPermutation objects (selection dump.choice dump.database).objects
  pub in_order : IsLoadOrder objects

-- the data files of all tables whose rows are selected, in the order of the tables
pub record AreDataFiles (dump : Dump) (files : List TableFile) : Type 0 where
  pub tables : List Object
  pub same : IsPermutation tables (dumped_tables dump.choice dump.database)
  pub in_order : IsLoadOrder tables
  pub are_files : AreFilesOfTables dump.layout dump.database tables files

-- `metadata` is of version 2, and says when and at which position the server was dumped
pub record SaysWhen (dump : Dump) (metadata : Metadata) : Type 0 where
  pub version : metadata.version ≡ 2
  pub started : metadata.started ≡ dump.started
  pub finished : metadata.finished ≡ dump.finished
  pub position : metadata.position ≡ dump.position

-- The folder is one that a dump may leave: it holds exactly the schema files of the selected objects, the data files of the tables whose rows are selected, and a
-- `metadata` with a line for each, in load order.
pub record IsDumpOf (dump : Dump) (files : List File) : Type 0 where
  pub metadata : Metadata
  pub bytes : List ℕ
  pub has_metadata : HasMetadataFile files metadata bytes
  pub says : SaysWhen dump metadata
  pub no_other : HasNoOther files metadata.files
  pub objects : List Object
  pub selected : AreSelected dump objects
  pub object_lines : AreObjectLines files (lines_of_objects metadata.files) objects
  pub table_files : List TableFile
  pub data_files : AreDataFiles dump table_files
  pub rows_lines : AreRowsLines dump.layout files (lines_of_rows metadata.files) table_files
