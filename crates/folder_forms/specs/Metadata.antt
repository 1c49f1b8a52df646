-- The file `metadata` of a dump: its lines, what they say, and where a text leaves it.
use Rattle.std.specs.Prelude.{◌≡◌, ◌≢◌, ℕ, ◌+◌, ◌-◌, ◌*◌, ◌/◌, ◌%◌, ◌<◌, ◌≤◌, ◌^◌, ◌&&◌, ◌==◌, ◌⊎◌, min, nat_le, if◌then◌else◌, Bool, true, false, ℤ, pos, ◌+ℤ◌, ◌*ℤ◌, List, [], ◌∷◌, ◌++◌, length, map, codes, decimal, Option, Some, None, IfSome}
use Rattle.std.specs.List.{All, AllPairs, flat_map, list_all, list_any, sum_by}
use Rattle.std.specs.List.Sorted.{IsStrictlySortedBy}
use Rattle.std.specs.Cmp.Lexicographic.{slice_cmp}
use Rattle.std.specs.Map.{lookup, keys_of}
use Rattle.std.specs.Ordering.{nat_cmp, ordering_then, is_eq}
use Rattle.std.specs.declared.cmp.Ordering.{Ordering}
use Rattle.hex.specs.Hex.{encode_lower, IsBytes}
use Rattle.jiff_core.specs.Calendar.{IsCivilDate, days_from_civil}
use Rattle.object_forms.specs.declared.kind.Kind.TheVariants.{Schema, Table, Procedure, Function, View, Trigger, Event}
use Rattle.server_data.specs.Names.{escaped_name}
use Rattle.server_data.specs.declared.data.Position.{Position}
use Rattle.folder_forms.specs.FileName.{NamedFile, HasFileName, file_text}
use Rattle.folder_forms.specs.declared.file_kind.FileKind.{FileKind}
use Rattle.folder_forms.specs.declared.file_kind.FileKind.TheVariants.{Object, Rows}
use Rattle.folder_forms.specs.declared.metadata.FileLine.{FileLine}
use Rattle.folder_forms.specs.declared.metadata.Metadata.{Metadata}
use Rattle.folder_forms.specs.declared.moment.Moment.{Moment}

-- Times

-- a number below 100 in two digits
abbrev pub two_digits : ℕ → List ℕ
two_digits number = (number / 10 + 48) ∷ (number % 10 + 48) ∷ []

-- `YYYY-MM-DDTHH:MM:SSZ`
abbrev pub moment_text : Moment → List ℕ
moment_text m =
    two_digits (m.year / 100) ++ two_digits (m.year % 100) ++ codes "-" ++ two_digits m.month
    ++ codes "-" ++ two_digits m.day ++ codes "T" ++ two_digits m.hour ++ codes ":"
    ++ two_digits m.minute ++ codes ":" ++ two_digits m.second ++ codes "Z"

-- a real date of the years 1970 to 9998, and a time of that day
pub record IsMoment (m : Moment) : Type 0 where
  pub date : IsCivilDate (pos m.year) m.month m.day
  pub years : (1970 ≤ m.year) × (m.year ≤ 9998)
  pub hours : m.hour < 24
  pub minutes : m.minute < 60
  pub seconds : m.second < 60

-- how many seconds after 1970 began a moment is
abbrev pub moment_seconds : Moment → ℤ
moment_seconds m =
    days_from_civil (pos m.year) m.month m.day *ℤ pos 86400
    +ℤ pos (m.hour * 3600 + m.minute * 60 + m.second)

-- the seconds after 1970 began at which the year 9999 begins
abbrev pub year_9999 : ℕ
year_9999 = 253370764800

-- the text is the moment so many seconds after 1970 began
pub record IsTimeText (text : List ℕ) (seconds : ℕ) : Type 0 where
  pub moment : Moment
  pub is : text ≡ moment_text moment
  pub real : IsMoment moment
  pub value : pos seconds ≡ moment_seconds moment

-- The position

-- a byte of ASCII that can be printed
abbrev pub is_printable : ℕ → Bool
is_printable byte = nat_le 32 byte && nat_le byte 126

-- A position can be written: its file has a name, which is of printable bytes like the set of
-- transactions.
pub record HasPositionLines (position : Position) : Type 0 where
  pub file_there : position.file ≢ []
  pub file_printable : list_all is_printable position.file ≡ true
  pub gtid_printable : list_all is_printable position.gtid ≡ true
  pub offset_size : position.offset < 2 ^ 64

-- the lines of a position
abbrev pub position_lines : Option Position → List (List ℕ)
position_lines None = []
position_lines (Some position) =
    codes "[position]" ∷ (codes "file=" ++ position.file)
    ∷ (codes "offset=" ++ decimal position.offset) ∷ (codes "gtid=" ++ position.gtid) ∷ []

-- Files

-- the word of a kind
abbrev pub kind_word : FileKind → List ℕ
kind_word (Object Schema) = codes "schema"
kind_word (Object Table) = codes "table"
kind_word Rows = codes "data"
kind_word (Object Procedure) = codes "procedure"
kind_word (Object Function) = codes "function"
kind_word (Object View) = codes "view"
kind_word (Object Trigger) = codes "trigger"
kind_word (Object Event) = codes "event"

-- the place of a kind in the order in which files are loaded
abbrev pub kind_place : FileKind → ℕ
kind_place (Object Schema) = 0
kind_place (Object Table) = 1
kind_place Rows = 2
kind_place (Object Procedure) = 3
kind_place (Object Function) = 4
kind_place (Object View) = 5
kind_place (Object Trigger) = 6
kind_place (Object Event) = 7

-- a digest of 20 bytes
pub record IsFileDigest (digest : List ℕ) : Type 0 where
  pub size : length digest ≡ 20
  pub bytes : IsBytes digest

-- A file can have a line: it can be called so, files of rows have some rows and other files none,
-- and each number is below 2^64.
pub record HasFileLine (file : FileLine) : Type 0 where
  pub named : HasFileName file.name
  pub some_rows : file.name.kind ≡ Rows → 0 < file.rows
  pub no_rows : file.name.kind ≢ Rows → file.rows ≡ 0
  pub rows_size : file.rows < 2 ^ 64
  pub bytes_size : file.bytes < 2 ^ 64
  pub digest : IsFileDigest file.digest

-- the text of a file's name
abbrev pub named_text : NamedFile → List ℕ
named_text file = file_text file.kind file.schema file.name file.number

-- the line of a file: kind, rows, bytes, digest and name
abbrev pub file_line : FileLine → List ℕ
file_line file =
    kind_word file.name.kind ++ codes " " ++ decimal file.rows ++ codes " " ++ decimal file.bytes
    ++ codes " " ++ encode_lower file.digest ++ codes " " ++ named_text file.name

-- Of two files the one stands first: its kind isn't loaded after the other's, and of files of one
-- kind, schema and name it has the lower number. So no name stands twice.
pub record MayPrecede (one other : FileLine) : Type 0 where
  pub kinds : kind_place one.name.kind ≤ kind_place other.name.kind
  pub numbers : one.name.kind ≡ other.name.kind → one.name.schema ≡ other.name.schema
      → one.name.name ≡ other.name.name → one.name.number < other.name.number

-- Tables

-- the files of that kind are of a table: its text, or rows of it
abbrev pub names_table : FileKind → Bool
names_table (Object Schema) = false
names_table (Object Table) = true
names_table Rows = true
names_table (Object Procedure) = false
names_table (Object Function) = false
names_table (Object View) = false
names_table (Object Trigger) = false
names_table (Object Event) = false

-- the schema and the name of a table
abbrev pub TableNames : Type 0
TableNames = List ℕ × List ℕ

-- the order of tables: by the bytes of the schema, then by those of the name
abbrev pub table_order : TableNames → TableNames → Ordering
table_order one other =
    ordering_then (slice_cmp nat_cmp one.0 other.0) (slice_cmp nat_cmp one.1 other.1)

-- whether a file is of that table
abbrev pub is_file_of : TableNames → FileLine → Bool
is_file_of table file =
    names_table file.name.kind && is_eq (table_order table (file.name.schema, file.name.name))

-- how many rows the files of a table have together, or 2^64 - 1 where they have more; none where
-- no file is of that table
abbrev pub rows_of_table : List FileLine → TableNames → Option ℕ
rows_of_table files table =
    if list_any (is_file_of table) files then
    Some (min (2 ^ 64 - 1)
    (sum_by (λ file. if is_file_of table file then file.rows else 0) files))
    else None

-- the tables of the files, each once, in their order, with their rows
pub record IsTableList (files : List FileLine) (tables : List (TableNames × ℕ)) : Type 0 where
  pub order : IsStrictlySortedBy table_order (keys_of tables)
  pub rows : (table : TableNames)
      → lookup (λ other. is_eq (table_order table other)) tables ≡ rows_of_table files table

-- the line of a table: its rows, its schema and its name
abbrev pub table_line : TableNames × ℕ → List ℕ
table_line table =
    decimal table.1 ++ codes " " ++ escaped_name table.0.0 ++ codes "." ++ escaped_name table.0.1

-- the lines of the tables, which version 2 has
abbrev pub table_lines : ℕ → List (TableNames × ℕ) → List (List ℕ)
table_lines version tables =
    if version == 2 then codes "[tables]" ∷ map table_line tables else []

-- The whole

-- a value can be written as a `metadata`
pub record HasMetadata (value : Metadata) : Type 0 where
  pub version : (value.version ≡ 1) ⊎ (value.version ≡ 2)
  pub started : value.started < year_9999
  pub finished : value.finished < year_9999
  pub position : IfSome value.position HasPositionLines
  pub files : All HasFileLine value.files
  pub order : AllPairs MayPrecede value.files

-- the lines of a value, whose times have these texts and whose tables are these
abbrev pub lines_of : Metadata → List ℕ → List ℕ → List (TableNames × ℕ) → List (List ℕ)
lines_of value started finished tables =
    codes "[dump]" ∷ (codes "version=" ++ decimal value.version)
    ∷ (codes "started=" ++ started) ∷ (codes "finished=" ++ finished)
    ∷ (position_lines value.position
    ++ (codes "[files]" ∷ (map file_line value.files ++ table_lines value.version tables)))

-- the lines are the `metadata` that says this
pub record IsMetadata (lines : List (List ℕ)) (value : Metadata) : Type 0 where
  pub may_be : HasMetadata value
  pub started_text : List ℕ
  pub finished_text : List ℕ
  pub tables : List (TableNames × ℕ)
  pub started : IsTimeText started_text value.started
  pub finished : IsTimeText finished_text value.finished
  pub tables_are : IsTableList value.files tables
  pub are : lines ≡ lines_of value started_text finished_text tables

-- a line with its line feed
abbrev pub ended : List ℕ → List ℕ
ended line = line ++ 10 ∷ []

-- the text is the `metadata` that says this: each line is ended by a line feed
pub record IsMetadataText (text : List ℕ) (value : Metadata) : Type 0 where
  pub lines : List (List ℕ)
  pub are : IsMetadata lines value
  pub is : text ≡ flat_map ended lines

-- Where a text leaves it

-- some `metadata` begins with these lines
pub record BeginsMetadata (lines : List (List ℕ)) : Type 0 where
  pub more : List (List ℕ)
  pub value : Metadata
  pub is : IsMetadata (lines ++ more) value

-- The text is no `metadata`, and line `number` is the first with which none goes on: those before it
-- begin some, with the next ended line none does, and where there is no ended line the text ends too
-- early, or within a line.
pub record IsBadLine (text : List ℕ) (number : ℕ) : Type 0 where
  pub before : List (List ℕ)
  pub rest : List ℕ
  pub divided : text ≡ flat_map ended before ++ rest
  pub is : number ≡ length before + 1
  pub front : BeginsMetadata before
  pub stops : (line after : List ℕ) → rest ≡ ended line ++ after
      → ¬ BeginsMetadata (before ++ line ∷ [])
  pub none : (value : Metadata) → ¬ IsMetadataText text value

-- the text begins as the `metadata` of another version does
pub record IsWrongVersion (text : List ℕ) (version : ℕ) : Type 0 where
  pub rest : List ℕ
  pub is : text ≡ ended (codes "[dump]") ++ ended (codes "version=" ++ decimal version) ++ rest
  pub size : version < 2 ^ 32
  pub first : version ≢ 1
  pub second : version ≢ 2
