-- What a query is answered over a database (MySQL 8.0 Reference Manual, 28.3 "INFORMATION_SCHEMA General Tables", 15.7.7 "SHOW Statements", 15.2.13 "SELECT Statement").
use Rattle.std.specs.Prelude.{ℕ, ◌≡◌, is_some, option_and_then, ◌⊎◌, ◌==◌, ◌&&◌, ◌||◌, not, Bool, true, false, List, [], ◌∷◌, map, filter, filter_map, flat_map, find, position, take, drop, slice_get, Option, Some, None, option_map, bytes_eq, nat_eq, codes, decimal, ℤ, int_lt, int_le}
use Rattle.std.specs.List.{starts_with, list_any, list_all}
use Rattle.object_forms.specs.Shape.{shape, is_integer, is_key}
use Rattle.object_forms.specs.declared.kind.Kind.{Kind}
use Rattle.object_forms.specs.declared.kind.Kind.TheVariants.{Schema, Table, Procedure, Function, View, Trigger, Event}
use Rattle.object_forms.specs.declared.shape.Column.{Column}
use Rattle.server_data.specs.Bag.{IsSameBag}
use Rattle.server_data.specs.Fold.{is_object, table_of_trigger, rows_of}
use Rattle.server_data.specs.declared.data.Database.{Database}
use Rattle.server_data.specs.declared.data.Object.{Object}
use Rattle.server_data.specs.declared.data.Position.{Position}
use Rattle.server_data.specs.declared.data.Settings.{Settings}
use Rattle.sql_cells.specs.Cell.{bytes_of}
use Rattle.sql_cells.specs.declared.cell.Cell.{Cell}
use Rattle.sql_cells.specs.declared.cell.Cell.TheVariants.{Null, Value}
use Rattle.statement_forms.specs.declared.query.Query.{Query}
use Rattle.statement_forms.specs.declared.query.Query.TheVariants.{MasterStatus, BinaryLogStatus, Schemas, Tables, Columns as ColumnsQuery, PrimaryKey, Triggers, Routines, ViewNeeds, Events, CreateDatabase, CreateTable, CreateView, CreateProcedure, CreateFunction, CreateTrigger, CreateEvent, Key, KeyAbove, Rows, RowsByKey, RowsAbove, RowsUpTo, RowsBetween, WideKey, WideKeyAbove, RowsByWideKey, RowsAboveWide, RowsUpToWide, RowsBetweenWide, ProgressDump, ProgressFiles}
use Rattle.honest_server.specs.Columns.{cell_at, integer_at, plain_names}
use Rattle.honest_server.specs.WideKey.{ShowsWideKey, ShowsWideRows, no_bounds}

-- the object of this kind, schema and name
abbrev pub object_at : Database → Kind → List ℕ → List ℕ → Option Object
object_at database kind schema name = find (is_object kind schema name) database.objects

-- the object stands in the schema of this name; a schema, where it is well-formed, stands in itself
abbrev pub is_in_schema : List ℕ → Object → Bool
is_in_schema schema object = bytes_eq object.schema schema

-- a cell that has this value, and is NULL where there is none
abbrev pub option_cell : Option (List ℕ) → Cell
option_cell None = Null
option_cell (Some bytes) = Value bytes

-- SCHEMATA: the name of each schema
abbrev pub schema_row : Object → Kind → Option (List Cell)
schema_row object Schema = Some (Value object.name ∷ [])
schema_row object Table = None
schema_row object Procedure = None
schema_row object Function = None
schema_row object View = None
schema_row object Trigger = None
schema_row object Event = None

-- TABLES: the name and the engine of each table, and the name of each view, whose engine is NULL
abbrev pub table_row : Object → Kind → Option (List Cell)
table_row object Schema = None
table_row object Table =
    Some (Value object.name ∷ Value (codes "BASE TABLE")
    ∷ option_cell (option_map (λ found. found.engine) (shape object.text)) ∷ [])
table_row object Procedure = None
table_row object Function = None
table_row object View = Some (Value object.name ∷ Value (codes "VIEW") ∷ Null ∷ [])
table_row object Trigger = None
table_row object Event = None

-- TRIGGERS: the name of each trigger, its table's, and its rank
abbrev pub trigger_row : Object → Kind → Option (List Cell)
trigger_row object Schema = None
trigger_row object Table = None
trigger_row object Procedure = None
trigger_row object Function = None
trigger_row object View = None
trigger_row object Trigger =
    Some (Value object.name ∷ Value (table_of_trigger object.needs).name
    ∷ Value (decimal object.rank) ∷ [])
trigger_row object Event = None

-- ROUTINES: the name of each procedure and function, and which of the two it is
abbrev pub routine_row : Object → Kind → Option (List Cell)
routine_row object Schema = None
routine_row object Table = None
routine_row object Procedure = Some (Value object.name ∷ Value (codes "PROCEDURE") ∷ [])
routine_row object Function = Some (Value object.name ∷ Value (codes "FUNCTION") ∷ [])
routine_row object View = None
routine_row object Trigger = None
routine_row object Event = None

-- VIEW_TABLE_USAGE: the name of each view beside the schema and the name of each thing that it needs
abbrev pub need_rows : Object → Kind → List (List Cell)
need_rows object Schema = []
need_rows object Table = []
need_rows object Procedure = []
need_rows object Function = []
need_rows object View =
    map (λ need. Value object.name ∷ Value need.schema ∷ Value need.name ∷ []) object.needs
need_rows object Trigger = []
need_rows object Event = []

-- EVENTS: the name of each event
abbrev pub event_row : Object → Kind → Option (List Cell)
event_row object Schema = None
event_row object Table = None
event_row object Procedure = None
event_row object Function = None
event_row object View = None
event_row object Trigger = None
event_row object Event = Some (Value object.name ∷ [])

-- the rows of the objects of a schema
abbrev pub rows_in_schema : (Object → Kind → Option (List Cell)) → Database → List ℕ →
    List (List Cell)
rows_in_schema row database schema =
    filter_map (λ object. row object object.kind) (filter (is_in_schema schema) database.objects)

-- the bytes hold these bytes at some place
abbrev pub has_bytes : List ℕ → List ℕ → Bool
has_bytes needle [] = starts_with nat_eq [] needle
has_bytes needle (byte ∷ bytes) = starts_with nat_eq (byte ∷ bytes) needle || has_bytes needle bytes

-- what EXTRA says of a generated column
abbrev pub says_generated : List ℕ → Bool
says_generated extra =
    has_bytes (codes "VIRTUAL GENERATED") extra || has_bytes (codes "STORED GENERATED") extra

-- COLUMNS: a column's name and type, whether it is generated, and, of a plain column of an integer type, whether it is unsigned. Only such
-- a column can be a key. The type of another may hold the word 'unsigned' as a value of an enum, and its text as part of an expression.
pub record IsColumnRow (column : Column) (row : List Cell) : Type 0 where
  pub column_type : List ℕ
  pub extra : List ℕ
  pub row_is : row ≡ Value column.name ∷ Value column.data_type ∷ Value column_type ∷ Value extra
      ∷ []
  pub unsigned : is_integer column.data_type ≡ true → column.generated ≡ false →
      has_bytes (codes "unsigned") column_type ≡ column.unsigned
  pub generated : says_generated extra ≡ column.generated

-- one row for each column, in their order
abbrev pub AreColumnRows : List Column → List (List Cell) → Type 0
AreColumnRows [] [] = Unit {0}
AreColumnRows [] (row ∷ rows) = ⊥
AreColumnRows (column ∷ columns) [] = ⊥
AreColumnRows (column ∷ columns) (row ∷ rows) = IsColumnRow column row × AreColumnRows columns rows

-- STATISTICS: the columns of a primary key, which tell the table's key: the only one, where it is plain and an integer
abbrev pub key_told : List Column → List (List Cell) → Option ℕ
key_told columns ((Value name ∷ []) ∷ []) = position (is_key name) columns
key_told columns rows = None

-- the row is the name of one of the columns, and nothing else
abbrev pub is_column_name : List Column → List Cell → Bool
is_column_name columns (Value name ∷ []) = list_any (λ column. bytes_eq column.name name) columns
is_column_name columns row = false

-- each row names a column, and together they tell the table's key
pub record TellsKey (object : Object) (rows : List (List Cell)) : Type 0 where
  pub names : list_all (is_column_name object.columns) rows ≡ true
  pub key : key_told object.columns rows ≡ object.key

-- what is said of an object that was looked for, and otherwise where it isn't there
abbrev pub WhereThere : Option Object → (Object → Type 0) → Type 0 → Type 0
WhereThere None P otherwise = otherwise
WhereThere (Some object) P otherwise = P object

-- SHOW CREATE DATABASE and SHOW CREATE TABLE: one row, whose second cell is the text of the object
abbrev pub ShowsText : Object → List (List Cell) → Type 0
ShowsText object rows =
    (first : Cell) × (more : List Cell) × (rows ≡ (first ∷ Value object.text ∷ more) ∷ [])

-- SHOW CREATE VIEW: one row, with the text second, and then the client character set and the collation that the view was made under
pub record ShowsView (object : Object) (rows : List (List Cell)) : Type 0 where
  pub settings : Settings
  pub settings_are : object.settings ≡ Some settings
  pub first : Cell
  pub more : List Cell
  pub rows_are : rows ≡ (first ∷ Value object.text ∷ Value settings.client
      ∷ Value settings.collation ∷ more) ∷ []

-- the text of a routine or a trigger, in whose place NULL may stand
pub record ShowsRoutine (object : Object) (rows : List (List Cell)) : Type 0 where
  pub settings : Settings
  pub settings_are : object.settings ≡ Some settings
  pub first : Cell
  pub text : Cell
  pub more : List Cell
  pub text_is : (text ≡ Value object.text) ⊎ (text ≡ Null)
  pub rows_are : rows ≡ (first ∷ Value settings.sql_mode ∷ text ∷ Value settings.client
      ∷ Value settings.collation ∷ more) ∷ []

-- the text of an event, in whose place NULL may stand, after its mode and its time zone
pub record ShowsEvent (object : Object) (rows : List (List Cell)) : Type 0 where
  pub settings : Settings
  pub settings_are : object.settings ≡ Some settings
  pub first : Cell
  pub text : Cell
  pub more : List Cell
  pub text_is : (text ≡ Value object.text) ⊎ (text ≡ Null)
  pub rows_are : rows ≡ (first ∷ Value settings.sql_mode ∷ Value settings.zone ∷ text
      ∷ Value settings.client ∷ Value settings.collation ∷ more) ∷ []

-- a bound that a key is above, and one that it is at most
pub record Bounds : Type 0 where
  pub above : Option ℤ
  pub up_to : Option ℤ

-- the number is greater than the bound, or there is no bound
abbrev pub is_above : Option ℤ → ℤ → Bool
is_above None number = true
is_above (Some bound) number = int_lt bound number

-- the number is at most the bound, or there is no bound
abbrev pub is_up_to : Option ℤ → ℤ → Bool
is_up_to None number = true
is_up_to (Some bound) number = int_le number bound

-- the key is an integer that is greater than the one bound and at most the other, as far as there are bounds
abbrev pub is_between : Bounds → Option ℤ → Bool
is_between bounds None = false
is_between bounds (Some number) = is_above bounds.above number && is_up_to bounds.up_to number

-- each key is less than the next
abbrev pub keys_rise : List (Option ℤ) → Bool
keys_rise [] = true
keys_rise (one ∷ []) = true
keys_rise (Some one ∷ Some next ∷ keys) = int_lt one next && keys_rise (Some next ∷ keys)
keys_rise keys = false

-- the key of the table is this column
pub record HasKey (object : Object) (key : List ℕ) : Type 0 where
  pub index : ℕ
  pub column : Column
  pub key_is : object.key ≡ Some index
  pub column_is : slice_get object.columns index ≡ Some column
  pub name : column.name ≡ key

-- the rows of the table whose key is inside the bounds, in the order of the key
pub record AreInOrder (database : Database) (object : Object) (index : ℕ) (bounds : Bounds)
    (rows : List (List Cell)) : Type 0 where
  pub same : IsSameBag rows
      (filter (λ row. is_between bounds (integer_at object.columns index row))
      (rows_of database object.schema object.name))
  pub rise : keys_rise (map (integer_at object.columns index) rows) ≡ true

-- what a query for rows in the order of a key asks for
pub record RowsAsked : Type 0 where
  pub columns : List (List ℕ)
  pub key : List ℕ
  pub bounds : Bounds

-- all plain columns were asked for, and the rows inside the bounds came
pub record ShowsRows (database : Database) (object : Object) (asked : RowsAsked)
    (rows : List (List Cell)) : Type 0 where
  pub all_columns : asked.columns ≡ plain_names object.columns
  pub has_key : HasKey object asked.key
  pub in_order : AreInOrder database object has_key.index asked.bounds rows

-- all plain columns were asked for, and all rows came, in any order
pub record ShowsAll (database : Database) (object : Object) (columns : List (List ℕ))
    (rows : List (List Cell)) : Type 0 where
  pub all_columns : columns ≡ plain_names object.columns
  pub same : IsSameBag rows (rows_of database object.schema object.name)

-- the cell of a row in one column
abbrev pub only_cell : List Column → ℕ → List Cell → Option (List Cell)
only_cell columns index row = option_map (λ cell. cell ∷ []) (cell_at columns index row)

-- what a query for one key asks for: the key above a bound, after so many others
pub record KeyAsked : Type 0 where
  pub key : List ℕ
  pub above : Option ℤ
  pub skipped : ℕ

-- the key after so many others that are above the bound, or none
pub record ShowsKey (database : Database) (object : Object) (asked : KeyAsked)
    (rows : List (List Cell)) : Type 0 where
  pub has_key : HasKey object asked.key
  pub whole : List (List Cell)
  pub in_order : AreInOrder database object has_key.index
      (record { above = asked.above; up_to = None }) whole
  pub rows_are : rows ≡ filter_map (only_cell object.columns has_key.index)
      (take 1 (drop asked.skipped whole))

-- no bounds: every key that is an integer is inside
abbrev pub everything : Bounds
everything = record { above = None; up_to = None }

-- the schema in which a load keeps its progress
abbrev pub progress_schema : List ℕ
progress_schema = codes "myloader_progress"

-- the table is there, and this holds of it: a query for rows or keys of a table that isn't there has no answer
abbrev pub TableShows : Database → List ℕ → List ℕ → (Object → Type 0) → Type 0
TableShows database schema table P = WhereThere (object_at database Table schema table) P ⊥

-- the object is there, and this holds of it: a SHOW CREATE of an object that isn't there has no answer
abbrev pub ObjectShows : Option Object → (Object → Type 0) → Type 0
ObjectShows found P = WhereThere found P ⊥

-- the rows that answer a query over a database; the position of the binary log isn't in it
abbrev pub Answers : Database → Query → List (List Cell) → Type 0
Answers database MasterStatus rows = ⊥
Answers database BinaryLogStatus rows = ⊥
Answers database Schemas rows =
    IsSameBag rows (filter_map (λ object. schema_row object object.kind) database.objects)
Answers database (Tables schema) rows = IsSameBag rows (rows_in_schema table_row database schema)
Answers database (ColumnsQuery schema table) rows =
    WhereThere (object_at database Table schema table) (λ object. AreColumnRows object.columns rows)
    (rows ≡ [])
Answers database (PrimaryKey schema table) rows =
    WhereThere (object_at database Table schema table) (λ object. TellsKey object rows) (rows ≡ [])
Answers database (Triggers schema) rows =
    IsSameBag rows (rows_in_schema trigger_row database schema)
Answers database (Routines schema) rows =
    IsSameBag rows (rows_in_schema routine_row database schema)
Answers database (ViewNeeds schema) rows =
    IsSameBag rows (flat_map (λ object. need_rows object object.kind)
    (filter (is_in_schema schema) database.objects))
Answers database (Events schema) rows = IsSameBag rows (rows_in_schema event_row database schema)
Answers database (CreateDatabase schema) rows =
    ObjectShows (object_at database Schema schema schema) (λ object. ShowsText object rows)
Answers database (CreateTable schema name) rows =
    ObjectShows (object_at database Table schema name) (λ object. ShowsText object rows)
Answers database (CreateView schema name) rows =
    ObjectShows (object_at database View schema name) (λ object. ShowsView object rows)
Answers database (CreateProcedure schema name) rows =
    ObjectShows (object_at database Procedure schema name) (λ object. ShowsRoutine object rows)
Answers database (CreateFunction schema name) rows =
    ObjectShows (object_at database Function schema name) (λ object. ShowsRoutine object rows)
Answers database (CreateTrigger schema name) rows =
    ObjectShows (object_at database Trigger schema name) (λ object. ShowsRoutine object rows)
Answers database (CreateEvent schema name) rows =
    ObjectShows (object_at database Event schema name) (λ object. ShowsEvent object rows)
Answers database (Key key schema table skipped) rows =
    TableShows database schema table
    (λ object. ShowsKey database object
    (record { key = key; above = None; skipped = skipped }) rows)
Answers database (KeyAbove key schema table above skipped) rows =
    TableShows database schema table
    (λ object. ShowsKey database object
    (record { key = key; above = Some above; skipped = skipped }) rows)
Answers database (Rows columns schema table) rows =
    TableShows database schema table (λ object. ShowsAll database object columns rows)
Answers database (RowsByKey columns schema table key) rows =
    TableShows database schema table
    (λ object. ShowsRows database object
    (record { columns = columns; key = key; bounds = everything }) rows)
Answers database (RowsAbove columns schema table key above) rows =
    TableShows database schema table
    (λ object. ShowsRows database object
    (record {
      columns = columns;
      key = key;
      bounds = record { above = Some above; up_to = None };
    }) rows)
Answers database (RowsUpTo columns schema table key up_to) rows =
    TableShows database schema table
    (λ object. ShowsRows database object
    (record {
      columns = columns;
      key = key;
      bounds = record { above = None; up_to = Some up_to };
    }) rows)
Answers database (RowsBetween columns schema table key above up_to) rows =
    TableShows database schema table
    (λ object. ShowsRows database object
    (record {
      columns = columns;
      key = key;
      bounds = record { above = Some above; up_to = Some up_to };
    }) rows)
Answers database (WideKey keys schema table skipped) rows =
    TableShows database schema table
    (λ object. ShowsWideKey database object
    (record { keys = keys; above = None; skipped = skipped }) rows)
Answers database (WideKeyAbove keys schema table above skipped) rows =
    TableShows database schema table
    (λ object. ShowsWideKey database object
    (record { keys = keys; above = Some above; skipped = skipped }) rows)
Answers database (RowsByWideKey columns schema table keys) rows =
    TableShows database schema table
    (λ object. ShowsWideRows database object
    (record { columns = columns; keys = keys; bounds = no_bounds }) rows)
Answers database (RowsAboveWide columns schema table keys above) rows =
    TableShows database schema table
    (λ object. ShowsWideRows database object
    (record {
      columns = columns;
      keys = keys;
      bounds = record { above = Some above; up_to = None };
    }) rows)
Answers database (RowsUpToWide columns schema table keys up_to) rows =
    TableShows database schema table
    (λ object. ShowsWideRows database object
    (record {
      columns = columns;
      keys = keys;
      bounds = record { above = None; up_to = Some up_to };
    }) rows)
Answers database (RowsBetweenWide columns schema table keys above up_to) rows =
    TableShows database schema table
    (λ object. ShowsWideRows database object
    (record {
      columns = columns;
      keys = keys;
      bounds = record { above = Some above; up_to = Some up_to };
    }) rows)
Answers database ProgressDump rows =
    TableShows database progress_schema (codes "dump")
    (λ object. ShowsAll database object (codes "digest" ∷ []) rows)
Answers database ProgressFiles rows =
    TableShows database progress_schema (codes "files")
    (λ object. ShowsAll database object (codes "name" ∷ []) rows)

-- a GTID set without the line feeds with which the server sends it
abbrev pub without_line_feeds : List ℕ → List ℕ
without_line_feeds bytes = filter (λ byte. not (byte == 10)) bytes

-- the row of a position: the file, the offset, two cells that say other things, and the GTID set, in which line feeds may stand
pub record ShowsPosition (position : Position) (rows : List (List Cell)) : Type 0 where
  pub third : Cell
  pub fourth : Cell
  pub gtid : List ℕ
  pub more : List Cell
  pub rows_are : rows ≡ (Value position.file ∷ Value (decimal position.offset) ∷ third ∷ fourth
      ∷ Value gtid ∷ more) ∷ []
  pub gtid_is : without_line_feeds gtid ≡ position.gtid

-- SHOW MASTER STATUS and SHOW BINARY LOG STATUS: the row of the position where one is known, and else no row
abbrev pub ShowsMark : Option Position → List (List Cell) → Type 0
ShowsMark None rows = rows ≡ []
ShowsMark (Some position) rows = ShowsPosition position rows

-- the place of a text in whose place NULL may stand, in a query's only row: that of a routine, a trigger or an event
abbrev pub withheld_place : Query → Option ℕ
withheld_place MasterStatus = None
withheld_place BinaryLogStatus = None
withheld_place Schemas = None
withheld_place (Tables schema) = None
withheld_place (ColumnsQuery schema table) = None
withheld_place (PrimaryKey schema table) = None
withheld_place (Triggers schema) = None
withheld_place (Routines schema) = None
withheld_place (ViewNeeds schema) = None
withheld_place (Events schema) = None
withheld_place (CreateDatabase schema) = None
withheld_place (CreateTable schema name) = None
withheld_place (CreateView schema name) = None
withheld_place (CreateProcedure schema name) = Some 2
withheld_place (CreateFunction schema name) = Some 2
withheld_place (CreateTrigger schema name) = Some 2
withheld_place (CreateEvent schema name) = Some 3
withheld_place (Key key schema table skipped) = None
withheld_place (KeyAbove key schema table above skipped) = None
withheld_place (Rows columns schema table) = None
withheld_place (RowsByKey columns schema table key) = None
withheld_place (RowsAbove columns schema table key above) = None
withheld_place (RowsUpTo columns schema table key up_to) = None
withheld_place (RowsBetween columns schema table key above up_to) = None
withheld_place (WideKey keys schema table skipped) = None
withheld_place (WideKeyAbove keys schema table above skipped) = None
withheld_place (RowsByWideKey columns schema table keys) = None
withheld_place (RowsAboveWide columns schema table keys above) = None
withheld_place (RowsUpToWide columns schema table keys up_to) = None
withheld_place (RowsBetweenWide columns schema table keys above up_to) = None
withheld_place ProgressDump = None
withheld_place ProgressFiles = None

-- the row has a cell in this place, and it isn't NULL
abbrev pub is_told : ℕ → List Cell → Bool
is_told place row = is_some (option_and_then bytes_of (slice_get row place))

-- each row has a text in this place; where no place is given, nothing is asked of the rows
abbrev pub are_told : Option ℕ → List (List Cell) → Bool
are_told None rows = true
are_told (Some place) rows = list_all (is_told place) rows

-- no text that is asked for is withheld
abbrev pub tells_text : Query → List (List Cell) → Bool
tells_text query rows = are_told (withheld_place query) rows
