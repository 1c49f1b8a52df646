-- What an honest server's database is like (a premise of our own; MySQL 8.0 Reference Manual, 15.7.7 "SHOW Statements" for the texts, 5.6.9 "Using AUTO_INCREMENT").
use Rattle.std.specs.Prelude.{ℕ, ◌≡◌, ◌≢◌, ◌<◌, ◌^◌, ◌&&◌, not, nat_le, nat_lt, Bool, true, List, [], ◌∷◌, map, All, AllPairs, slice_get, Option, Some, None, IfSome}
use Rattle.std.specs.List.{list_all}
use Rattle.std.specs.Str.{is_utf8}
use Rattle.object_forms.specs.Head.{Making, Path, making, trigger_table}
use Rattle.object_forms.specs.Shape.{TableShape, TableCounter, shape, counter, name_value}
use Rattle.object_forms.specs.declared.kind.Kind.{Kind}
use Rattle.object_forms.specs.declared.kind.Kind.TheVariants.{Schema, Table, Procedure, Function, View, Trigger, Event}
use Rattle.object_forms.specs.declared.shape.Column.{Column}
use Rattle.server_data.specs.Fold.{has_object, rows_of, db}
use Rattle.server_data.specs.Select.{is_empty}
use Rattle.server_data.specs.declared.data.Database.{Database}
use Rattle.server_data.specs.declared.data.Need.{Need}
use Rattle.server_data.specs.declared.data.Object.{Object}
use Rattle.server_data.specs.declared.data.Position.{Position}
use Rattle.server_data.specs.declared.data.Settings.{Settings}
use Rattle.server_data.specs.declared.data.Transaction.{Transaction}
use Rattle.sql_cells.specs.declared.cell.Cell.{Cell}
use Rattle.honest_server.specs.State.{Server}
use Rattle.honest_server.specs.Columns.{are_numbers, are_printed, plain_columns, integer_at, is_in_type, is_under, whole_at}

-- a name is UTF-8, and isn't empty
abbrev pub is_name : List ℕ → Bool
is_name name = not (is_empty name) && is_utf8 name

-- a name of a text, which may be missing there, is this one
abbrev pub NamesOrLeavesOut : Option (List ℕ) → List ℕ → Type 0
NamesOrLeavesOut None name = Unit {0}
NamesOrLeavesOut (Some spelled) name = name_value spelled ≡ name

-- the head of an object's text gives its kind and its name, and its schema where it gives one; a schema's schema is its name
pub record HasItsHead (object : Object) : Type 0 where
  pub found : Making
  pub is_making : making object.text ≡ Some found
  pub kind : found.kind ≡ object.kind
  pub name : name_value found.path.name ≡ object.name
  pub schema : NamesOrLeavesOut found.path.schema object.schema
  pub own : object.kind ≡ Schema → object.schema ≡ object.name

-- settings without a time zone
pub record IsWithoutZone (settings : Option Settings) : Type 0 where
  pub made : Settings
  pub settings_are : settings ≡ Some made
  pub no_zone : made.zone ≡ []

-- a procedure, a function, a view, a trigger and an event have settings; only an event has a time zone, and a view's sql_mode is empty
abbrev pub HasItsSettings : Kind → Option Settings → Type 0
HasItsSettings Schema settings = settings ≡ None
HasItsSettings Table settings = settings ≡ None
HasItsSettings Procedure settings = IsWithoutZone settings
HasItsSettings Function settings = IsWithoutZone settings
HasItsSettings View settings = (plain : IsWithoutZone settings) × (plain.made.sql_mode ≡ [])
HasItsSettings Trigger settings = IsWithoutZone settings
HasItsSettings Event settings = (made : Settings) × (settings ≡ Some made)

-- a table's columns and key are those of its text's shape
pub record IsShaped (object : Object) : Type 0 where
  pub found : TableShape
  pub is_shape : shape object.text ≡ Some found
  pub columns : object.columns ≡ map (λ told. told.column) found.columns
  pub key : object.key ≡ found.key

-- an object that has no columns and no key
pub record IsUnshaped (object : Object) : Type 0 where
  pub columns : object.columns ≡ []
  pub key : object.key ≡ None

-- a table's columns and key are those of its text, and no other object has any
abbrev pub HasItsShape : Object → Kind → Type 0
HasItsShape object Schema = IsUnshaped object
HasItsShape object Table = IsShaped object
HasItsShape object Procedure = IsUnshaped object
HasItsShape object Function = IsUnshaped object
HasItsShape object View = IsUnshaped object
HasItsShape object Trigger = IsUnshaped object
HasItsShape object Event = IsUnshaped object

-- a trigger needs one table, which is that of its text and of its schema
pub record NeedsItsTable (object : Object) (table : Need) : Type 0 where
  pub found : Path
  pub is_found : trigger_table object.text ≡ Some found
  pub schema : NamesOrLeavesOut found.schema object.schema
  pub own : table.schema ≡ object.schema
  pub name : table.name ≡ name_value found.name
  pub needs : object.needs ≡ table ∷ []

-- a trigger needs one table, that of its text, and it is there; of other objects nothing is asked
abbrev pub HasItsTable : Database → Object → Kind → Type 0
HasItsTable database object Schema = Unit {0}
HasItsTable database object Table = Unit {0}
HasItsTable database object Procedure = Unit {0}
HasItsTable database object Function = Unit {0}
HasItsTable database object View = Unit {0}
HasItsTable database object Trigger =
    (table : Need) × NeedsItsTable object table
    × (has_object database Table table.schema table.name ≡ true)
HasItsTable database object Event = Unit {0}

-- the key of each row is an integer of its column's type, and no two rows have the same
pub record HasKeys (columns : List Column) (index : ℕ) (rows : List (List Cell)) : Type 0 where
  pub column : Column
  pub column_is : slice_get columns index ≡ Some column
  pub integers : All (λ row. IfSome (integer_at columns index row)
      (λ number. is_in_type column number ≡ true) × (integer_at columns index row ≢ None)) rows
  pub distinct : AllPairs
      (λ one other. integer_at columns index one ≢ integer_at columns index other) rows

-- where the table has a key, each row's is an integer of its column's type, and no two rows have the same
abbrev pub HasKeysWhere : List Column → Option ℕ → List (List Cell) → Type 0
HasKeysWhere columns None rows = Unit {0}
HasKeysWhere columns (Some index) rows = HasKeys columns index rows

-- each cell of the AUTO_INCREMENT column is a number under the table's counter
pub record IsUnderCounter (columns : List Column) (counter : TableCounter)
    (rows : List (List Cell)) : Type 0 where
  pub column : Column
  pub column_is : slice_get columns counter.column ≡ Some column
  pub integers : All (λ row. IfSome (whole_at columns counter.column row)
      (λ number. is_under column counter.next number ≡ true)
      × (whole_at columns counter.column row ≢ None)) rows

-- where the table has an AUTO_INCREMENT column, each cell of it is a number under the table's counter
abbrev pub IsCountedWhere : List Column → Option TableCounter → List (List Cell) → Type 0
IsCountedWhere columns None rows = Unit {0}
IsCountedWhere columns (Some found) rows = IsUnderCounter columns found rows

-- the rows of a table are as its columns have them
pub record HasGoodRows (object : Object) (rows : List (List Cell)) : Type 0 where
  pub numbers : All (λ row. are_numbers (plain_columns object.columns) row ≡ true) rows
  pub keys : HasKeysWhere object.columns object.key rows
  pub counted : IsCountedWhere object.columns (counter object.text) rows

-- where the object is a table, its rows are as its columns have them
abbrev pub HasGoodRowsWhere : Database → Object → Kind → Type 0
HasGoodRowsWhere database object Schema = Unit {0}
HasGoodRowsWhere database object Table =
    HasGoodRows object (rows_of database object.schema object.name)
HasGoodRowsWhere database object Procedure = Unit {0}
HasGoodRowsWhere database object Function = Unit {0}
HasGoodRowsWhere database object View = Unit {0}
HasGoodRowsWhere database object Trigger = Unit {0}
HasGoodRowsWhere database object Event = Unit {0}

-- what is needed has a schema and a name
pub record IsNamed (need : Need) : Type 0 where
  pub schema : is_name need.schema ≡ true
  pub name : is_name need.name ≡ true

-- the object is as an honest server holds it: named, made by its text, and with the settings, columns, rows and needs that go with it
pub record IsWellFormedObject (database : Database) (object : Object) : Type 0 where
  pub named : is_name object.name ≡ true
  pub in_schema : is_name object.schema ≡ true
  pub head : HasItsHead object
  pub settings : HasItsSettings object.kind object.settings
  pub shape : HasItsShape object object.kind
  pub table : HasItsTable database object object.kind
  pub rows : HasGoodRowsWhere database object object.kind
  pub needs : All IsNamed object.needs
  pub rank : object.rank < 2 ^ 32

-- the database is as an honest server holds it: each of its objects is, and each table's rows are
pub record IsWellFormed (database : Database) : Type 0 where
  pub objects : All (IsWellFormedObject database) database.objects

-- a byte from the space to the tilde
abbrev pub is_visible : ℕ → Bool
is_visible byte = nat_le 32 byte && nat_le byte 126

-- a position of the binary log can be written on lines: it has a file, the bytes of its file and of its GTID set are visible, and its offset has 64 bits
abbrev pub can_be_written : Position → Bool
can_be_written position =
    not (is_empty position.file) &&
    (list_all is_visible position.file &&
    (list_all is_visible position.gtid && nat_lt position.offset (2 ^ 64)))

-- the position after the transaction can be written on lines, where one is known
abbrev pub HasGoodMark : Transaction → Type 0
HasGoodMark one = IfSome one.mark (λ position. can_be_written position ≡ true)

-- each JSON text in the rows of an object, which only a table has, is one that the server prints
abbrev pub IsPrinted : (List ℕ → Bool) → Database → Object → Type 0
IsPrinted prints database object =
    All (λ row. are_printed prints (plain_columns object.columns) row ≡ true)
    (rows_of database object.schema object.name)

-- the history ends in a well-formed database, whose JSON texts are as the server prints them, and its marks can be written
pub record IsSound (server : Server) (history : List Transaction) : Type 0 where
  pub database : Database
  pub stands : db history ≡ Some database
  pub well_formed : IsWellFormed database
  pub printed : All (IsPrinted server.prints database) database.objects
  pub marks : All HasGoodMark history
