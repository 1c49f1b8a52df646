-- The database after a history (a premise of our own: what MySQL's catalogue and tables hold is told by the changes that were committed).
use Rattle.std.specs.Prelude.{ℕ, ◌==◌, ◌&&◌, not, if◌then◌else◌, Bool, true, List, [], ◌∷◌, ◌++◌, length, Option, Some, None, option_and_then, option_map, bytes_eq}
use Rattle.std.specs.List.{list_any, filter}
use Rattle.object_forms.specs.declared.kind.Kind.{Kind}
use Rattle.object_forms.specs.declared.kind.Kind.TheVariants.{Schema, Table, Procedure, Function, View, Trigger, Event}
use Rattle.object_forms.specs.declared.shape.Column.{Column}
use Rattle.sql_cells.specs.declared.cell.Cell.{Cell}
use Rattle.server_data.specs.Equal.{kind_eq, row_eq}
use Rattle.server_data.specs.declared.data.Change.{Change}
use Rattle.server_data.specs.declared.data.Change.TheVariants.{Make, Drop, Put, Remove}
use Rattle.server_data.specs.declared.data.Database.{Database}
use Rattle.server_data.specs.declared.data.Need.{Need}
use Rattle.server_data.specs.declared.data.Object.{Object}
use Rattle.server_data.specs.declared.data.TableRows.{TableRows}
use Rattle.server_data.specs.declared.data.Transaction.{Transaction}
use Rattle.server_data.specs.declared.data.Position.{Position}

-- the object has this kind, schema and name
abbrev pub is_object : Kind → List ℕ → List ℕ → Object → Bool
is_object kind schema name object =
    kind_eq object.kind kind && (bytes_eq object.schema schema && bytes_eq object.name name)

-- an object of this kind, schema and name is there
unfoldable pub has_object : Database → Kind → List ℕ → List ℕ → Bool
has_object database kind schema name = list_any (is_object kind schema name) database.objects

-- the schema of this name is there
abbrev pub has_schema : Database → List ℕ → Bool
has_schema database schema = has_object database Schema schema schema

-- the need is of this schema and name
abbrev pub is_need : List ℕ → List ℕ → Need → Bool
is_need schema name need = bytes_eq need.schema schema && bytes_eq need.name name

-- a trigger's table: the first of its needs, or the empty schema and name
abbrev pub table_of_trigger : List Need → Need
table_of_trigger [] = record { schema = []; name = [] }
table_of_trigger (need ∷ needs) = need

-- what an object of this kind stands in or on is there: a schema stands in nothing, a trigger in its schema and on its table
abbrev pub has_place : Database → Object → Kind → Bool
has_place database object Schema = true
has_place database object Table = has_schema database object.schema
has_place database object Procedure = has_schema database object.schema
has_place database object Function = has_schema database object.schema
has_place database object View = has_schema database object.schema
has_place database object Trigger =
    has_schema database object.schema && has_object database Table
    (table_of_trigger object.needs).schema (table_of_trigger object.needs).name
has_place database object Event = has_schema database object.schema

-- the object may be made
unfoldable pub may_make : Database → Object → Bool
may_make database object =
    not (has_object database object.kind object.schema object.name) && has_place database object
    object.kind

-- the object is another one in this schema
abbrev pub stands_in : List ℕ → Object → Bool
stands_in schema object = bytes_eq object.schema schema && not (kind_eq object.kind Schema)

-- an object of this kind, schema and name may be dropped: it is there, and a schema has nothing in it
unfoldable pub may_drop : Database → Kind → List ℕ → List ℕ → Bool
may_drop database kind schema name =
    has_object database kind schema name && not
    (kind_eq kind Schema && list_any (stands_in schema) database.objects)

-- a column is plain unless it is generated
abbrev pub is_plain_column : Column → Bool
is_plain_column column = not column.generated

-- how many cells a row of a table with these columns has: one for each plain column
abbrev pub plain_count : List Column → ℕ
plain_count columns = length (filter is_plain_column columns)

-- the object is this table, and has so many plain columns
abbrev pub takes_row : List ℕ → List ℕ → ℕ → Object → Bool
takes_row schema name cells object =
    is_object Table schema name object && (plain_count object.columns == cells)

-- a row may be put into this table: the table is there, and has as many plain columns as the row has cells
abbrev pub fits_row : Database → List ℕ → List ℕ → List Cell → Bool
fits_row database schema name row = list_any (takes_row schema name (length row)) database.objects

-- the rows are those of this table
abbrev pub is_of_table : List ℕ → List ℕ → TableRows → Bool
is_of_table schema name rows = is_need schema name rows.table

-- the rows of this table among these, in their order, wherever they stand
abbrev pub rows_in : List ℕ → List ℕ → List TableRows → List (List Cell)
rows_in schema name [] = []
rows_in schema name (one ∷ others) =
    if is_of_table schema name one then one.rows ++ rows_in schema name others
    else rows_in schema name others

-- the rows of a table
unfoldable pub rows_of : Database → List ℕ → List ℕ → List (List Cell)
rows_of database schema name = rows_in schema name database.rows

-- the rows without the first that is equal to this one; None where there is none
abbrev pub without_first : List Cell → List (List Cell) → Option (List (List Cell))
without_first row [] = None
without_first row (one ∷ others) =
    if row_eq row one then Some others
    else option_map (λ (rest : List (List Cell)). one ∷ rest) (without_first row others)

-- the row was found among these rows, or is looked for among those that follow
abbrev pub found_or_later : TableRows → List TableRows → Option (List (List Cell)) →
    Option (List TableRows) → Option (List TableRows)
found_or_later one others (Some rows) later = Some (record one { rows = rows } ∷ others)
found_or_later one others None later = option_map (λ (rest : List TableRows). one ∷ rest) later

-- the same among the rows of a table, wherever they stand
abbrev pub without_row : List ℕ → List ℕ → List Cell → List TableRows → Option (List TableRows)
without_row schema name row [] = None
without_row schema name row (one ∷ others) =
    found_or_later one others
    (if is_of_table schema name one then without_first row one.rows else None)
    (without_row schema name row others)

-- the database with this object more, after the others
abbrev pub with_object : Database → Object → Database
with_object database object = record database { objects = database.objects ++ object ∷ [] }

-- the database with this row of this table more, after all others
abbrev pub with_row : Database → List ℕ → List ℕ → List Cell → Database
with_row database schema name row =
    record database {
      rows = database.rows
          ++ record { table = record { schema = schema; name = name }; rows = row ∷ [] } ∷ [];
    }

-- the database without an object, and, where that is a table, without its rows
abbrev pub without_object : Database → Kind → List ℕ → List ℕ → Database
without_object database kind schema name = record {
  objects = filter (λ object. not (is_object kind schema name object)) database.objects;
  rows = if kind_eq kind Table
      then filter (λ rows. not (is_of_table schema name rows)) database.rows else database.rows;
}

-- the database after a change, where the change fits
unfoldable pub change_db : Database → Change → Option Database
change_db database (Make object) =
    if may_make database object then Some (with_object database object) else None
change_db database (Drop kind schema name) =
    if may_drop database kind schema name then Some (without_object database kind schema name)
    else None
change_db database (Put schema name row) =
    if fits_row database schema name row then Some (with_row database schema name row) else None
change_db database (Remove schema name row) =
    if has_object database Table schema name
    then option_map (λ (rows : List TableRows). record database { rows = rows })
    (without_row schema name row database.rows) else None

-- the database after changes one by one
abbrev pub changes_db : Database → List Change → Option Database
changes_db database [] = Some database
changes_db database (change ∷ changes) =
    option_and_then (λ (next : Database). changes_db next changes) (change_db database change)

-- the database after transactions that follow
abbrev pub more_db : Database → List Transaction → Option Database
more_db database [] = Some database
more_db database (one ∷ others) =
    option_and_then (λ (next : Database). more_db next others) (changes_db database one.changes)

-- the database before any transaction: no objects and no rows
abbrev pub empty_db : Database
empty_db = record { objects = []; rows = [] }

-- the database after a history; None where a change doesn't fit
abbrev pub db : List Transaction → Option Database
db history = more_db empty_db history

-- the mark of the last transaction; None where that has none, or there is no transaction
abbrev pub mark : List Transaction → Option Position
mark [] = None
mark (one ∷ []) = one.mark
mark (one ∷ next ∷ others) = mark (next ∷ others)
