-- Parts of definitions that functions have of their own.
use Rattle.std.specs.Prelude.{ℕ, ◌≡◌, ◌&&◌, ◌||◌, not, if◌then◌else◌, Bool, List, Option, Some, None, Result, IfOk, bytes_eq}
use Rattle.std.specs.List.{filter, list_any}
use Rattle.object_forms.specs.declared.kind.Kind.{Kind}
use Rattle.object_forms.specs.declared.kind.Kind.TheVariants.{Table}
use Rattle.sql_cells.specs.declared.cell.Cell.{Cell}
use Rattle.server_data.specs.Agree.{comes_before, is_before, is_trigger_named}
use Rattle.server_data.specs.Bag.{count_of}
use Rattle.server_data.specs.Equal.{kind_eq}
use Rattle.server_data.specs.Fold.{change_db, has_object, is_need, is_object, is_of_table, table_of_trigger, without_first}
use Rattle.server_data.specs.Select.{has_selected_table, is_empty, selects_kind, selects_object, selects_rows}
use Rattle.server_data.specs.declared.choice.Choice.{Choice}
use Rattle.server_data.specs.declared.data.Change.{Change}
use Rattle.server_data.specs.declared.data.Database.{Database}
use Rattle.server_data.specs.declared.data.Need.{Need}
use Rattle.server_data.specs.declared.data.Object.{Object}
use Rattle.server_data.specs.declared.data.TableRows.{TableRows}

-- the list is empty, or has the table
abbrev pub has_table_or_any : List ℕ → List ℕ → List Need → Bool
has_table_or_any schema name tables = is_empty tables || list_any (is_need schema name) tables

-- the list is empty, or has a table of the schema
abbrev pub has_schema_or_any : List ℕ → List Need → Bool
has_schema_or_any schema tables =
    is_empty tables || list_any (λ need. bytes_eq need.schema schema) tables

-- an object is selected as those of its kind are
abbrev pub selects_as_kind : Choice → Database → Object → Bool
selects_as_kind choice database object = selects_kind choice database object object.kind

-- the table is there and selected
abbrev pub has_table : Choice → Database → List ℕ → List ℕ → Bool
has_table choice database schema name = has_selected_table choice database schema name

-- triggers are selected, and the table of one that needs these is
abbrev pub selects_trigger : Choice → Database → List Need → Bool
selects_trigger choice database needs =
    choice.triggers && has_table choice database (table_of_trigger needs).schema
    (table_of_trigger needs).name

-- the objects that are selected
abbrev pub selected_objects : Choice → Database → List Object
selected_objects choice database = filter (selects_object choice database) database.objects

-- the rows of the tables that are selected
abbrev pub selected_rows : Choice → Database → List TableRows
selected_rows choice database = filter (selects_rows choice database) database.rows

-- where memory sufficed: it is told whether there is a database after, and where there is one, this is it
abbrev pub Fitted : {E : Type 0} → Result Bool E → Option Database → Database → Type 0
Fitted result after database = IfOk result (λ fits. after ≡ (if fits then Some database else None))

-- the same of one change of a database
abbrev pub Applied : {E : Type 0} → Result Bool E → Database → Change → Database → Type 0
Applied result old change new = Fitted result (change_db old change) new

-- the table that a trigger needs is there
abbrev pub has_table_of : Database → Need → Bool
has_table_of database table = has_object database Table table.schema table.name

-- the objects but for one
abbrev pub objects_without : Kind → List ℕ → List ℕ → List Object → List Object
objects_without kind schema name objects =
    filter (λ object. not (is_object kind schema name object)) objects

-- the rows but for those of a table
abbrev pub tables_without : List ℕ → List ℕ → List TableRows → List TableRows
tables_without schema name tables = filter (λ rows. not (is_of_table schema name rows)) tables

-- the rows that stay where an object is dropped
abbrev pub tables_after : Kind → List ℕ → List ℕ → List TableRows → List TableRows
tables_after kind schema name tables =
    if kind_eq kind Table then tables_without schema name tables else tables

-- these rows without the first that is equal to this one, where they are those of the table
abbrev pub rows_without : List ℕ → List ℕ → List Cell → TableRows → Option (List (List Cell))
rows_without schema name row rows =
    if is_of_table schema name rows then without_first row rows.rows else None

-- one trigger comes before another, on the table of the first
abbrev pub is_before_there : Database → Object → Object → Bool
is_before_there database first second =
    is_before database (table_of_trigger first.needs).schema
    (table_of_trigger first.needs).name first.name second.name

-- the other object is the second trigger, and comes after this one
abbrev pub is_trigger_after : List ℕ → List ℕ → List ℕ → Object → Object → Bool
is_trigger_after schema table second one other =
    is_trigger_named schema table second other && comes_before one other

-- the second trigger is among the objects after this one
abbrev pub has_after : List ℕ → List ℕ → List ℕ → List Object → Object → Bool
has_after schema table second objects one =
    list_any (is_trigger_after schema table second one) objects

-- this object is the first trigger, and the second is among those after it
abbrev pub goes_before : List ℕ → List ℕ → List ℕ → List ℕ → List Object → Object → Bool
goes_before schema table first second objects one =
    is_trigger_named schema table first one && has_after schema table second objects one

-- how often the row stands in these rows, where they are those of the table
abbrev pub count_in_table : List ℕ → List ℕ → List Cell → TableRows → ℕ
count_in_table schema name row rows =
    if is_of_table schema name rows then count_of row rows.rows else 0
