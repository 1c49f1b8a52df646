-- What a choice selects of a database.
use Rattle.std.specs.Prelude.{ℕ, ◌&&◌, ◌||◌, ◌++◌, not, Bool, true, false, List, [], ◌∷◌, Option, Some, None, bytes_eq, codes}
use Rattle.std.specs.List.{list_any, filter}
use Rattle.object_forms.specs.declared.kind.Kind.{Kind}
use Rattle.object_forms.specs.declared.kind.Kind.TheVariants.{Schema, Table, Procedure, Function, View, Trigger, Event}
use Rattle.server_data.specs.Fold.{has_object, has_schema, is_need, table_of_trigger}
use Rattle.server_data.specs.Pattern.{matches}
use Rattle.server_data.specs.declared.choice.Choice.{Choice}
use Rattle.server_data.specs.declared.data.Database.{Database}
use Rattle.server_data.specs.declared.data.Object.{Object}
use Rattle.server_data.specs.declared.data.TableRows.{TableRows}

-- schemas that are never dumped: those of the server itself, and that of a load's progress
abbrev pub reserved_schemas : List (List ℕ)
reserved_schemas =
    codes "mysql" ∷ codes "sys" ∷ codes "information_schema" ∷ codes "performance_schema"
    ∷ codes "myloader_progress" ∷ []

-- the schema is one of these
abbrev pub is_reserved : List ℕ → Bool
is_reserved schema = list_any (bytes_eq schema) reserved_schemas

-- the list has no member
abbrev pub is_empty : {X : Type 0} → List X → Bool
is_empty [] = true
is_empty (member ∷ members) = false

-- the list is empty, or has the name
abbrev pub names_or_any : List (List ℕ) → List ℕ → Bool
names_or_any names name = is_empty names || list_any (bytes_eq name) names

-- the schema isn't reserved, and is named where schemas or tables are
abbrev pub selects_schema : Choice → List ℕ → Bool
selects_schema choice schema =
    not (is_reserved schema) &&
    (names_or_any choice.databases schema &&
    (is_empty choice.tables || list_any (λ need. bytes_eq need.schema schema) choice.tables))

-- a table's schema, a dot and its name
abbrev pub dotted_table : List ℕ → List ℕ → List ℕ
dotted_table schema name = schema ++ 46 ∷ name

-- there is no pattern, or it matches the text
abbrev pub fits_pattern : Option (List ℕ) → List ℕ → Bool
fits_pattern None text = true
fits_pattern (Some pattern) text = matches pattern text

-- the table or view is in a selected schema, is named where tables are, and fits the pattern
abbrev pub selects_table : Choice → List ℕ → List ℕ → Bool
selects_table choice schema name =
    selects_schema choice schema &&
    ((is_empty choice.tables || list_any (is_need schema name) choice.tables) && fits_pattern
    choice.pattern (dotted_table schema name))

-- a selected table that is there
abbrev pub has_selected_table : Choice → Database → List ℕ → List ℕ → Bool
has_selected_table choice database schema name =
    selects_table choice schema name &&
    (has_schema database schema && has_object database Table schema name)

-- an object of this kind is selected: a routine or an event with its schema, a trigger with its table
abbrev pub selects_kind : Choice → Database → Object → Kind → Bool
selects_kind choice database object Schema = selects_schema choice object.name
selects_kind choice database object Table = selects_table choice object.schema object.name
selects_kind choice database object View = selects_table choice object.schema object.name
selects_kind choice database object Procedure =
    choice.routines && selects_schema choice object.schema
selects_kind choice database object Function =
    choice.routines && selects_schema choice object.schema
selects_kind choice database object Trigger =
    choice.triggers && has_selected_table choice database (table_of_trigger object.needs).schema
    (table_of_trigger object.needs).name
selects_kind choice database object Event = choice.events && selects_schema choice object.schema

-- an object is selected: objects are, its schema is there, and those of its kind are
abbrev pub selects_object : Choice → Database → Object → Bool
selects_object choice database object =
    not choice.no_schemas &&
    (has_schema database object.schema && selects_kind choice database object object.kind)

-- rows are selected with their table
abbrev pub selects_rows : Choice → Database → TableRows → Bool
selects_rows choice database rows =
    not choice.no_data && has_selected_table choice database rows.table.schema rows.table.name

-- what is selected of a database
abbrev pub selection : Choice → Database → Database
selection choice database = record {
  objects = filter (selects_object choice database) database.objects;
  rows = filter (selects_rows choice database) database.rows;
}
