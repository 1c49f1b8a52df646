-- A schema under another name.
use Rattle.std.specs.Prelude.{ℕ, if◌then◌else◌, List, map, filter, Option, Some, None, bytes_eq}
use Rattle.object_forms.specs.Place.{name_span, replaced}
use Rattle.object_forms.specs.declared.kind.Kind.{Kind}
use Rattle.object_forms.specs.declared.kind.Kind.TheVariants.{Schema, Table, Procedure, Function, View, Trigger, Event}
use Rattle.object_forms.specs.declared.place.Span.{Span}
use Rattle.server_data.specs.declared.data.Database.{Database}
use Rattle.server_data.specs.declared.data.Need.{Need}
use Rattle.server_data.specs.declared.data.Object.{Object}
use Rattle.server_data.specs.declared.data.TableRows.{TableRows}
use Rattle.sql_cells.specs.Name.{quoted_name}

-- the text with another name where its head has one
abbrev pub text_named : List ℕ → Option Span → List ℕ → List ℕ
text_named text None name = text
text_named text (Some span) name = replaced text span (quoted_name name)

-- what is needed, of the schema of this name
abbrev pub need_in : List ℕ → Need → Need
need_in name need = record need { schema = name }

-- an object of another schema: the schema itself has its name, also in its text; every other object keeps its own; a trigger's table is in that schema too
abbrev pub in_schema : List ℕ → Object → Kind → Object
in_schema name object Schema = record object {
  schema = name;
  name = name;
  text = text_named object.text (name_span object.text) name;
}
in_schema name object Table = record object { schema = name }
in_schema name object Procedure = record object { schema = name }
in_schema name object Function = record object { schema = name }
in_schema name object View = record object { schema = name }
in_schema name object Trigger =
    record object { schema = name; needs = map (need_in name) object.needs }
in_schema name object Event = record object { schema = name }

-- the object as it is made in the schema of this name; in its own schema it stays as it is
abbrev pub made_in : List ℕ → Object → Object
made_in name object =
    if bytes_eq object.schema name then object else in_schema name object object.kind

-- the rows of a table of another schema
abbrev pub rows_made_in : List ℕ → TableRows → TableRows
rows_made_in name rows =
    record rows { table = record { schema = name; name = rows.table.name } }

-- what a database has in one schema, under another name
abbrev pub renamed_part : Database → List ℕ → List ℕ → Database
renamed_part database source target = record {
  objects = map (made_in target)
      (filter (λ object. bytes_eq object.schema source) database.objects);
  rows = map (rows_made_in target)
      (filter (λ rows. bytes_eq rows.table.schema source) database.rows);
}
