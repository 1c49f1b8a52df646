-- What is tested of two databases at each of their members. That this is agreement is proved, not said.
use Rattle.std.specs.Prelude.{ℕ, ◌==◌, ◌&&◌, ◌||◌, not, if◌then◌else◌, Bool, List, count_by}
use Rattle.std.specs.List.{list_all}
use Rattle.object_forms.specs.declared.kind.Kind.TheVariants.{Trigger}
use Rattle.sql_cells.specs.declared.cell.Cell.{Cell}
use Rattle.server_data.specs.Agree.{object_eq}
use Rattle.server_data.specs.Bag.{count_of}
use Rattle.server_data.specs.Equal.{kind_eq}
use Rattle.server_data.specs.Fold.{rows_of}
use Rattle.server_model.specs.Parts.{is_before_there}
use Rattle.server_data.specs.declared.data.Database.{Database}
use Rattle.server_data.specs.declared.data.Object.{Object}
use Rattle.server_data.specs.declared.data.TableRows.{TableRows}

-- both hold, or none
abbrev pub is_same : Bool → Bool → Bool
is_same one other = if one then other else not other

-- an object stands as often in both
abbrev pub is_as_often : List Object → List Object → Object → Bool
is_as_often ones others object =
    count_by (object_eq object) ones == count_by (object_eq object) others

-- so do those of both
abbrev pub same_objects : Database → Database → Bool
same_objects one other =
    list_all (is_as_often one.objects other.objects) one.objects && list_all
    (is_as_often one.objects other.objects) other.objects

-- two triggers are in the same order in both
abbrev pub same_pair : Database → Database → Object → Object → Bool
same_pair one other first second =
    not (kind_eq second.kind Trigger) || is_same (is_before_there one first second)
    (is_before_there other first second)

-- a trigger and any of these are
abbrev pub same_pairs : Database → Database → List Object → Object → Bool
same_pairs one other seconds first =
    not (kind_eq first.kind Trigger) || list_all (same_pair one other first) seconds

-- so are all pairs of the triggers of one, and of the other
abbrev pub same_order : Database → Database → Bool
same_order one other =
    list_all (same_pairs one other one.objects) one.objects && list_all
    (same_pairs one other other.objects) other.objects

-- a row stands as often in the table in both
abbrev pub same_row : Database → Database → List ℕ → List ℕ → List Cell → Bool
same_row one other schema name row =
    count_of row (rows_of one schema name) == count_of row (rows_of other schema name)

-- so does each row of these
abbrev pub same_table : Database → Database → TableRows → Bool
same_table one other rows =
    list_all (same_row one other rows.table.schema rows.table.name) rows.rows

-- so do those of both
abbrev pub same_rows : Database → Database → Bool
same_rows one other =
    list_all (same_table one other) one.rows && list_all (same_table one other) other.rows

-- all of these are
unfoldable pub agrees : Database → Database → Bool
agrees one other = same_objects one other && (same_order one other && same_rows one other)
