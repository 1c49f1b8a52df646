-- When two databases agree.
use Rattle.std.specs.Prelude.{ℕ, ◌≡◌, ◌==◌, ◌&&◌, ◌||◌, nat_lt, Bool, true, false, List, count_by, Option, Some, None, bytes_eq}
use Rattle.std.specs.Cmp.Lexicographic.{slice_cmp}
use Rattle.std.specs.List.{list_any}
use Rattle.std.specs.Ordering.{is_lt, nat_cmp}
use Rattle.object_forms.specs.declared.kind.Kind.TheVariants.{Trigger}
use Rattle.server_data.specs.Bag.{IsSameBag}
use Rattle.server_data.specs.Equal.{kind_eq}
use Rattle.server_data.specs.Fold.{is_need, rows_of, table_of_trigger}
use Rattle.server_data.specs.declared.data.Database.{Database}
use Rattle.server_data.specs.declared.data.Object.{Object}
use Rattle.server_data.specs.declared.data.Settings.{Settings}

-- the same settings, or none
abbrev pub settings_eq : Option Settings → Option Settings → Bool
settings_eq None None = true
settings_eq (Some one) (Some other) =
    bytes_eq one.sql_mode other.sql_mode &&
    (bytes_eq one.client other.client &&
    (bytes_eq one.collation other.collation && bytes_eq one.zone other.zone))
settings_eq one other = false

-- the same object by kind, schema, name, text and settings
abbrev pub object_eq : Object → Object → Bool
object_eq one other =
    kind_eq one.kind other.kind &&
    (bytes_eq one.schema other.schema &&
    (bytes_eq one.name other.name &&
    (bytes_eq one.text other.text && settings_eq one.settings other.settings)))

-- the same objects, each as often
pub record HasSameObjects (one other : Database) : Type 0 where
  pub counts : (object : Object) →
      count_by (object_eq object) one.objects ≡ count_by (object_eq object) other.objects

-- a trigger of this name on a table
abbrev pub is_trigger_named : List ℕ → List ℕ → List ℕ → Object → Bool
is_trigger_named schema table name object =
    kind_eq object.kind Trigger &&
    (is_need schema table (table_of_trigger object.needs) && bytes_eq object.name name)

-- one object comes before another: its rank is less, or with one rank its name, by its bytes
abbrev pub comes_before : Object → Object → Bool
comes_before one other =
    nat_lt one.rank other.rank ||
    (one.rank == other.rank && is_lt (slice_cmp nat_cmp one.name other.name))

-- of a table's triggers, the one of the first name comes before the one of the second
unfoldable pub is_before : Database → List ℕ → List ℕ → List ℕ → List ℕ → Bool
is_before database schema table first second =
    list_any (λ one. is_trigger_named schema table first one && list_any
    (λ other. is_trigger_named schema table second other && comes_before one other)
    database.objects) database.objects

-- the same objects, each table's triggers in the same order, and each table with the same bag of rows
pub record Agree (one other : Database) : Type 0 where
  pub objects : HasSameObjects one other
  pub order : (schema table first second : List ℕ) →
      is_before one schema table first second ≡ is_before other schema table first second
  pub rows : (schema name : List ℕ) →
      IsSameBag (rows_of one schema name) (rows_of other schema name)
