-- What there is after changes, told from what there was before them, where the changes fit.
use Rattle.std.specs.Prelude.{ℕ, ◌+◌, ◌-◌, ◌&&◌, ◌||◌, not, nat_lt, if◌then◌else◌, Bool, false, List, [], ◌∷◌, ◌++◌, filter, bytes_eq}
use Rattle.std.specs.List.{list_any}
use Rattle.object_forms.specs.declared.kind.Kind.TheVariants.{Table}
use Rattle.sql_cells.specs.declared.cell.Cell.{Cell}
use Rattle.server_data.specs.Bag.{count_of}
use Rattle.server_data.specs.Equal.{kind_eq, row_eq}
use Rattle.server_data.specs.Fold.{fits_row, has_object, is_object, may_drop, may_make, rows_of, stands_in, takes_row}
use Rattle.server_data.specs.declared.data.Change.{Change}
use Rattle.server_data.specs.declared.data.Change.TheVariants.{Make, Drop, Put, Remove}
use Rattle.server_data.specs.declared.data.Database.{Database}
use Rattle.server_data.specs.declared.data.Object.{Object}
use Rattle.server_model.specs.declared.fitting.Sought.{Sought}
use Rattle.server_model.specs.declared.fitting.Sought.TheVariants.{Named, Taking, Inside}

-- the objects after changes
abbrev pub objects_after : List Object → List Change → List Object
objects_after objects [] = objects
objects_after objects (Make object ∷ changes) = objects_after (objects ++ object ∷ []) changes
objects_after objects (Drop kind schema name ∷ changes) =
    objects_after (filter (λ object. not (is_object kind schema name object)) objects) changes
objects_after objects (Put schema name row ∷ changes) = objects_after objects changes
objects_after objects (Remove schema name row ∷ changes) = objects_after objects changes

-- the change drops the object
abbrev pub drops : Object → Change → Bool
drops object (Make made) = false
drops object (Drop kind schema name) = is_object kind schema name object
drops object (Put schema name row) = false
drops object (Remove schema name row) = false

-- none of the changes drops the object
abbrev pub stays : List Change → Object → Bool
stays changes object = not (list_any (drops object) changes)

-- an object that passes the test is there and stays
abbrev pub any_stays : (Object → Bool) → List Change → List Object → Bool
any_stays test changes objects = list_any (λ object. test object && stays changes object) objects

-- the change makes an object that passes the test, and those that follow leave it
abbrev pub makes_lasting : (Object → Bool) → List Change → Change → Bool
makes_lasting test changes (Make object) = test object && stays changes object
makes_lasting test changes (Drop kind schema name) = false
makes_lasting test changes (Put schema name row) = false
makes_lasting test changes (Remove schema name row) = false

-- an object that passes the test is made and stays
abbrev pub any_made : (Object → Bool) → List Change → Bool
any_made test [] = false
any_made test (change ∷ changes) = makes_lasting test changes change || any_made test changes

-- what is looked for is this object
abbrev pub is_sought : Sought → Object → Bool
is_sought (Named kind schema name) object = is_object kind schema.now name.now object
is_sought (Taking schema name cells) object = takes_row schema.now name.now cells object
is_sought (Inside schema) object = stands_in schema.now object

-- the objects after changes of a database, and no rows
abbrev pub objects_db : Database → List Change → Database
objects_db database changes = record { objects = objects_after database.objects changes; rows = [] }

-- the other row is this one, in this table
abbrev pub is_row_at : List ℕ → List ℕ → List Cell → (List ℕ → List ℕ → List Cell → Bool)
is_row_at schema name row other_schema other_name other =
    (bytes_eq other_schema schema && bytes_eq other_name name) && row_eq row other

-- how often a row stands in a table after a change, where it stood there so often before
abbrev pub count_after_one : List ℕ → List ℕ → List Cell → ℕ → Change → ℕ
count_after_one schema name row count (Make object) = count
count_after_one schema name row count (Drop kind other_schema other_name) =
    if kind_eq kind Table && (bytes_eq other_schema schema && bytes_eq other_name name) then 0
    else count
count_after_one schema name row count (Put other_schema other_name other) =
    count + (if is_row_at schema name row other_schema other_name other then 1 else 0)
count_after_one schema name row count (Remove other_schema other_name other) =
    count - (if is_row_at schema name row other_schema other_name other then 1 else 0)

-- the same after changes one by one
abbrev pub count_after : List ℕ → List ℕ → List Cell → ℕ → List Change → ℕ
count_after schema name row count [] = count
count_after schema name row count (change ∷ changes) =
    count_after schema name row (count_after_one schema name row count change) changes

-- the row stands in the table after the changes
abbrev pub has_row_after : Database → List Change → List ℕ → List ℕ → List Cell → Bool
has_row_after database changes schema name row =
    nat_lt 0 (count_after schema name row (count_of row (rows_of database schema name)) changes)

-- the change fits after the others
abbrev pub fits_after : Database → List Change → Change → Bool
fits_after database before (Make object) = may_make (objects_db database before) object
fits_after database before (Drop kind schema name) =
    may_drop (objects_db database before) kind schema name
fits_after database before (Put schema name row) =
    fits_row (objects_db database before) schema name row
fits_after database before (Remove schema name row) =
    has_object (objects_db database before) Table schema name && has_row_after database before
    schema name row
