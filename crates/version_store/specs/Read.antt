-- What is read of a table: the rows whose key is inside the bounds, in the order of the key (MySQL 8.0 Reference Manual, 15.2.13 "SELECT Statement").
use Rattle.std.specs.Prelude.{ℕ, ◌≡◌, ◌^◌, ◌&&◌, ◌||◌, nat_lt, is_none, is_some, if◌then◌else◌, Bool, false, List, filter, Option, Some, None, IfSome, IsPermutation, ℤ, pos, negsuc}
use Rattle.std.specs.List.Sorted.{IsSortedByKey, IsStableByKey}
use Rattle.std.specs.Option.{option_cmp}
use Rattle.std.specs.Ordering.{int_cmp}
use Rattle.object_forms.specs.declared.kind.Kind.TheVariants.{Table}
use Rattle.object_forms.specs.declared.shape.Column.{Column}
use Rattle.server_data.specs.Fold.{rows_of}
use Rattle.server_data.specs.declared.data.Database.{Database}
use Rattle.server_data.specs.declared.data.Need.{Need}
use Rattle.server_data.specs.declared.data.Object.{Object}
use Rattle.sql_cells.specs.declared.cell.Cell.{Cell}
use Rattle.honest_server.specs.Answer.{Bounds, is_above, is_up_to, object_at}
use Rattle.honest_server.specs.Columns.{integer_at}

-- the two bounds as one
abbrev pub two_bounds : Option ℤ → Option ℤ → Bounds
two_bounds above up_to = record { above = above; up_to = up_to }

-- a number of 128 bits
abbrev pub is_i128 : ℤ → Bool
is_i128 (pos n) = nat_lt n (2 ^ 127)
is_i128 (negsuc n) = nat_lt n (2 ^ 127)

-- the number, where it has 128 bits
abbrev pub within_i128 : Option ℤ → Option ℤ
within_i128 None = None
within_i128 (Some number) = if is_i128 number then Some number else None

-- the key of a row, in the column of this index; None where the cell isn't a number of 128 bits
abbrev pub row_key : List Column → ℕ → List Cell → Option ℤ
row_key columns index row = within_i128 (integer_at columns index row)

-- the key is greater than the one bound and at most the other, as far as there are bounds; what isn't a number is inside none
abbrev pub is_in_bounds : Bounds → Option ℤ → Bool
is_in_bounds bounds None = is_none bounds.above && is_none bounds.up_to
is_in_bounds bounds (Some number) = is_above bounds.above number && is_up_to bounds.up_to number

-- the same rows stably sorted by their keys: those without one first, and those of equal keys in the order in which they stood
pub record AreSortedByKey (key : List Cell → Option ℤ) (rows read : List (List Cell)) : Type 0 where
  pub same : IsPermutation rows read
  pub rise : IsSortedByKey key (option_cmp int_cmp) read
  pub stable : IsStableByKey key (option_cmp int_cmp) rows read

-- the rows whose key is inside the bounds
abbrev pub rows_inside : List Column → ℕ → Bounds → List (List Cell) → List (List Cell)
rows_inside columns index bounds rows =
    filter (λ row. is_in_bounds bounds (row_key columns index row)) rows

-- what is read of all rows of a table: with a key those inside the bounds, sorted by it, and without one all, in their order
abbrev pub AreRead : List Column → Option ℕ → Bounds → List (List Cell) → List (List Cell) → Type 0
AreRead columns None bounds rows read = read ≡ rows
AreRead columns (Some index) bounds rows read =
    AreSortedByKey (row_key columns index) (rows_inside columns index bounds rows) read

-- the table of a database
abbrev pub table_in : Database → Need → Option Object
table_in database table = object_at database Table table.schema table.name

-- what is read of a table of a database
abbrev pub ReadsTable : Database → Need → Bounds → List (List Cell) → Type 0
ReadsTable database table bounds read =
    IfSome (table_in database table) (λ object. AreRead object.columns object.key bounds
    (rows_of database table.schema table.name) read)

-- the same of a database that may be there
abbrev pub ReadsAt : Option Database → Need → Bounds → List (List Cell) → Type 0
ReadsAt shown table bounds read = IfSome shown (λ database. ReadsTable database table bounds read)

-- a table may be read inside these bounds: it is there, and where it has no key there are none
abbrev pub may_read : Option Object → Bounds → Bool
may_read None bounds = false
may_read (Some object) bounds =
    is_some object.key || (is_none bounds.above && is_none bounds.up_to)
