-- Parts of the key of a row that functions have of their own.
use Rattle.std.specs.Prelude.{ℕ, if◌then◌else◌, Bool, true, List, filter, take, slice_get, Option, Some, None, option_and_then, ℤ, pos, neg_ℤ}
use Rattle.object_forms.specs.declared.shape.Column.{Column}
use Rattle.plain_data.specs.Byte.{digits_value}
use Rattle.server_data.specs.Fold.{plain_count}
use Rattle.server_data.specs.declared.data.Object.{Object}
use Rattle.sql_cells.specs.Cell.{bytes_of}
use Rattle.sql_cells.specs.Number.{is_digits}
use Rattle.sql_cells.specs.declared.cell.Cell.{Cell}
use Rattle.honest_server.specs.Answer.{Bounds}
use Rattle.honest_server.specs.Columns.{integer_of}
use Rattle.version_store.specs.Read.{AreRead, two_bounds, is_in_bounds, within_i128}
use Rattle.version_store.specs.declared.rows.Limits.{Limits}

-- at which place of a row the cell of the column of this index stands
abbrev pub cell_place : List Column → ℕ → ℕ
cell_place columns index = plain_count (take index columns)

-- the key that a cell is
abbrev pub cell_key : Cell → Option ℤ
cell_key cell = within_i128 (option_and_then integer_of (bytes_of cell))

-- the key of a row, in the cell at this place
abbrev pub key_at : ℕ → List Cell → Option ℤ
key_at place row =
    within_i128 (option_and_then integer_of (option_and_then bytes_of (slice_get row place)))

-- the number that digits spell after a minus
abbrev pub negative_of : List ℕ → Option ℤ
negative_of digits =
    within_i128 (if is_digits digits then Some (neg_ℤ (pos (digits_value digits))) else None)

-- the number that digits spell
abbrev pub positive_of : List ℕ → Option ℤ
positive_of digits =
    within_i128 (if is_digits digits then Some (pos (digits_value digits)) else None)

-- the key in the cell at this place is inside the bounds, or there is no place
abbrev pub is_kept : Option ℕ → Bounds → List Cell → Bool
is_kept None bounds row = true
is_kept (Some place) bounds row = is_in_bounds bounds (key_at place row)

-- the rows of which that holds
abbrev pub rows_kept : Option ℕ → Bounds → List (List Cell) → List (List Cell)
rows_kept place bounds rows = filter (is_kept place bounds) rows

-- the bounds of these limits
abbrev pub bounds_in : Limits → Bounds
bounds_in limits = two_bounds limits.above limits.upto

-- what is read of all rows of a table
abbrev pub ReadsAs : Object → Bounds → List (List Cell) → List (List Cell) → Type 0
ReadsAs object bounds rows read = AreRead object.columns object.key bounds rows read
