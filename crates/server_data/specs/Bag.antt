-- Bags of rows: only how often each row stands in one counts.
use Rattle.std.specs.Prelude.{ℕ, ◌≡◌, List, count_by}
use Rattle.sql_cells.specs.declared.cell.Cell.{Cell}
use Rattle.server_data.specs.Equal.{row_eq}

-- how often the row stands in the list
unfoldable pub count_of : List Cell → List (List Cell) → ℕ
count_of row rows = count_by (row_eq row) rows

-- the same rows, each as often
pub record IsSameBag (rows others : List (List Cell)) : Type 0 where
  pub counts : (row : List Cell) → count_of row rows ≡ count_of row others
