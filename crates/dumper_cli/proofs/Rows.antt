-- The first four cells of a row.
use Rattle.std.proofs.Common.{◌≡◌, ◌<◌, ◌≤◌, List, [], ◌∷◌, length, get_or, None, refl, arith}
use Rattle.plain_data.specs.Cell.{Cell}
use Rattle.dumper_cli.specs.Columns.{described, column_from}

pub too_short : (cells : List Cell) → length cells < 4 → column_from cells ≡ None
too_short [] short = refl
too_short (a ∷ []) short = refl
too_short (a ∷ b ∷ []) short = refl
too_short (a ∷ b ∷ c ∷ []) short = refl
too_short (a ∷ b ∷ c ∷ d ∷ more) short = absurd (omega arith)

pub column_of_cells : (cells : List Cell) → 4 ≤ length cells → column_from cells ≡ described (get_or cells 0 None) (get_or cells 1 None) (get_or cells 2 None) (get_or cells 3 None)
column_of_cells [] long = absurd (omega arith)
column_of_cells (a ∷ []) long = absurd (omega arith)
column_of_cells (a ∷ b ∷ []) long = absurd (omega arith)
column_of_cells (a ∷ b ∷ c ∷ []) long = absurd (omega arith)
column_of_cells (a ∷ b ∷ c ∷ d ∷ more) long = refl
