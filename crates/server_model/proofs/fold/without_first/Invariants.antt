use Rattle.std.proofs.Common.{◌≡◌, ◌++◌, List, length}
use Rattle.std.specs.Prelude.{option_map}
use Rattle.sql_cells.specs.declared.cell.Cell.{Cell}
use Rattle.server_data.specs.Fold.{without_first}
use Rattle.server_model.proofs.fold.without_first.Given as goal

abbrev pub invariant-rows : goal.invariant-rows
invariant-rows l = without_first l.row l.rows ≡ option_map (λ (rest : List (List Cell)). l.front ++ rest) (without_first l.row l.left)

abbrev pub decreases-rows : goal.decreases-rows
decreases-rows l = length l.left
