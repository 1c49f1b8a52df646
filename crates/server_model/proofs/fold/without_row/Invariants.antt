use Rattle.std.proofs.Common.{◌≡◌, ◌++◌, List, length}
use Rattle.std.specs.Prelude.{option_map}
use Rattle.server_data.specs.Fold.{without_row}
use Rattle.server_data.specs.declared.data.TableRows.{TableRows}
use Rattle.server_model.proofs.fold.without_row.Given as goal

abbrev pub invariant-tables : goal.invariant-tables
invariant-tables l = without_row l.schema l.name l.row l.tables ≡ option_map (λ (rest : List TableRows). l.front ++ rest) (without_row l.schema l.name l.row l.left)

abbrev pub decreases-tables : goal.decreases-tables
decreases-tables l = length l.left
