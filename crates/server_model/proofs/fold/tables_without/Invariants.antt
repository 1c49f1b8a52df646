use Rattle.std.proofs.Common.{◌≡◌, ◌++◌, length, not}
use Rattle.std.specs.Prelude.{filter}
use Rattle.server_data.specs.Fold.{is_of_table}
use Rattle.server_data.specs.declared.data.TableRows.{TableRows}
use Rattle.server_model.proofs.fold.tables_without.Given as goal

abbrev pub invariant-tables : goal.invariant-tables
invariant-tables l = l.made ++ filter (λ (rows : TableRows). not (is_of_table l.schema l.name rows)) l.left ≡ filter (λ (rows : TableRows). not (is_of_table l.schema l.name rows)) l.tables

abbrev pub decreases-tables : goal.decreases-tables
decreases-tables l = length l.left
