use Rattle.std.proofs.Common.{◌≡◌, ◌++◌, length}
use Rattle.std.specs.Prelude.{filter}
use Rattle.server_data.specs.Select.{selects_rows}
use Rattle.server_model.proofs.selection.selected_rows.Given as goal

abbrev pub invariant-tables : goal.invariant-tables
invariant-tables l = l.made ++ filter (selects_rows l.choice l.database) l.left ≡ filter (selects_rows l.choice l.database) l.database.rows

abbrev pub decreases-tables : goal.decreases-tables
decreases-tables l = length l.left
