use Rattle.std.proofs.Common.{◌≡◌, ◌++◌, length}
use Rattle.server_data.specs.Fold.{rows_in}
use Rattle.version_store.specs.Key.{rows_kept}
use Rattle.version_store.specs.Read.{two_bounds}
use Rattle.version_store.proofs.rows.rows_kept.Given as goal

abbrev pub invariant-tables : goal.invariant-tables
invariant-tables l = l.made ++ rows_kept l.place (two_bounds l.limits.above l.limits.upto) (rows_in l.table.schema l.table.name l.left) ≡ rows_kept l.place (two_bounds l.limits.above l.limits.upto) (rows_in l.table.schema l.table.name l.tables)

abbrev pub decreases-tables : goal.decreases-tables
decreases-tables l = length l.left
