use Rattle.std.proofs.Common.{◌≡◌, ◌++◌, length}
use Rattle.version_store.specs.Key.{rows_kept}
use Rattle.version_store.specs.Read.{two_bounds}
use Rattle.version_store.proofs.rows.push_rows.Given as goal

abbrev pub invariant-rows : goal.invariant-rows
invariant-rows l = l.made ++ rows_kept l.place (two_bounds l.limits.above l.limits.upto) l.left ≡ l.fn.made ++ rows_kept l.place (two_bounds l.limits.above l.limits.upto) l.rows

abbrev pub decreases-rows : goal.decreases-rows
decreases-rows l = length l.left
