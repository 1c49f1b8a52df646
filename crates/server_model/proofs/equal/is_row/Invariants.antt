use Rattle.std.proofs.Common.{◌≡◌, length}
use Rattle.server_data.specs.Equal.{row_eq}
use Rattle.server_model.proofs.equal.is_row.Given as goal

abbrev pub invariant-cells : goal.invariant-cells
invariant-cells l = row_eq l.one l.other ≡ row_eq l.left l.right

abbrev pub decreases-cells : goal.decreases-cells
decreases-cells l = length l.left
