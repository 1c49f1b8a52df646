use Rattle.std.proofs.Common.{◌≡◌, ◌≤◌, ◌+◌, length}
use Rattle.server_data.specs.Bag.{count_of}
use Rattle.server_data.specs.Fold.{rows_of}
use Rattle.server_model.specs.After.{count_after}
use Rattle.server_model.proofs.fitting.count_after.Given as goal

abbrev pub invariant-changes : goal.invariant-changes
invariant-changes l = record {
  told : count_after l.schema l.name l.row (count_of l.row (rows_of l.database l.schema l.name)) l.changes ≡ count_after l.schema l.name l.row l.count l.left;
  bound : l.count + length l.left + 1 ≤ 340282366920938463463374607431768211456;
}

abbrev pub decreases-changes : goal.decreases-changes
decreases-changes l = length l.left
