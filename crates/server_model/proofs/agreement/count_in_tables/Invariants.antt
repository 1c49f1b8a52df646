use Rattle.std.proofs.Common.{◌≡◌, ◌≤◌, ◌+◌, ◌*◌, length}
use Rattle.server_data.specs.Bag.{count_of}
use Rattle.server_data.specs.Fold.{rows_in}
use Rattle.server_model.proofs.agreement.count_in_tables.Given as goal

abbrev pub invariant-tables : goal.invariant-tables
invariant-tables l = record {
  told : l.count + count_of l.row (rows_in l.schema l.name l.left) ≡ count_of l.row (rows_in l.schema l.name l.tables);
  bound : l.count + 18446744073709551616 * length l.left ≤ 18446744073709551616 * l.tables_size;
}

abbrev pub decreases-tables : goal.decreases-tables
decreases-tables l = length l.left
