use Rattle.std.proofs.Common.{◌≡◌, ◌+◌, ◌≤◌, length}
use Rattle.object_texts.specs.Reading.{columns_in}
use Rattle.object_texts.proofs.table.column_count.Given as goal

abbrev pub invariant-items : goal.invariant-items
invariant-items l = (l.count + length l.rest ≤ length l.items) × (l.count + length (columns_in l.rest) ≡ length (columns_in l.items))

abbrev pub decreases-items : goal.decreases-items
decreases-items l = length l.rest
