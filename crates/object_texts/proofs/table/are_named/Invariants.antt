use Rattle.std.proofs.Common.{◌≡◌, length}
use Rattle.object_texts.specs.Reading.{columns_in, names_are}
use Rattle.object_texts.proofs.table.are_named.Given as goal

abbrev pub invariant-items : goal.invariant-items
invariant-items l = names_are (columns_in l.rest) ≡ names_are (columns_in l.items)

abbrev pub decreases-items : goal.decreases-items
decreases-items l = length l.rest
