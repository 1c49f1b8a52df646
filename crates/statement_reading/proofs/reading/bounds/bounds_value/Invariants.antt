use Rattle.std.proofs.Common.{◌-◌, length}
use Rattle.statement_reading.proofs.BoundLists.{InFour}
use Rattle.statement_reading.proofs.reading.bounds.bounds_value.Given as goal

abbrev pub invariant-numbers : goal.invariant-numbers
invariant-numbers l = InFour l.text l.places l.count l.at

abbrev pub decreases-numbers : goal.decreases-numbers
decreases-numbers l = length l.text - l.at
