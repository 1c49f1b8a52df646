use Rattle.statement_reading.specs.Slots.{places}
use Rattle.statement_reading.proofs.Shapes.{Along}
use Rattle.statement_reading.proofs.reading.slot.read_shape.Given as goal

abbrev pub invariant-loop-slot : goal.invariant-loop-slot
invariant-loop-slot l = Along (places l.slots) l.slot-index l.parts l.text l.at
