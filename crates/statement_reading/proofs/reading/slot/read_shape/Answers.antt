use Rattle.std.proofs.Common.{arith, ◌≡◌, ◌+◌, ◌-◌, refl}
use Rattle.statement_reading.proofs.Shapes.{along_few, along_more, along_broken, along_all, along_less}
use Rattle.statement_reading.proofs.reading.slot.read_shape.Goals as goal

pub returns-in-Err : goal.returns-in-Err
returns-in-Err c = along_broken _ _ _ _ _ _ _ _ (omega arith) c.loop-slot.invariant c.in-Err.ensures refl

pub loop-slot-preserved : goal.loop-slot-preserved
loop-slot-preserved c =
    let size : (c.loop-slot.at + c.in-Ok.size) - c.loop-slot.at ≡ c.in-Ok.size = omega arith in
    rw (c.add.ensures, size) (along_more _ _ _ _ _ _ _ _ (omega arith) c.loop-slot.invariant c.in-Ok.ensures refl)

pub returns-then-at-text : goal.returns-then-at-text
returns-then-at-text c = along_all _ _ _ _ _ (omega arith) (omega arith) c.loop-slot.invariant

pub returns-else-at-text : goal.returns-else-at-text
returns-else-at-text c = along_less _ _ _ _ _ (omega arith) (omega arith) c.loop-slot.invariant

pub add-requires : goal.add-requires
add-requires c = along_few _ _ _ _ _ _ _ (omega arith) c.loop-slot.invariant
