use Rattle.std.proofs.Common.{refl}
use Rattle.snapshot_handover.specs.StatusRead.{no_end, no_position, one_row}
use Rattle.snapshot_handover.proofs.position.hear_rows.Goals as goal

pub returns-in-Ok : goal.returns-in-Ok
returns-in-Ok g c =
    let first = rw c.in-Ok-Some.field-0-is at c.in-Ok-Some.ensures in
    one_row c.in-Ok-Some.position c.hear_position.new.source first c.in-Ok.ensures refl

pub returns-in-Err-hear_end : goal.returns-in-Err-hear_end
returns-in-Err-hear_end g c =
    let first = rw c.in-Ok-Some.field-0-is at c.in-Ok-Some.ensures in
    no_end c.in-Ok-Some.position c.hear_position.new.source c.in-Err-hear_end.fault first c.in-Err-hear_end.ensures refl

pub returns-in-Err : goal.returns-in-Err
returns-in-Err g c = no_position c.in-Err.fault c.in-Err.ensures refl
