use Rattle.std.proofs.Common.{arith}
use Rattle.statement_reading.proofs.NameValues.{doubled_next}
use Rattle.statement_reading.proofs.reading.values.undouble.Goals as goal

pub bytes-preserved : goal.bytes-preserved
bytes-preserved c =
    let next = doubled_next c.args.inner.now c.bytes.at c.bytes.made.items c.name_byte_size-at.result (omega arith) c.bytes.invariant.so_far c.bytes.invariant.left c.name_byte_size-at.ensures in
    record { within = next.0; so_far = rw c.in_ok-push.ensures.items next.1; left = next.2 }
