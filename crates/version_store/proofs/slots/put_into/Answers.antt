use Rattle.std.proofs.Common.{ap, arith, length}
use Rattle.version_store.proofs.Filled.{puts_after, puts_over}
use Rattle.version_store.proofs.slots.put_into.Goals as goal

pub returns-then-id-len-clause-ok : goal.returns-then-id-len-clause-ok
returns-then-id-len-clause-ok c =
    let count = ap length c.as_slice.ensures.value in
    puts_over c.args.slots.now.items c.args.database c.empty_place-id.result (rw c.as_slice.ensures.value at c.empty_place-id.ensures)
    (omega (arith, count, c.as_slice.ensures.len, c.len.ensures, c.if-id-len.true))

pub returns-clause-ok : goal.returns-clause-ok
returns-clause-ok c =
    let count = ap length c.as_slice.ensures.value in
    rw c.in_ok-push.ensures.items (puts_after c.args.slots.now.items c.args.database c.empty_place-id.result (rw c.as_slice.ensures.value at c.empty_place-id.ensures)
    (omega (arith, count, c.as_slice.ensures.len, c.len.ensures, c.if-id-len.false)))
