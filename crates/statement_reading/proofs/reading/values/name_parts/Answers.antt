use Rattle.std.proofs.Common.{◌≡◌, ◌+◌, ◌-◌, arith}
use Rattle.statement_reading.proofs.NameLists.{listed_refused, listed_more}
use Rattle.statement_reading.proofs.reading.values.name_parts.Goals as goal

pub unreachable-requires : goal.unreachable-requires
unreachable-requires c = listed_refused _ _ _ _ c.names.invariant c.in_default.ensures

pub names-preserved : goal.names-preserved
names-preserved c =
    let size : (c.names.at + c.in-Ok.size) - c.names.at ≡ c.in-Ok.size = omega arith in
    rw c.in_ok-push.ensures.ok (listed_more _ _ _ _ c.in_ok-name_part.field-0 c.names.invariant c.in-Ok.ensures (rw size at c.in_ok-name_part.ensures) (omega arith))
