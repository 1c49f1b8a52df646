use Rattle.std.proofs.Common.{◌≡◌, ◌+◌, ◌-◌, to_z, of_z, arith}
use Rattle.std.proofs.lemmas.Int.{to_z-of_z}
use Rattle.std.specs.Int.{w128}
use Rattle.statement_reading.proofs.BoundLists.{number_refused, number_more, number_end}
use Rattle.statement_reading.proofs.reading.bounds.bounds_value.Goals as goal

pub unreachable-requires : goal.unreachable-requires
unreachable-requires c = number_refused _ _ _ _ _ c.numbers.invariant c.in_default.ensures

pub made_row-requires-clause-least : goal.made_row-requires-clause-least
made_row-requires-clause-least c =
    let size : (c.numbers.at + c.in-Ok.size) - c.numbers.at ≡ c.in-Ok.size = omega arith in
    let same : to_z w128 (of_z w128 c.bound_value.result) ≡ c.bound_value.result = to_z-of_z w128 c.bound_value.result (record { sfits = c.bound_value.type_inv }) in
    rw same (number_end _ _ _ _ _ c.bound_value.result c.numbers.invariant c.in-Ok.ensures (rw size at c.bound_value.ensures.text) (omega arith)).1

pub numbers-preserved : goal.numbers-preserved
numbers-preserved c =
    let size : (c.numbers.at + c.in-Ok.size) - c.numbers.at ≡ c.in-Ok.size = omega arith in
    let same : to_z w128 (of_z w128 c.bound_value.result) ≡ c.bound_value.result = to_z-of_z w128 c.bound_value.result (record { sfits = c.bound_value.type_inv }) in
    rw same (number_more _ _ _ _ _ c.bound_value.result c.numbers.invariant c.in-Ok.ensures (rw size at c.bound_value.ensures.text) (omega arith))
