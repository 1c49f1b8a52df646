use Rattle.std.proofs.Common.{◌≡◌, arith, to_z, of_z}
use Rattle.std.specs.Int.{w128}
use Rattle.std.proofs.lemmas.Int.{to_z-of_z}
use Rattle.grammar.proofs.Places.{rest_of}
use Rattle.statement_reading.proofs.NumberValues.{not_refused, value_read, bound_size, bound_without, bound_with, negative_text}
use Rattle.statement_reading.proofs.reading.values.bound_value.Goals as goal

pub bounds-text-0 : goal.bounds-text-0
bounds-text-0 c = bound_size _ c.requires

pub unreachable-requires : goal.unreachable-requires
unreachable-requires c = not_refused _ _ _ (bound_without _ c.requires c.if-text-ne45.true) c.in_default.ensures.reads

pub unreachable-requires-in_default-read_number : goal.unreachable-requires-in_default-read_number
unreachable-requires-in_default-read_number c = not_refused _ _ _ (bound_with _ c.requires c.if-text-ne45.false).0 (rw rest_of at c.in_default-read_number.ensures.reads)

pub returns-then-text-ne45-clause-text : goal.returns-then-text-ne45-clause-text
returns-then-text-ne45-clause-text c =
    let same : to_z w128 (of_z w128 c.positive.result) ≡ c.positive.result = to_z-of_z w128 c.positive.result (record { sfits = c.positive.type_inv }) in
    rw (same, c.positive.ensures) (value_read _ _ _ _ (bound_without _ c.requires c.if-text-ne45.true) c.in-Ok.ensures.reads c.in-Ok.ensures.value.0)

pub returns-clause-text : goal.returns-clause-text
returns-clause-text c =
    let same : to_z w128 (of_z w128 c.negative.result) ≡ c.negative.result = to_z-of_z w128 c.negative.result (record { sfits = c.negative.type_inv }) in
    let signed = bound_with _ c.requires c.if-text-ne45.false in
    rw (same, c.negative.ensures) (negative_text c.in-Ok-read_number.number.value _ (omega (arith, c.in-Ok-read_number.ensures.value)) signed.1
    (value_read _ _ _ _ signed.0 (rw rest_of at c.in-Ok-read_number.ensures.reads) (rw rest_of at c.in-Ok-read_number.ensures.value.0)))
