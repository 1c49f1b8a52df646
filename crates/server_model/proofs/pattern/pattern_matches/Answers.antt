use Rattle.server_model.proofs.Matching.{known_byte, known_later, known_missed, known_short, known_star, known_whole, star_falls, step_is, empty_is, some_is}
use Rattle.server_model.proofs.pattern.pattern_matches.Goals as goal

pub returns-in-Whole : goal.returns-in-Whole
returns-in-Whole c = known_whole _ _ _ _ _ _ (step_is c.bytes.left.now c.bytes.rest.now _ _ c.next_step.ensures c.in-Whole.is) c.bytes.invariant

pub returns-in-Short : goal.returns-in-Short
returns-in-Short c = known_short _ _ _ _ _ _ (step_is c.bytes.left.now c.bytes.rest.now _ _ c.next_step.ensures c.in-Short.is) c.bytes.invariant

pub bytes-smaller-in-Star : goal.bytes-smaller-in-Star
bytes-smaller-in-Star c = rw c.tail-left.ensures (star_falls c.args.pattern.now c.args.text.now c.bytes.left.now c.bytes.rest.now c.bytes.again.now c.bytes.from.now (step_is c.bytes.left.now c.bytes.rest.now _ _ c.next_step.ensures c.in-Star.is) c.bytes.invariant)

pub bytes-preserved-in-Star : goal.bytes-preserved-in-Star
bytes-preserved-in-Star c = rw c.tail-left.ensures (known_star _ _ _ _ _ _ (step_is c.bytes.left.now c.bytes.rest.now _ _ c.next_step.ensures c.in-Star.is) c.bytes.invariant)

pub bytes-preserved-in-Byte : goal.bytes-preserved-in-Byte
bytes-preserved-in-Byte c = rw (c.tail-left-in-Byte.ensures, c.tail-rest.ensures) (known_byte _ _ _ _ _ _ (step_is c.bytes.left.now c.bytes.rest.now _ _ c.next_step.ensures c.in-Byte.is) c.bytes.invariant)

pub returns-then-is_empty : goal.returns-then-is_empty
returns-then-is_empty c = known_missed _ _ _ _ _ _ (step_is c.bytes.left.now c.bytes.rest.now _ _ c.next_step.ensures c.in-Miss.is) (empty_is c.bytes.from.now _ c.is_empty.ensures c.if-is_empty.true) c.bytes.invariant

pub bytes-preserved : goal.bytes-preserved
bytes-preserved c = rw c.tail-from.ensures (known_later _ _ _ _ _ _ (step_is c.bytes.left.now c.bytes.rest.now _ _ c.next_step.ensures c.in-Miss.is) (some_is c.bytes.from.now _ c.is_empty.ensures c.if-is_empty.false) c.bytes.invariant)
