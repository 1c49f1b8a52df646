use Rattle.std.proofs.Common.{arith, ◌≡◌, ◌-◌, ◌<◌, inl, inr, length, take, get_or, decimal, refl}
use Rattle.statement_reading.proofs.NumberReads.{within_read, within_none, within_more, within_first}
use Rattle.statement_reading.proofs.reading.numbers.read_number.Goals as goal
use Rattle.statement_reading.proofs.reading.numbers.read_number.Goals.{then-first-least-via-then-first-least, then-first-least-via-else-first-least+then-first-gt57}

pub returns-then-first-least-clause-reads : goal.returns-then-first-least-clause-reads
returns-then-first-least-clause-reads c = within_none _ _ _ c.requires.least c.requires.some (omega arith)
    (elim c.then-first-least.branch [ then-first-least-via-then-first-least w ↦ inl (omega arith) | then-first-least-via-else-first-least+then-first-gt57 w ↦ inr (omega arith) ])

pub digits-init : goal.digits-init
digits-init c =
    let byte : c.first_byte-first.result ≡ get_or c.args.bytes.now 0 0 = c.first_byte-first.ensures in
    let first : (0 < length c.args.bytes.now) × (take 1 c.args.bytes.now ≡ decimal (get_or c.args.bytes.now 0 0 - 48)) = within_first c.args.bytes.now (omega arith) (omega arith) in
    record { within = omega arith; some = omega arith; text = rw byte first.1; least = omega arith; below = omega arith }

pub returns-in_default-clause-reads : goal.returns-in_default-clause-reads
returns-in_default-clause-reads c = within_read _ _ c.digits.value _ _ (omega arith) c.digits.invariant.least c.digits.invariant.below c.digits.invariant.within c.digits.invariant.text
    (λ inside low high some. c.in_default.ensures.none low high some)

pub digits-preserved : goal.digits-preserved
digits-preserved c =
    let next = c.in-Some.ensures.some in
    record {
      within = omega arith;
      some = omega arith;
      text = rw (next.3) (within_more c.digits.value (get_or c.args.bytes.now c.digits.size 0) c.args.bytes.now c.digits.size (omega arith) c.digits.invariant.text refl next.0 next.1 next.2 (omega arith));
      least = omega arith;
      below = next.4;
    }

pub returns-clause-reads : goal.returns-clause-reads
returns-clause-reads c = within_read _ _ c.digits.value _ _ (omega arith) c.digits.invariant.least c.digits.invariant.below c.digits.invariant.within c.digits.invariant.text
    (λ inside low high some. absurd (omega arith))
