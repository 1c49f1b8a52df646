use Rattle.std.proofs.Common.{arith}
use Rattle.std.proofs.lemmas.Grind.{common_steps}
use Rattle.statement_reading.proofs.DigestReads.{digest_start, digest_more, digest_broken, digest_end}
use Rattle.statement_reading.proofs.reading.digest.read_digest.Goals as goal
use Rattle.statement_reading.proofs.reading.digest.read_digest.Goals.{then-i-bytes-via-then-i-bytes, then-i-bytes-via-else-i-bytes+then-not-is_lower_digit}

pub loop-i-init : goal.loop-i-init
loop-i-init c = digest_start _

pub loop-i-preserved : goal.loop-i-preserved
loop-i-preserved c = digest_more _ _ (omega arith) (omega arith) (grind (arith, common_steps)) c.loop-i.invariant

pub returns : goal.returns
returns c = digest_end _ (grind (arith, common_steps))

pub returns-then-i-bytes : goal.returns-then-i-bytes
returns-then-i-bytes c = digest_broken _ _ (omega arith)
    (λ long. elim c.then-i-bytes.branch [ then-i-bytes-via-then-i-bytes w ↦ absurd (omega arith) | then-i-bytes-via-else-i-bytes+then-not-is_lower_digit w ↦ grind (arith, common_steps) ])
    c.loop-i.invariant
