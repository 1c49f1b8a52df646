use Rattle.std.proofs.Common.{arith, ℕ, ◌≡◌, length}
use Rattle.std.proofs.lemmas.Grind.{common_steps}
use Rattle.std.proofs.lemmas.List.{take_all}
use Rattle.grammar.proofs.Leaves.{fixed_whole, fixed_broken}
use Rattle.grammar.proofs.reader.read_fixed.Goals as goal
use Rattle.grammar.proofs.reader.read_fixed.Goals.{then-i-bytes-via-then-i-bytes, then-i-bytes-via-else-i-bytes+then-bytes-i}

pub returns-then-i-bytes : goal.returns-then-i-bytes
returns-then-i-bytes c =
    fixed_broken c.args.word.now c.args.bytes.now c.loop-i.i (omega arith) c.loop-i.invariant.0 c.loop-i.invariant.1
    (λ inside. elim c.then-i-bytes.branch [ then-i-bytes-via-then-i-bytes w ↦ absurd (omega arith) | then-i-bytes-via-else-i-bytes+then-bytes-i w ↦ grind (arith, common_steps) ])

pub returns : goal.returns
returns c =
    let end : c.loop-i.i ≡ length c.args.word.now = omega arith in
    fixed_whole c.args.word.now c.args.bytes.now (omega arith) (grind (arith, common_steps, take_all {A = ℕ}))
