use Rattle.std.proofs.Common.{ℕ, ◌<◌, length, bit_xor, get_or, ◌∙◌, arith}
use Rattle.std.proofs.lemmas.List.{length-set}
use Rattle.my_login.proofs.answer.xor_of.Goals as goal
use Rattle.my_login.proofs.Xors.{xor_next}

pub loop-i-preserved : goal.loop-i-preserved
loop-i-preserved c =
    let before : c.loop-i.i < length c.loop-i.both = omega (arith, c.loop-i.invariant.0, c.loop-i-test.true) in
    let byte : ℕ = bit_xor (get_or c.args.first.now c.loop-i.i 0) (get_or c.args.second.now c.loop-i.i 0) in (
      length-set c.loop-i.both c.loop-i.i byte ∙ c.loop-i.invariant.0,
      xor_next c.args.first.now c.args.second.now c.loop-i.both c.loop-i.i (omega (arith, c.told-first, c.loop-i-test.true)) (omega (arith, c.told-second, c.loop-i-test.true)) before c.loop-i.invariant.1,
    )
