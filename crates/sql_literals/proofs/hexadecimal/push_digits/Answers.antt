use Rattle.std.proofs.Common.{drop, length-drop, arith}
use Rattle.std.proofs.lemmas.Grind.{common_steps}
use Rattle.std.proofs.lemmas.List.{length-take-le}
use Rattle.sql_literals.proofs.Hexadecimals.{next_chunk}
use Rattle.sql_literals.proofs.hexadecimal.push_digits.Goals as goal

pub chunks-preserved : goal.chunks-preserved
chunks-preserved c =
    let next = next_chunk c.args.bytes.now c.chunks.done in
    (omega arith, grind (arith, common_steps), omega (arith, length-take-le 64 (drop c.chunks.done c.args.bytes.now) (omega (arith, length-drop c.chunks.done c.args.bytes.now))))
