use Rattle.std.proofs.Common.{arith, ◌≡◌, false, get_or}
use Rattle.std.proofs.lemmas.Grind.{common_steps}
use Rattle.grammar.proofs.Leaves.{run_whole}
use Rattle.statement_forms.specs.Insert.{is_inside}
use Rattle.statement_reading.proofs.reading.names.inside_size.Goals as goal

pub returns-then-byte-eq96 : goal.returns-then-byte-eq96
returns-then-byte-eq96 c =
    let outside : is_inside (get_or c.args.bytes.now c.loop-i.i 0) ≡ false = grind (arith, common_steps) in
    run_whole is_inside c.args.bytes.now c.loop-i.i (omega arith) c.loop-i.invariant (λ _. outside)

pub returns : goal.returns
returns c = run_whole is_inside c.args.bytes.now _ (omega arith) (λ k h. c.loop-i.invariant k (omega arith)) (λ h. absurd (omega arith))
