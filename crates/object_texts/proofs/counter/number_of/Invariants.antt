use Rattle.std.proofs.Common.{◌≡◌, ◌+◌, ◌-◌, ◌*◌, ◌^◌, min, take}
use Rattle.std.specs.List.{fold}
use Rattle.object_texts.proofs.counter.number_of.Given as goal

abbrev pub invariant-loop-digit : goal.invariant-loop-digit
invariant-loop-digit l = l.number ≡ min (fold (λ n digit. n * 10 + (digit - 48)) 0 (take l.digit-index l.digits)) (2 ^ 64)
