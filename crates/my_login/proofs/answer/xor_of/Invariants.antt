-- the bytes so far
use Rattle.std.proofs.Common.{◌≡◌, length, take}
use Rattle.wire_forms.specs.Answer.{xor_of}
use Rattle.my_login.proofs.answer.xor_of.Given as goal

abbrev pub invariant-loop-i : goal.invariant-loop-i
invariant-loop-i l = (length l.both ≡ 20) × (take l.i l.both ≡ xor_of (take l.i l.first) (take l.i l.second))
