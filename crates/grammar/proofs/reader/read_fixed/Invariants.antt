use Rattle.std.proofs.Common.{◌≡◌, ◌≤◌, length, take}
use Rattle.grammar.proofs.reader.read_fixed.Given as goal

abbrev pub invariant-loop-i : goal.invariant-loop-i
invariant-loop-i l = (l.i ≤ length l.bytes) × (take l.i l.bytes ≡ take l.i l.word)
