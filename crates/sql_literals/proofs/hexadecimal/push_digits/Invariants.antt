use Rattle.std.proofs.Common.{◌≡◌, ◌+◌, ◌*◌, ◌-◌, ◌≤◌, ◌++◌, drop, length}
use Rattle.hex.specs.Hex.{encode_upper}
use Rattle.sql_literals.proofs.hexadecimal.push_digits.Given as goal

abbrev pub invariant-chunks : goal.invariant-chunks
invariant-chunks l = (l.done ≤ length l.bytes) × (l.out.bytes ++ encode_upper (drop l.done l.bytes) ≡ l.initial.out.bytes ++ encode_upper l.bytes) × (l.out.spare + 2 * l.done ≡ l.initial.out.spare)

abbrev pub decreases-chunks : goal.decreases-chunks
decreases-chunks l = length l.initial.bytes - l.done
