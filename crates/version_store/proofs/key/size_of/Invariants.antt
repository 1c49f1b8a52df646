use Rattle.std.proofs.Common.{◌≡◌, ◌+◌, ◌^◌, min, take}
use Rattle.plain_data.specs.Byte.{digits_value}
use Rattle.version_store.proofs.key.size_of.Given as goal

abbrev pub invariant-loop-digit : goal.invariant-loop-digit
invariant-loop-digit l = l.size ≡ min (digits_value (take l.digit-index l.digits)) (2 ^ 127 + 1)
