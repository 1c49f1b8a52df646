-- the number that the digits so far spell
use Rattle.std.proofs.Common.{◌≡◌, ◌<◌, ◌^◌, take}
use Rattle.plain_data.specs.Byte.{digits_value}
use Rattle.my_login.proofs.version.front_number.Given as goal

abbrev pub invariant-loop-i : goal.invariant-loop-i
invariant-loop-i l = (l.value ≡ digits_value (take l.i l.bytes)) × (l.value < 10 ^ l.i)
