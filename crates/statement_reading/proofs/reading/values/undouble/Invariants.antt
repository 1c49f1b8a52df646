use Rattle.std.proofs.Common.{◌≡◌, ◌≤◌, ◌-◌, length, take, drop}
use Rattle.std.specs.List.{flat_map}
use Rattle.sql_cells.specs.Name.{name_byte}
use Rattle.statement_reading.specs.Readings.{IsDoubled}
use Rattle.statement_reading.proofs.reading.values.undouble.Given as goal

abbrev pub invariant-bytes : goal.invariant-bytes
invariant-bytes l = record { within : l.at ≤ length l.inner; so_far : flat_map name_byte l.made.items ≡ take l.at l.inner; left : IsDoubled (drop l.at l.inner) }

abbrev pub decreases-bytes : goal.decreases-bytes
decreases-bytes l = length l.inner - l.at
