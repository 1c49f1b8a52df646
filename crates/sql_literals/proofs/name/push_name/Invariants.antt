use Rattle.std.proofs.Common.{◌≡◌, ◌+◌, ◌≤◌, ◌++◌, take, drop, length}
use Rattle.std.specs.List.{flat_map}
use Rattle.sql_cells.specs.Name.{name_byte}
use Rattle.sql_literals.proofs.name.push_name.Given as goal

abbrev pub invariant-loop-byte : goal.invariant-loop-byte
invariant-loop-byte l = (l.out.bytes ≡ l.initial.out.bytes ++ flat_map name_byte (take l.byte-index l.name)) × (length (flat_map name_byte (drop l.byte-index l.name)) ≤ l.out.spare) × (l.out.spare + length (flat_map name_byte (take l.byte-index l.name)) ≡ l.initial.out.spare)
