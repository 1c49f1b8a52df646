use Rattle.std.proofs.Common.{◌≡◌, ◌≤◌, ◌*◌, length, take}
use Rattle.server_data.specs.Names.{escaped_name}
use Rattle.server_model.proofs.names.escaped_length.Given as goal

abbrev pub invariant-loop-byte : goal.invariant-loop-byte
invariant-loop-byte l = record { told : l.size ≡ length (escaped_name (take l.byte-index l.name)); bound : l.size ≤ 3 * l.byte-index }
