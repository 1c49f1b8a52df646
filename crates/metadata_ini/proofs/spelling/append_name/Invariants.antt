use Rattle.std.proofs.Common.{◌≡◌, ◌++◌, take}
use Rattle.server_data.specs.Names.{escaped_name}
use Rattle.metadata_ini.proofs.spelling.append_name.Given as goal

abbrev pub invariant-loop-byte : goal.invariant-loop-byte
invariant-loop-byte l = l.out.bytes ≡ l.initial.out.bytes ++ escaped_name (take l.byte-index l.name)
