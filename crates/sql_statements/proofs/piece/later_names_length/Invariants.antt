use Rattle.std.proofs.Common.{◌≡◌, length, take}
use Rattle.std.specs.List.{flat_map}
use Rattle.sql_statements.specs.Piece.{later_name}
use Rattle.sql_statements.proofs.piece.later_names_length.Given as goal

abbrev pub invariant-loop-name : goal.invariant-loop-name
invariant-loop-name l = l.total ≡ length (flat_map later_name (take l.name-index l.names))
