use Rattle.std.proofs.Common.{◌≡◌, ◌+◌, ◌++◌, length, take}
use Rattle.std.specs.List.{flat_map}
use Rattle.sql_statements.specs.Piece.{piece_text}
use Rattle.sql_statements.proofs.piece.push_pieces.Given as goal

abbrev pub invariant-loop-piece : goal.invariant-loop-piece
invariant-loop-piece l =
    (l.out.bytes ≡ l.initial.out.bytes ++ flat_map piece_text (take l.piece-index l.pieces))
    × (l.out.spare + length (flat_map piece_text (take l.piece-index l.pieces)) ≡ l.initial.out.spare)
