use Rattle.std.proofs.Common.{◌≡◌, ◌+◌, ◌++◌, length, take}
use Rattle.std.specs.List.{flat_map}
use Rattle.sql_statements.specs.Piece.{later_number}
use Rattle.sql_statements.proofs.piece.push_later_numbers.Given as goal

abbrev pub invariant-loop-number : goal.invariant-loop-number
invariant-loop-number l =
    (l.out.bytes ≡ l.initial.out.bytes ++ flat_map later_number (take l.number-index l.numbers))
    × (l.out.spare + length (flat_map later_number (take l.number-index l.numbers)) ≡ l.initial.out.spare)
