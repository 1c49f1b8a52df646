-- Where a file that spells nothing is refused.
use Rattle.std.specs.Prelude.{ℕ, ◌≡◌, ◌≤◌, ◌+◌, ◌⊎◌, List, ◌∷◌, ◌++◌, length, take, All, Some, None}
use Rattle.grammar.specs.Language.{Language, Begins}
use Rattle.splitter_forms.specs.Pieces.{Piece, pieces, last, begun_size, unread_file}

-- the statement stands as and where some right file has it, and so do the two bytes after it
pub record StandsRight (right : Language) (bytes : List ℕ) (piece : Piece) : Type 0 where
  pub ended : piece.offset + length piece.text + 2 ≤ length bytes
  pub begins : Begins right (take (piece.offset + length piece.text + 2) bytes)

-- the first statement of the bytes that doesn't stand right begins there
pub record IsFirstWrong (right : Language) (bytes : List ℕ) (offset : ℕ) : Type 0 where
  pub before : List Piece
  pub wrong : Piece
  pub after : List Piece
  pub pieces_are : pieces (unread_file bytes) ≡ before ++ wrong ∷ after
  pub stand : All (StandsRight right bytes) before
  pub stands_not : ¬ StandsRight right bytes wrong
  pub offset_is : offset ≡ wrong.offset

-- all statements that are ended stand right, and one begins there that isn't ended
pub record IsUnended (right : Language) (bytes : List ℕ) (offset : ℕ) : Type 0 where
  pub stand : All (StandsRight right bytes) (pieces (unread_file bytes))
  pub begun : begun_size (last (unread_file bytes)) ≡ Some offset

-- all statements stand right, and the file isn't right all the same: the offset is its length
pub record IsUnfinished (right : Language) (bytes : List ℕ) (offset : ℕ) : Type 0 where
  pub stand : All (StandsRight right bytes) (pieces (unread_file bytes))
  pub none_begun : begun_size (last (unread_file bytes)) ≡ None
  pub offset_is : offset ≡ length bytes

-- The bytes are no right file. The offset is that of their first statement, ended or not, that doesn't stand as and where a right file has it, and
-- their length where there is no such statement.
pub record IsBadStatement (right : Language) (bytes : List ℕ) (offset : ℕ) : Type 0 where
  pub not_right : ¬ right bytes
  pub offset_is : IsFirstWrong right bytes offset
      ⊎ (IsUnended right bytes offset ⊎ IsUnfinished right bytes offset)
