-- What follows from calls of a splitter, whatever bytes follow.
use Rattle.std.specs.Prelude.{ℕ, ◌≡◌, List, [], ◌∷◌, ◌++◌, codes}
use Rattle.splitter_forms.specs.Pieces.{UnreadText, with_more, Piece, pieces, PassesLimit, GivesPiece, GivesNone}

-- where a statement is given, it is the first of the file's, and the others are those of what is unread after it
abbrev pub AGivenPieceIsTheFirst : Type 0
AGivenPieceIsTheFirst =
    (old new : UnreadText) (statement : Piece) → GivesPiece old statement new → (more : List ℕ) →
    pieces (with_more more old) ≡ statement ∷ pieces (with_more more new)

-- where none is given, none is ended, and those of the file are the same from then on
pub record SameFromThenOn (old new : UnreadText) : Type 0 where
  pub none : pieces old ≡ []
  pub same : (more : List ℕ) → pieces (with_more more old) ≡ pieces (with_more more new)

-- where none is given, no statement of the file is passed over
abbrev pub NoneIsLost : Type 0
NoneIsLost = (old new : UnreadText) → GivesNone old new → SameFromThenOn old new

-- a statement that is too long stays so with more bytes
abbrev pub TooLongStaysSo : Type 0
TooLongStaysSo =
    (limit : ℕ) (unread : UnreadText) (more : List ℕ) → PassesLimit limit unread →
    PassesLimit limit (with_more more unread)

-- the texts of statements, each with a `|` after it
abbrev pub written : List Piece → List ℕ
written [] = []
written (statement ∷ statements) = (statement.text ++ 124 ∷ []) ++ written statements

-- the statements that were written out are the file's first, and the others are those of what is unread
pub record WritesOut (old : UnreadText) (before : List ℕ) (new : UnreadText)
    (now : List ℕ) : Type 0 where
  pub same : (more : List ℕ) →
      now ++ written (pieces (with_more more new)) ≡ before ++ written (pieces (with_more more old))
  pub none : pieces new ≡ []

-- a worked file with comments, a string, and the word DELIMITER inside statements
abbrev pub quoting_file : List ℕ
quoting_file =
    codes "SET x; -- c;\nA 'x;''y' /* ; */ /*!1 ;DELIMITER $$\n a;\nb\n$$\nDELIMITER ;\nC"

-- its statements: no DELIMITER in it begins a line between two of them, so each is part of one
abbrev pub quoting_pieces : List Piece
quoting_pieces =
    record { offset = 0; text = codes "SET x" }
    ∷ record { offset = 13; text = codes "A 'x;''y' /* ; */ /*!1 " }
    ∷ record { offset = 37; text = codes "DELIMITER $$\n a" }
    ∷ record { offset = 54; text = codes "b\n$$\nDELIMITER " }
    ∷ []

-- a worked file with a DELIMITER line between statements, and one that sets the semicolon again
abbrev pub delimited_file : List ℕ
delimited_file = codes "DELIMITER $$\nx;\n$$\nDELIMITER ;\ny;\n"

-- its statements
abbrev pub delimited_pieces : List Piece
delimited_pieces =
    record { offset = 13; text = codes "x;" } ∷ record { offset = 31; text = codes "y" } ∷ []
