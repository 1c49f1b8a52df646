-- What reading the next statement does.
use Rattle.std.specs.Prelude.{◌≡◌, ℕ, ◌+◌, ◌≤◌, Bool, true, false, List, [], length, Result, Ok, Err, Option, Some, None}
use Rattle.splitter_forms.specs.Pieces.{UnreadText, with_more, Piece, PassesLimit, GivesPiece, GivesNone}
use Rattle.statement_splitter.specs.declared.splitter.SplitFault.{SplitFault}
use Rattle.statement_splitter.specs.declared.splitter.SplitFault.TheVariants.{TooLong}
use Rattle.statement_splitter.specs.declared.splitter.Piece as lent

-- what callers see of a splitter: the most bytes that a statement may have, the statement that was given last, and what is unread
pub record Split : Type 0 where
  pub limit : ℕ
  pub last : Piece
  pub unread : UnreadText

-- the statement given last, where none is
abbrev pub no_piece : Piece
no_piece = record { offset = 0; text = [] }

-- the same with these bytes of the file more, and no statement given last
abbrev pub after_feed : Split → List ℕ → Split
after_feed split bytes = record split { last = no_piece; unread = with_more bytes split.unread }

-- the bytes that were fed are as many as before
abbrev pub IsEven : UnreadText → UnreadText → Type 0
IsEven old new = new.offset + length new.rest ≡ old.offset + length old.rest

-- the next statement is given
pub record Gives (old : Split) (statement : Piece) (new : Split) : Type 0 where
  pub short : length statement.text ≤ old.limit
  pub gives : GivesPiece old.unread statement new.unread
  pub even : IsEven old.unread new.unread
  pub last : new.last ≡ statement
  pub limit : new.limit ≡ old.limit

-- no statement is ended, and it may still be short enough
pub record WaitsForMore (old new : Split) : Type 0 where
  pub none : GivesNone old.unread new.unread
  pub short : ¬ PassesLimit old.limit old.unread
  pub even : IsEven old.unread new.unread
  pub last : new.last ≡ old.last
  pub limit : new.limit ≡ old.limit

-- the next statement is too long, and nothing changes
pub record RefusesLong (old : Split) (size : ℕ) (new : Split) : Type 0 where
  pub size_is : size ≡ old.limit + 1
  pub long : PassesLimit old.limit old.unread
  pub same : new ≡ old

-- what one step does; a statement that it gives is the last one
abbrev pub StepsOnce : Split → Result Bool SplitFault → Split → Type 0
StepsOnce old (Ok true) new = Gives old new.last new
StepsOnce old (Ok false) new = WaitsForMore old new
StepsOnce old (Err (TooLong size)) new = RefusesLong old size new

-- a statement as it is lent
abbrev pub piece_of : lent.Piece → Piece
piece_of statement = record { offset = statement.offset; text = statement.text.now }

-- what reading the next statement does
abbrev pub GivesStatement : Split → Result (Option lent.Piece) SplitFault → Split → Type 0
GivesStatement old (Ok (Some statement)) new = Gives old (piece_of statement) new
GivesStatement old (Ok None) new = WaitsForMore old new
GivesStatement old (Err (TooLong size)) new = RefusesLong old size new
