-- The statements in a file.
use Rattle.std.specs.Prelude.{◌≡◌, ◌≢◌, ℕ, zero, suc, ◌+◌, ◌-◌, slice_index, ◌<◌, ◌==◌, ◌&&◌, ◌||◌, not, nat_le, nat_eq, if◌then◌else◌, Bool, true, List, [], ◌∷◌, ◌++◌, length, take, drop, codes, Option, Some, None}
use Rattle.std.specs.List.{starts_with, prefix_len}
use Rattle.plain_data.specs.Byte.{is_white}
use Rattle.splitter_forms.specs.Scan.{size_in, end_size, is_line, before_mark, plus}
use Rattle.splitter_forms.specs.declared.delimiter.Delimiter.{Delimiter}
use Rattle.splitter_forms.specs.declared.delimiter.Delimiter.TheVariants.{Semicolon, Dollars}
use Rattle.splitter_forms.specs.declared.opening.Opening.{Opening}
use Rattle.splitter_forms.specs.declared.opening.Opening.TheVariants.{Nothing, White, Comment, DelimiterLine, Statement, Undecided}
use Rattle.splitter_forms.specs.declared.opening.CommentEnd.{CommentEnd}
use Rattle.splitter_forms.specs.declared.opening.CommentEnd.TheVariants.{LineFeed, StarSlash}

-- the bytes begin with the word
abbrev pub begins : List ℕ → List ℕ → Bool
begins word bytes = starts_with nat_eq bytes word

-- the bytes are some of the word's first, and not all
abbrev pub is_front_of : List ℕ → List ℕ → Bool
is_front_of word bytes = starts_with nat_eq word bytes && not (nat_le (length word) (length bytes))

-- so many dollars, and what follows them
abbrev pub dollars_line : ℕ → List ℕ → Opening
dollars_line n [] = Undecided
dollars_line n (byte ∷ bytes) =
    if nat_le 2 n && byte == 10 then DelimiterLine (11 + n) (Dollars n) else Statement

-- the byte is a `$`
abbrev pub is_dollar : ℕ → Bool
is_dollar byte = byte == 36

-- the delimiter after the word DELIMITER and a space, and the line's end
abbrev pub delimiter_line : List ℕ → Opening
delimiter_line bytes =
    if begins (codes ";\n") bytes then DelimiterLine 12 Semicolon
    else (if is_front_of (codes ";\n") bytes then Undecided
    else (dollars_line (prefix_len is_dollar bytes) (drop (prefix_len is_dollar bytes) bytes)))

-- at the beginning of a line
abbrev pub line_opening : List ℕ → Opening
line_opening bytes =
    if begins (codes "DELIMITER ") bytes then delimiter_line (drop 10 bytes)
    else (if is_front_of (codes "DELIMITER ") bytes then Undecided
    else Statement)

-- after a `-`
abbrev pub dash_opening : List ℕ → Opening
dash_opening bytes =
    if begins (codes "- ") bytes then Comment 3 LineFeed
    else (if is_front_of (codes "- ") bytes then Undecided
    else Statement)

-- after a `/`
abbrev pub slash_opening : List ℕ → Opening
slash_opening [] = Undecided
slash_opening (byte ∷ bytes) =
    if begins (codes "*!") (byte ∷ bytes) then Statement
    else (if byte == 42 then Comment 2 StarSlash
    else Statement)

-- what begins between statements, at the beginning of a line or not
abbrev pub opening : Bool → List ℕ → Opening
opening fresh [] = Nothing
opening fresh (byte ∷ bytes) =
    if is_white byte then White
    else (if byte == 35 then Comment 1 LineFeed
    else (if byte == 45 then dash_opening bytes
    else (if byte == 47 then slash_opening bytes
    else (if fresh then line_opening (byte ∷ bytes)
    else Statement))))

-- the bytes that end a comment
abbrev pub mark_of : CommentEnd → List ℕ
mark_of LineFeed = codes "\n"
mark_of StarSlash = codes "*/"

-- what callers see of a splitter: what ends a statement, whether the next byte begins a line, how many bytes came before it, and the bytes from it on
pub record UnreadText : Type 0 where
  pub ending : Delimiter
  pub fresh : Bool
  pub offset : ℕ
  pub rest : List ℕ

-- the same with more bytes at the end
abbrev pub with_more : List ℕ → UnreadText → UnreadText
with_more more unread =
    record {
      ending = unread.ending;
      fresh = unread.fresh;
      offset = unread.offset;
      rest = unread.rest ++ more;
    }

-- the same after so many bytes
abbrev pub unread_past : ℕ → Bool → Delimiter → UnreadText → UnreadText
unread_past n fresh ending unread =
    record { ending = ending; fresh = fresh; offset = unread.offset + n; rest = drop n unread.rest }

-- whether the last of the first n bytes is a line feed
abbrev pub ends_line : ℕ → List ℕ → Bool
ends_line n bytes = slice_index bytes (n - 1) == 10

-- a statement, and how many bytes of the file come before it
pub record Piece : Type 0 where
  pub offset : ℕ
  pub text : List ℕ

-- what comes next: a statement and what is unread after it, one that isn't ended, bytes that more bytes decide, or none
pub data NextPiece : Type 0 where
  piece : Piece → UnreadText → NextPiece
  unended : UnreadText → NextPiece
  waiting : UnreadText → NextPiece
  none : UnreadText → NextPiece

-- what stands here: that, or something that is passed over
pub data PieceStep : Type 0 where
  found : NextPiece → PieceStep
  further : UnreadText → PieceStep

-- a statement that begins here, and has so many bytes where it is ended
abbrev pub statement_next : UnreadText → Option ℕ → NextPiece
statement_next unread None = unended unread
statement_next unread (Some size) =
    piece (record { offset = unread.offset; text = take size unread.rest })
    (unread_past (size + end_size unread.ending) (is_line unread.ending) unread.ending unread)

-- so many bytes that are passed over
abbrev pub passed : ℕ → UnreadText → PieceStep
passed n unread = further (unread_past n (ends_line n unread.rest) unread.ending unread)

-- a comment with so many bytes before the mark that ends it, where it is ended
abbrev pub comment_step : UnreadText → List ℕ → Option ℕ → PieceStep
comment_step unread mark None = found (none unread)
comment_step unread mark (Some size) = passed (size + length mark) unread

-- what stands here, where this is what begins: a statement, nothing, or something that is passed over
abbrev pub step_by : UnreadText → Opening → PieceStep
step_by unread Nothing = found (none unread)
step_by unread White = passed 1 unread
step_by unread (Comment n end) =
    comment_step unread (mark_of end) (plus n (before_mark (mark_of end) (drop n unread.rest)))
step_by unread (DelimiterLine n ending) = further (unread_past n true ending unread)
step_by unread Statement = found (statement_next unread (size_in unread.ending unread.rest))
step_by unread Undecided = found (waiting unread)

-- what stands at the next byte
abbrev pub step : UnreadText → PieceStep
step unread = step_by unread (opening unread.fresh unread.rest)

-- what comes next, after at most so many things that are passed over
abbrev pub next_within : ℕ → UnreadText → NextPiece
next_within zero unread = none unread
next_within (suc n) unread =
    elim (step unread) [ found next ↦ next | further unread ↦ next_within n unread ]

-- each thing that is passed over has a byte or more
unfoldable pub next : UnreadText → NextPiece
next unread = next_within (suc (length unread.rest)) unread

-- the statements that are ended, of at most so many
abbrev pub pieces_within : ℕ → UnreadText → List Piece
pieces_within zero unread = []
pieces_within (suc n) unread =
    elim (next unread) [
      | piece statement unread ↦ statement
          ∷ pieces_within n unread
      | unended unread ↦ []
      | waiting unread ↦ []
      | none unread ↦ []
    ]

-- the statements that are ended
unfoldable pub pieces : UnreadText → List Piece
pieces unread = pieces_within (suc (length unread.rest)) unread

-- what comes after the statements that are ended, of which there are at most so many
abbrev pub last_within : ℕ → UnreadText → NextPiece
last_within zero unread = none unread
last_within (suc n) unread =
    elim (next unread) [
      | piece statement unread ↦ last_within n unread
      | unended unread ↦ unended
          unread
      | waiting unread ↦ waiting unread
      | none unread ↦ none unread
    ]

-- what comes after the statements that are ended
unfoldable pub last : UnreadText → NextPiece
last unread = last_within (suc (length unread.rest)) unread

-- where a statement is begun that isn't ended, the bytes before it
abbrev pub begun_size : NextPiece → Option ℕ
begun_size (piece statement unread) = None
begun_size (unended unread) = Some unread.offset
begun_size (waiting unread) = Some unread.offset
begun_size (none unread) = None

-- how many bytes the next statement has, ended or not
abbrev pub next_size : NextPiece → Option ℕ
next_size (piece statement unread) = Some (length statement.text)
next_size (unended unread) = Some (length unread.rest)
next_size (waiting unread) = Some (length unread.rest)
next_size (none unread) = None

-- whatever bytes follow, the next statement, ended or not, has more bytes than that
abbrev pub PassesLimit : ℕ → UnreadText → Type 0
PassesLimit limit unread =
    (more : List ℕ) → (size : ℕ) × (next_size (next (with_more more unread)) ≡ Some size)
    × (limit < size)

-- the next statement is that one, whatever bytes follow
abbrev pub GivesPiece : UnreadText → Piece → UnreadText → Type 0
GivesPiece old statement new =
    (more : List ℕ) → next (with_more more old) ≡ piece statement (with_more more new)

-- no statement is ended, and what comes next is the same, whatever bytes follow
pub record GivesNone (old new : UnreadText) : Type 0 where
  pub no_piece : (statement : Piece) (further : UnreadText) → next old ≢ piece statement further
  pub same : (more : List ℕ) → next (with_more more old) ≡ next (with_more more new)

-- a file that isn't read yet
abbrev pub unread_file : List ℕ → UnreadText
unread_file bytes = record { ending = Semicolon; fresh = true; offset = 0; rest = bytes }
