-- Whole text result sets (MySQL source documentation, ProtocolText::Resultset).
use Rattle.std.specs.Prelude.{ℕ, ◌≡◌, ◌==◌, ◌&&◌, ◌↔◌, not, Bool, false, IsTrue, List, [], ◌∷◌, ◌++◌, length, map, replicate, Some}
use Rattle.plain_data.specs.Cell.{Cell}
use Rattle.wire_forms.specs.Row.{cells_of}
use Rattle.wire_forms.specs.Definition.{is_definition, column_count}
use Rattle.wire_forms.specs.Reply.{is_eof_packet, reply_of}
use Rattle.wire_forms.specs.Reading.{Reading, Further, definition, row, end, awaited_count, columns_counted, is_in_ends_place, is_end_packet, further_of, reading_after}
use Rattle.wire_forms.specs.declared.ends.Ends.{Ends}
use Rattle.wire_forms.specs.declared.ends.Ends.TheVariants.{Eof, Ok}
use Rattle.wire_forms.specs.declared.reply.Reply.TheVariants.{Columns}

-- each message is a column definition
abbrev pub AreDefinitions : List (List ℕ) → Type 0
AreDefinitions [] = Unit {0}
AreDefinitions (message ∷ messages) = IsTrue (is_definition message) × AreDefinitions messages

-- a message in a row's place is no ERR and no end, by its first byte and its length
abbrev pub begins_row : Ends → List ℕ → Bool
begins_row ends [] = false
begins_row ends (byte ∷ bytes) = not (byte == 255) && not (is_in_ends_place ends (byte ∷ bytes))

-- the message of a row of so many columns
pub record IsRow (ends : Ends) (columns : ℕ) (message : List ℕ) (cells : List Cell) : Type 0 where
  pub begins : IsTrue (begins_row ends message)
  pub cells_are : cells_of columns message ≡ Some cells

-- each message is that of a row, in order
abbrev pub AreRows : Ends → ℕ → List (List ℕ) → List (List Cell) → Type 0
AreRows ends columns [] [] = Unit {0}
AreRows ends columns [] (cells ∷ rows) = ⊥
AreRows ends columns (message ∷ messages) [] = ⊥
AreRows ends columns (message ∷ messages) (cells ∷ rows) =
    IsRow ends columns message cells × AreRows ends columns messages rows

-- the messages between the definitions and the rows: one EOF, or none
abbrev pub IsBetween : Ends → List (List ℕ) → Type 0
IsBetween Eof [] = ⊥
IsBetween Eof (message ∷ []) = IsTrue (is_eof_packet message)
IsBetween Eof (message ∷ other ∷ messages) = ⊥
IsBetween Ok [] = Unit {0}
IsBetween Ok (message ∷ messages) = ⊥

-- the messages of a result set: the number of columns, a definition of each, an EOF or none, the rows, and the end
pub record IsResultSet (ends : Ends) (columns : ℕ) (rows : List (List Cell))
    (messages : List (List ℕ)) : Type 0 where
  pub count : List ℕ
  pub definitions : List (List ℕ)
  pub between : List (List ℕ)
  pub row_messages : List (List ℕ)
  pub last : List ℕ
  pub messages_are : messages ≡ count ∷ (definitions ++ (between ++ (row_messages ++ last ∷ [])))
  pub count_is : column_count count ≡ Some columns
  pub definitions_are : AreDefinitions definitions
  pub as_many : length definitions ≡ columns
  pub between_is : IsBetween ends between
  pub rows_are : AreRows ends columns row_messages rows
  pub last_is : IsTrue (is_end_packet ends last)

-- what a reader takes messages for, one after the other
abbrev pub turns_of : Reading → List (List ℕ) → List Further
turns_of reading [] = []
turns_of reading (message ∷ messages) =
    further_of reading message
    ∷ turns_of (reading_after reading (further_of reading message)) messages

-- the reader takes the messages for a number of columns, those before the rows, the rows, and the end
pub record IsTaken (ends : Ends) (columns : ℕ) (rows : List (List Cell))
    (messages : List (List ℕ)) : Type 0 where
  pub first : List ℕ
  pub others : List (List ℕ)
  pub messages_are : messages ≡ first ∷ others
  pub reply : reply_of first ≡ Some (Columns columns)
  pub turns : turns_of (columns_counted ends columns) others
      ≡ replicate (awaited_count ends columns) definition ++ (map row rows ++ end ∷ [])

-- a whole result set is exactly what the reader takes for one, however result sets end
abbrev pub ResultSetsAreTaken : Type 0
ResultSetsAreTaken =
    (ends : Ends) (columns : ℕ) (rows : List (List Cell)) (messages : List (List ℕ)) →
    IsResultSet ends columns rows messages ↔ IsTaken ends columns rows messages
