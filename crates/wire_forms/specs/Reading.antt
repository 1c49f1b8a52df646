-- How the messages of a result set follow one another (MySQL source documentation, ProtocolText::Resultset).
use Rattle.std.specs.Prelude.{ℕ, ◌-◌, ◌+◌, ◌==◌, ◌&&◌, nat_lt, if◌then◌else◌, Bool, true, false, List, [], ◌∷◌, length, Option, Some, None}
use Rattle.wire_forms.specs.Definition.{is_definition}
use Rattle.wire_forms.specs.Packet.{full_size}
use Rattle.wire_forms.specs.Reply.{is_eof_packet, is_ending_ok, refusal_of}
use Rattle.plain_data.specs.Cell.{Cell}
use Rattle.wire_forms.specs.Row.{cells_of}
use Rattle.wire_forms.specs.declared.ends.Ends.{Ends}
use Rattle.wire_forms.specs.declared.ends.Ends.TheVariants.{Eof, Ok}
use Rattle.wire_forms.specs.declared.refusal.Refusal.{Refusal}

-- how many messages stand before the rows of so many columns: a definition of each, and an EOF where result sets end by EOF packets
abbrev pub awaited_count : Ends → ℕ → ℕ
awaited_count Eof columns = columns + 1
awaited_count Ok columns = columns

-- where a reader is: in a result set of so many columns (0: in none), so many messages before its rows; and how result sets end
pub record Reading : Type 0 where
  pub columns : ℕ
  pub awaited : ℕ
  pub ends : Ends

-- a result set of so many columns, of which the number was read
abbrev pub columns_counted : Ends → ℕ → Reading
columns_counted ends columns =
    record { columns = columns; awaited = awaited_count ends columns; ends = ends }

-- nothing is pending
abbrev pub idle : Ends → Reading
idle ends = record { columns = 0; awaited = 0; ends = ends }

-- a further message: a column definition or the EOF after them, a row, the end, an ERR, or none of these
pub data Further : Type 0 where
  definition : Further
  row : List Cell → Further
  end : Further
  refused : Refusal → Further
  garbled : Further

-- a message before the rows, by whether it is one that may stand there
abbrev pub definition_if : Bool → Further
definition_if true = definition
definition_if false = garbled

-- a message in the end's place, by whether it is an end
abbrev pub end_if : Bool → Further
end_if true = end
end_if false = garbled

-- a message in an ERR's place: what it says, where it is an ERR
abbrev pub refused_if : Option Refusal → Further
refused_if (Some refusal) = refused refusal
refused_if None = garbled

-- a message in a row's place: its cells, where it is a row
abbrev pub row_if : Option (List Cell) → Further
row_if (Some cells) = row cells
row_if None = garbled

-- in a row's place a message that begins with fe is an end where it has fewer bytes than this
abbrev pub end_limit : Ends → ℕ
end_limit Eof = 9
end_limit Ok = full_size

-- a message is in the end's place, by its first byte and its length
abbrev pub is_in_ends_place : Ends → List ℕ → Bool
is_in_ends_place ends [] = false
is_in_ends_place ends (byte ∷ bytes) =
    byte == 254 && nat_lt (length (byte ∷ bytes)) (end_limit ends)

-- the packet after the rows: an EOF, or an OK with the header fe
abbrev pub is_end_packet : Ends → List ℕ → Bool
is_end_packet Eof message = is_eof_packet message
is_end_packet Ok message = is_ending_ok message

-- a message in a row's place: the end, ff is an ERR, any other a row
abbrev pub row_of : Ends → ℕ → List ℕ → Further
row_of ends columns [] = garbled
row_of ends columns (byte ∷ bytes) =
    if is_in_ends_place ends (byte ∷ bytes) then end_if (is_end_packet ends (byte ∷ bytes)) else
    (if byte == 255 then refused_if (refusal_of (byte ∷ bytes))
    else row_if (cells_of columns (byte ∷ bytes)))

-- a message before the rows, where so many are awaited: a definition, or the EOF that is the last of them
abbrev pub is_before_rows : Ends → ℕ → List ℕ → Bool
is_before_rows Eof awaited message =
    if awaited == 1 then is_eof_packet message else is_definition message
is_before_rows Ok awaited message = is_definition message

-- a further message of a result set: those before the rows, and then rows
abbrev pub further_of : Reading → List ℕ → Further
further_of reading payload =
    if reading.awaited == 0 then row_of reading.ends reading.columns payload else
    definition_if (is_before_rows reading.ends reading.awaited payload)

-- where the reader is after a message
abbrev pub reading_after : Reading → Further → Reading
reading_after reading definition = record reading { awaited = reading.awaited - 1 }
reading_after reading (row cells) = reading
reading_after reading end = idle reading.ends
reading_after reading (refused refusal) = idle reading.ends
reading_after reading garbled = reading
