-- The messages of a result set that are still to come at an honest server, by what they say.
use Rattle.std.specs.Prelude.{ℕ, ◌≡◌, ◌++◌, List, [], ◌∷◌, map, Option, Some, None, Result, Ok, Err}
use Rattle.honest_server.specs.Exchange.{packets_from}
use Rattle.honest_server.specs.Link.{ServedLink}
use Rattle.honest_server.specs.Serve.{Reply, rows, refused}
use Rattle.result_rows.specs.RowCells.{row_cells}
use Rattle.result_rows.specs.declared.row.Row.{Row}
use Rattle.sql_cells.specs.Cell.{bytes_of}
use Rattle.sql_cells.specs.declared.cell.Cell.{Cell}
use Rattle.statement_forms.specs.declared.form.Form.{Form}
use Rattle.wire_forms.specs.Reading.{Reading, Further, row, end, refused as refused_turn, further_of, reading_after}
use Rattle.wire_forms.specs.ResultSet.{turns_of}
use Rattle.wire_forms.specs.declared.refusal.Refusal.{Refusal}
use Rattle.my_session.specs.Session.{ReaderView}
use Rattle.my_session.specs.declared.fault.SessionFault.{SessionFault}
use Rattle.my_session.specs.declared.fault.SessionFault.TheVariants.{Link, Refused, Garbled, NotProtocol10, PluginUnsupported, TooLong, StreamTooLong, OutOfMemory}

-- where a reader of a result set is, the sequence id of the next packet, and what an honest server keeps of the link
pub record Reached : Type 0 where
  pub reading : Reading
  pub id : ℕ
  pub served : ServedLink

-- where a reader of rows is, over a link of which an honest server keeps this
abbrev pub reached_by : ReaderView → ServedLink → Reached
reached_by reader served =
    record { reading = reader.pending.reading; id = reader.wire.id; served = served }

-- the packets of messages wait that say these turns to the reader, and nothing else
pub record WaitsTurns (turns : List Further) (at : Reached) : Type 0 where
  pub messages : List (List ℕ)
  pub says : turns_of at.reading messages ≡ turns
  pub waits : at.served.waiting ≡ packets_from at.id messages

-- the first of these turns was heard, in this message, and the others wait
pub record TakesTurn (turns : List Further) (old : Reading) (message : List ℕ)
    (new : Reached) : Type 0 where
  pub turn : Further
  pub more : List Further
  pub turns_are : turns ≡ turn ∷ more
  pub says : further_of old message ≡ turn
  pub waits : WaitsTurns more (record new { reading = reading_after old turn })

-- the rows of an answer that are still to come, and the ERR that breaks them off, where one does
pub record Rest : Type 0 where
  pub rows : List (List Cell)
  pub broken : Option Refusal

-- the reply of these rows, which an ERR breaks off where there is one
abbrev pub reply_with : List (List Cell) → Option Refusal → Reply
reply_with found None = rows found
reply_with found (Some refusal) = refused found refusal

-- the reply of which all rows are still to come
abbrev pub reply_of_rest : Rest → Reply
reply_of_rest rest = reply_with rest.rows rest.broken

-- the end of the rows, or an ERR in its place
abbrev pub last_turn : Option Refusal → Further
last_turn None = end
last_turn (Some refusal) = refused_turn refusal

-- what is still to come of an answer, as a reader of rows is told it
abbrev pub turns_left : Rest → List Further
turns_left rest = map row (map (map bytes_of) rest.rows) ++ last_turn rest.broken ∷ []

-- this is still to come, and nothing else
abbrev pub StillComes : Rest → Reached → Type 0
StillComes rest at = WaitsTurns (turns_left rest) at

-- the first of the rows to come was read, and the others still come
pub record TakesFirst (rest : Rest) (found : Row) (at : Reached) : Type 0 where
  pub cells : List Cell
  pub more : List (List Cell)
  pub rows_are : rest.rows ≡ cells ∷ more
  pub found_is : row_cells found ≡ map bytes_of cells
  pub comes : StillComes (record rest { rows = more }) at

-- no row is left, and this ends the rows
pub record IsOver (rest : Rest) (broken : Option Refusal) : Type 0 where
  pub none_left : rest.rows ≡ []
  pub ended : rest.broken ≡ broken

-- the ERR that breaks the rows off is told as the refusal of a statement of this form
pub record IsBrokenOff (rest : Rest) (asked form : Form) (refusal : Refusal) : Type 0 where
  pub at_end : IsOver rest (Some refusal)
  pub form_is : form ≡ asked

-- what reading the next row takes of the rest: a row is its first, there is none exactly at its end, and nothing is garbled
abbrev pub TakesNext : Rest → Form → Result (Option Row) SessionFault → Reached → Type 0
TakesNext rest asked (Ok (Some found)) at = TakesFirst rest found at
TakesNext rest asked (Ok None) at = IsOver rest None
TakesNext rest asked (Err Link) at = Unit {0}
TakesNext rest asked (Err (Refused form refusal)) at = IsBrokenOff rest asked form refusal
TakesNext rest asked (Err (Garbled place)) at = ⊥
TakesNext rest asked (Err (NotProtocol10 version)) at = ⊥
TakesNext rest asked (Err (PluginUnsupported name)) at = ⊥
TakesNext rest asked (Err (TooLong size)) at = Unit {0}
TakesNext rest asked (Err StreamTooLong) at = Unit {0}
TakesNext rest asked (Err OutOfMemory) at = Unit {0}

-- what reading the next row of a statement of this form does: the server's state stays, and what is read is the first of what was still to come
pub record NextServed (asked : Form) (old : Reached) (result : Result (Option Row) SessionFault)
    (new : Reached) : Type 0 where
  pub state : new.served.state ≡ old.served.state
  pub takes : (rest : Rest) → StillComes rest old → TakesNext rest asked result new
