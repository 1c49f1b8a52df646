-- What a reader of replies answers.
use Rattle.std.specs.Prelude.{ℕ, ◌≡◌, ◌==◌, if◌then◌else◌, List, [], ◌∷◌, Option, Some, None, Result, Ok, Err}
use Rattle.wire_forms.specs.Reading.{Reading, Further, definition, row, end, refused, garbled, columns_counted, idle}
use Rattle.result_rows.specs.RowCells.{row_cells}
use Rattle.wire_forms.specs.declared.ends.Ends.{Ends}
use Rattle.wire_forms.specs.declared.reply.Reply.{Reply}
use Rattle.wire_forms.specs.declared.reply.Reply.TheVariants.{Done, Refused, Columns}
use Rattle.result_rows.specs.declared.reader.ReplyFault.{ReplyFault}
use Rattle.result_rows.specs.declared.reader.ReplyFault.TheVariants.{Garbled, LocalInfile}
use Rattle.result_rows.specs.declared.reader.TurnKind.{TurnKind}
use Rattle.result_rows.specs.declared.reader.TurnKind.TheVariants.{Definition as DefinitionKind, Row as RowKind, End as EndKind, Refused as RefusedKind, Garbled as GarbledKind}
use Rattle.result_rows.specs.declared.reader.Turn.{Turn}
use Rattle.result_rows.specs.declared.reader.Turn.TheVariants.{Definition, Row, End, Refused as TurnRefused}

-- what is answered to a first message that spells no reply: fb asks for a local file
abbrev pub unspelled : List ℕ → ReplyFault
unspelled [] = Garbled
unspelled (byte ∷ bytes) = if byte == 251 then LocalInfile else Garbled

-- the answer to a reply's first message, and what is pending after it, where result sets end so
abbrev pub AnswersFirst : Ends → List ℕ → Option Reply → Result Reply ReplyFault → Reading → Type 0
AnswersFirst ends payload None result new = (result ≡ Err (unspelled payload)) × (new ≡ idle ends)
AnswersFirst ends payload (Some Done) result new = (result ≡ Ok Done) × (new ≡ idle ends)
AnswersFirst ends payload (Some (Refused refusal)) result new =
    (result ≡ Ok (Refused refusal)) × (new ≡ idle ends)
AnswersFirst ends payload (Some (Columns count)) result new =
    (result ≡ Ok (Columns count)) × (new ≡ columns_counted ends count)

-- what a further message is, without what it holds
abbrev pub turn_kind : Further → TurnKind
turn_kind definition = DefinitionKind
turn_kind (row cells) = RowKind
turn_kind end = EndKind
turn_kind (refused refusal) = RefusedKind
turn_kind garbled = GarbledKind

-- the answer to a further message, which began at this place of the stream
abbrev pub IsTurn : ℕ → Result Turn ReplyFault → Further → Type 0
IsTurn place (Ok Definition) further = further ≡ definition
IsTurn place (Ok (Row found)) further = (further ≡ row (row_cells found)) × (found.place ≡ place)
IsTurn place (Ok End) further = further ≡ end
IsTurn place (Ok (TurnRefused refusal)) further = further ≡ refused refusal
IsTurn place (Err Garbled) further = further ≡ garbled
IsTurn place (Err LocalInfile) further = ⊥
