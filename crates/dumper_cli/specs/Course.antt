-- The course of a dump over a link, and the ways in which it ends.
use Rattle.std.specs.Prelude.{ℕ, ◌≡◌, ◌<◌, ◌≤◌, ◌⊎◌, List, [], ◌∷◌, ◌++◌, length, Some, None}
use Rattle.wire_forms.specs.Response.{response}
use Rattle.wire_forms.specs.declared.ends.Ends.{Ends}
use Rattle.my_packets.specs.Front.{IsTooLong}
use Rattle.wire_forms.specs.Packet.{packets}
use Rattle.my_session.specs.Awaited.{Awaited, fault_at}
use Rattle.my_session.specs.Halt.{Answered, OutOfOrder, IsFull}
use Rattle.my_session.specs.Login.{password_answer, switch_answer}
use Rattle.honest_server.specs.Exchange.{query_payload}
use Rattle.my_session.specs.Statements.{command_payload}
use Rattle.my_session.specs.Wire.{Wire, Hears, after_sent, within}
use Rattle.my_session.specs.declared.fault.SessionFault.{SessionFault}
use Rattle.my_session.specs.declared.fault.SessionFault.TheVariants.{Garbled, TooLong, StreamTooLong}
use Rattle.my_session.specs.declared.limits.TheConstants.{MESSAGE_LIMIT}
use Rattle.plain_data.specs.Cell.{Cell}
use Rattle.statement_forms.specs.Text.{query_text}
use Rattle.statement_forms.specs.declared.command.Command.TheVariants.{SetUp, NamesBinary}
use Rattle.statement_forms.specs.declared.query.Query.TheVariants.{Columns, Rows}
use Rattle.dumper_cli.specs.Stage.{Stage, awaits_greeting, is_over, commanding, answering, awaiting, doing, stage_after, column_names}
use Rattle.dumper_cli.specs.Words.{Asked}
use Rattle.dumper_cli.specs.declared.column.Column.{Column}

-- from this wire on a dump comes to a stage, and the wire is then that one
pub data Comes (asked : Asked) (start : Wire) : Stage → Wire → Type 0 where
  at_start : Comes asked start awaits_greeting start
  commanded : {stage next : Stage} {wire : Wire} {payload : List ℕ} → Comes asked start stage wire →
      doing asked stage ≡ commanding payload next → length payload ≤ MESSAGE_LIMIT →
      Comes asked start next (after_sent 0 payload wire)
  answered : {stage next : Stage} {wire : Wire} {payload : List ℕ} → Comes asked start stage wire →
      doing asked stage ≡ answering payload next → length payload ≤ MESSAGE_LIMIT →
      Comes asked start next (after_sent wire.id payload wire)
  heard : {stage next : Stage} {wire new : Wire} {message : List ℕ} {awaited : Awaited} →
      Comes asked start stage wire → doing asked stage ≡ awaiting awaited → Hears message wire new →
      fault_at awaited wire.place message ≡ None → stage_after stage message ≡ Some next →
      Comes asked start next new

-- the columns and all rows came
pub record IsWhole (asked : Asked) (columns : List Column) (rows : List (List Cell))
    (start : Wire) : Type 0 where
  pub wire : Wire
  pub comes : Comes asked start (is_over columns rows) wire

-- a message came that a session goes on at and a dump doesn't
pub record IsUnfit (stage : Stage) (awaited : Awaited) (wire : Wire) : Type 0 where
  pub message : List ℕ
  pub new : Wire
  pub hears : Hears message wire new
  pub goes_on : fault_at awaited wire.place message ≡ None
  pub unfit : stage_after stage message ≡ None

-- a payload is to be sent that is longer than a message may be
pub record IsOverlong (asked : Asked) (stage : Stage) (size : ℕ) : Type 0 where
  pub payload : List ℕ
  pub next : Stage
  pub sends : (doing asked stage ≡ commanding payload next)
      ⊎ (doing asked stage ≡ answering payload next)
  pub size_is : size ≡ length payload
  pub long : MESSAGE_LIMIT < size

-- why a dump ends at a stage at which it awaits something
pub data EndsAt (stage : Stage) (awaited : Awaited) (wire : Wire) : SessionFault → Type 0 where
  at_message : {fault : SessionFault} {new : Wire} → Answered awaited fault wire new →
      EndsAt stage awaited wire fault
  at_unfit : IsUnfit stage awaited wire → EndsAt stage awaited wire (Garbled wire.place)
  at_disorder : OutOfOrder wire → EndsAt stage awaited wire (Garbled wire.place)
  at_length : {size : ℕ} → IsTooLong MESSAGE_LIMIT wire.id size (within wire) →
      EndsAt stage awaited wire (TooLong size)
  at_limit : IsFull wire → EndsAt stage awaited wire StreamTooLong

-- a dump ends with a fault that what was heard or what is to be sent is the cause of
pub data EndsWith (asked : Asked) (start : Wire) (fault : SessionFault) : Type 0 where
  awaiting_it : {stage : Stage} {wire : Wire} {awaited : Awaited} → Comes asked start stage wire →
      doing asked stage ≡ awaiting awaited → EndsAt stage awaited wire fault →
      EndsWith asked start fault
  sending_it : {stage : Stage} {wire : Wire} {size : ℕ} → Comes asked start stage wire →
      IsOverlong asked stage size → fault ≡ TooLong size → EndsWith asked start fault

-- what a server sends in a dump turns out to be one thing
pub record HasOneOutcome (asked : Asked) (start : Wire) : Type 0 where
  pub one_whole : (columns others : List Column) (rows more : List (List Cell)) →
      IsWhole asked columns rows start → IsWhole asked others more start → (columns ≡ others)
      × (rows ≡ more)
  pub one_end : (fault other : SessionFault) → EndsWith asked start fault →
      EndsWith asked start other → fault ≡ other
  pub whole_does_not_end : (columns : List Column) (rows : List (List Cell))
      (fault : SessionFault) → IsWhole asked columns rows start → ¬ EndsWith asked start fault

-- whatever the bytes of the server are, a dump by them has at most one outcome: one list of columns and one of rows, or one fault
abbrev pub AConversationHasOneOutcome : Type 0
AConversationHasOneOutcome = (asked : Asked) (start : Wire) → HasOneOutcome asked start

-- the messages of a login: the response, and the answer to a switch request where one came
abbrev pub AreOfLogin : Asked → List (List ℕ) → Type 0
AreOfLogin asked messages =
    ((id : ℕ) × (scramble : List ℕ) × (ends : Ends)
    × (messages ≡ packets id
    (response asked.user (password_answer asked.password scramble) ends) ∷ []))
    ⊎ ((id : ℕ) × (scramble : List ℕ) × (ends : Ends) × (next : ℕ) × (other : List ℕ)
    × (messages ≡ packets id
    (response asked.user (password_answer asked.password scramble) ends)
    ∷ packets next (switch_answer (password_answer asked.password other)) ∷ []))

-- the messages of the statements of a dump
abbrev pub statements : Asked → List Column → List (List ℕ)
statements asked columns =
    packets 0 (command_payload SetUp) ∷ packets 0 (command_payload NamesBinary)
    ∷ packets 0 (query_payload (query_text (Columns asked.schema asked.table)))
    ∷ packets 0 (query_payload
    (query_text (Rows (column_names columns) asked.schema asked.table))) ∷ []

-- all messages of a dump but COM_QUIT
pub record AreAll (asked : Asked) (columns : List Column) (messages : List (List ℕ)) : Type 0 where
  pub login : List (List ℕ)
  pub of_login : AreOfLogin asked login
  pub messages_are : messages ≡ login ++ statements asked columns

-- whoever has heard the end of the rows has said just these messages
abbrev pub AllIsSaid : Type 0
AllIsSaid = (asked : Asked) (columns : List Column) (rows : List (List Cell)) (start wire : Wire) →
    start.sent ≡ [] → Comes asked start (is_over columns rows) wire → AreAll asked columns wire.sent
