-- What was heard, where a session goes on.
use Rattle.std.specs.Prelude.{ℕ, ◌≡◌, ◌<◌, Bool, true, false, List, [], ◌∷◌, ◌++◌, Option, Some, None, Result, Ok, Err}
use Rattle.wire_forms.specs.Greeting.{greeting_of}
use Rattle.wire_forms.specs.Switch.{switch_of}
use Rattle.wire_forms.specs.declared.ends.Ends.{Ends}
use Rattle.wire_forms.specs.declared.greeting.Greeting.{Greeting}
use Rattle.wire_forms.specs.declared.switch.Switch.{Switch}
use Rattle.wire_forms.specs.Reading.{Reading, definition, row, end, idle, columns_counted, further_of}
use Rattle.wire_forms.specs.Reply.{reply_of}
use Rattle.wire_forms.specs.declared.reply.Reply.{Reply}
use Rattle.wire_forms.specs.declared.reply.Reply.TheVariants.{Done, Refused, Columns}
use Rattle.plain_data.specs.Cell.{Cell}
use Rattle.wire_forms.specs.Row.{cells_of}
use Rattle.statement_forms.specs.declared.form.Form.{Form}
use Rattle.my_session.specs.Awaited.{decision, fault_at, further_fault}
use Rattle.my_session.specs.Login.{IsGreeted, IsAccepted, LoginAwaits, LoginSends}
use Rattle.my_session.specs.Wire.{Wire, Step, hears, Hears, Takes}
use Rattle.my_session.specs.Halt.{Stops}
use Rattle.my_session.specs.declared.peer.Peer.{Peer}
use Rattle.my_session.specs.declared.fault.SessionFault.{SessionFault}
use Rattle.my_session.specs.declared.login.Decision.{Decision}
use Rattle.my_session.specs.declared.login.Decision.TheVariants.{Accepted, Switched}

-- a message was heard that is this reply's first, or spells none
pub record HearsReply (reply : Option Reply) (old new : Wire) : Type 0 where
  pub message : List ℕ
  pub heard : Hears message old new
  pub reply_is : reply_of message ≡ reply

-- where a reader is after a reply's first message, where result sets end so
abbrev pub reading_of : Ends → Option Reply → Reading
reading_of ends None = idle ends
reading_of ends (Some Done) = idle ends
reading_of ends (Some (Refused refusal)) = idle ends
reading_of ends (Some (Columns columns)) = columns_counted ends columns

-- a result set has from 1 to 65,535 columns
abbrev pub HasColumns : Option Reply → Type 0
HasColumns None = Unit {0}
HasColumns (Some Done) = Unit {0}
HasColumns (Some (Refused refusal)) = Unit {0}
HasColumns (Some (Columns columns)) = (0 < columns) × (columns < 65536)

-- a reader was given a reply's first message
pub record ReadsReply (old : Reading) (reply : Option Reply) (new : Reading) : Type 0 where
  pub columns : HasColumns reply
  pub reader : new ≡ reading_of old.ends reply

-- a greeting was heard
pub record HearsGreeting (found : Greeting) (old new : Wire) : Type 0 where
  pub message : List ℕ
  pub heard : Hears message old new
  pub read : greeting_of message ≡ Ok found

-- what a message decides of a login
abbrev pub IsDecision : Decision → List ℕ → Type 0
IsDecision Accepted message = reply_of message ≡ Some Done
IsDecision (Switched found) message =
    (fault_at decision 0 message ≡ None) × (switch_of message ≡ Ok found)

-- a decision was heard
pub record HearsDecision (found : Decision) (old new : Wire) : Type 0 where
  pub message : List ℕ
  pub heard : Hears message old new
  pub is : IsDecision found message

-- the server asked for an answer over the scramble of this request
pub record IsAskedToSwitch (user password : List ℕ) (peer : Peer) (found : Switch)
    (steps : List Step) : Type 0 where
  pub before : List Step
  pub greeted : IsGreeted user password peer before
  pub message : List ℕ
  pub goes_on : fault_at decision 0 message ≡ None
  pub read : switch_of message ≡ Ok found
  pub steps_are : steps ≡ before ++ hears message ∷ []

-- a login stops
abbrev pub LoginStops : List ℕ → List ℕ → Wire → SessionFault → Wire → Type 0
LoginStops user password old fault new =
    Stops (LoginAwaits user password) (LoginSends user password) old fault new

-- a login that was asked to switch is accepted
abbrev pub AcceptsSwitched : List ℕ → Switch → Wire → Wire → Type 0
AcceptsSwitched password found old new =
    (start : Wire) (user : List ℕ) (peer : Peer) →
    Takes (IsAskedToSwitch user password peer found) start old →
    Takes (IsAccepted user password peer) start new

-- a login that was asked to switch stops
abbrev pub StopsSwitched : List ℕ → Switch → Wire → SessionFault → Wire → Type 0
StopsSwitched password found old fault new =
    (start : Wire) (user : List ℕ) (peer : Peer) →
    Takes (IsAskedToSwitch user password peer found) start old →
    LoginStops user password start fault new

-- a login that has answered the greeting is accepted
abbrev pub AcceptsGreeted : List ℕ → Wire → Wire → Type 0
AcceptsGreeted password old new =
    (start : Wire) (user : List ℕ) (peer : Peer) → Takes (IsGreeted user password peer) start old →
    Takes (IsAccepted user password peer) start new

-- a login that has answered the greeting stops
abbrev pub StopsGreeted : List ℕ → Wire → SessionFault → Wire → Type 0
StopsGreeted password old fault new =
    (start : Wire) (user : List ℕ) (peer : Peer) → Takes (IsGreeted user password peer) start old →
    LoginStops user password start fault new

-- one of the messages before the rows was heard: a column definition, or the EOF after the definitions
pub record HearsDefinition (reading : Reading) (old new : Wire) : Type 0 where
  pub message : List ℕ
  pub heard : Hears message old new
  pub is : further_of reading message ≡ definition

-- a message in the place of a row is one
pub record IsRowOf (reading : Reading) (message : List ℕ) : Type 0 where
  pub cells : List Cell
  pub cells_are : cells_of reading.columns message ≡ Some cells
  pub is : further_of reading message ≡ row cells

-- whether a message in the place of a row is one, or else the end, and where the reader is after it, where result sets end so
abbrev pub IsAfterRow : Ends → Reading → List ℕ → Bool → Reading → Type 0
IsAfterRow ends old message true new = IsRowOf old message × (new ≡ old)
IsAfterRow ends old message false new = (further_of old message ≡ end) × (new ≡ idle ends)

-- what is answered to a message in the place of a row, which began at this place, and where the reader is after it
abbrev pub Judges : Ends → Reading → Form → List ℕ → ℕ → Result Bool SessionFault → Reading → Type 0
Judges ends old form message place (Ok is_row) new = IsAfterRow ends old message is_row new
Judges ends old form message place (Err fault) new =
    (further_fault form place (further_of old message) ≡ Some fault) × (new ≡ idle ends)
