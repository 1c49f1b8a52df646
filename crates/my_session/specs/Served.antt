-- What the calls of a session leave of the state that an honest server keeps of its link.
use Rattle.std.specs.Prelude.{ℕ, ◌≡◌, ◌<◌, ◌≤◌, ◌+◌, ◌^◌, false, List, [], length, Some, Result, Ok, Err}
use Rattle.honest_server.specs.Effect.{EndsOpen, EndsTransaction}
use Rattle.honest_server.specs.Link.{ServedLink, Breaks}
use Rattle.honest_server.specs.Moves.{Way, plainly, beside, SeesOthers}
use Rattle.honest_server.specs.Serve.{Reply, done, refused, Serves}
use Rattle.honest_server.specs.State.{State, Given, in_session, switching, over, closed_state, with_error, with_others}
use Rattle.server_data.specs.History.{IsPrefix}
use Rattle.server_data.specs.declared.data.Transaction.{Transaction}
use Rattle.statement_forms.specs.Form.{form_of}
use Rattle.statement_forms.specs.Text.{command_text}
use Rattle.statement_forms.specs.declared.command.Command.{Command}
use Rattle.statement_forms.specs.declared.command.Command.TheVariants.{SetUp}
use Rattle.statement_forms.specs.declared.form.Form.{Form}
use Rattle.statement_forms.specs.declared.form.Form.TheVariants.{Connect}
use Rattle.statement_forms.specs.declared.statement.Statement.{Statement}
use Rattle.statement_forms.specs.declared.statement.Statement.TheVariants.{Command as SomeCommand, Query as SomeQuery}
use Rattle.wire_forms.specs.KeptText.{kept_text}
use Rattle.wire_forms.specs.Texts.{native_password}
use Rattle.wire_forms.specs.declared.refusal.Refusal.{Refusal}
use Rattle.wire_forms.specs.declared.short_text.ShortText.{ShortText}
use Rattle.my_session.specs.declared.fault.SessionFault.{SessionFault}
use Rattle.my_session.specs.declared.fault.SessionFault.TheVariants.{Link, Refused, Garbled, NotProtocol10, PluginUnsupported, TooLong, StreamTooLong, OutOfMemory}
use Rattle.my_session.specs.declared.limits.TheConstants.{MESSAGE_LIMIT}

-- a command was sent plainly that ends an open transaction, and only that commit was done
pub record CommitsOnly (old : State) (command : Command) (new : State) : Type 0 where
  pub ends : EndsTransaction command
  pub more : List Transaction
  pub sees : SeesOthers old more
  pub ended : EndsOpen (with_others old more) old.pending new

-- the same of any statement, sent in this way
abbrev pub CommitsOnlyBy : Way → State → Statement → State → Type 0
CommitsOnlyBy plainly old (SomeCommand command) new = CommitsOnly old command new
CommitsOnlyBy plainly old (SomeQuery query) new = ⊥
CommitsOnlyBy (beside holder) old statement new = ⊥

-- what is left by a statement whose reply wasn't heard: it wasn't handled, or was handled whole, or only its commit was done
pub data IsLeft (way : Way) (old : State) (statement : Statement) (new : State) : Type 0 where
  untouched : new ≡ old → IsLeft way old statement new
  handled : (reply : Reply) → Serves way old statement reply new → IsLeft way old statement new
  committed : CommitsOnlyBy way old statement new → IsLeft way old statement new

-- beside a holder of the read lock, the holder has seen what the link has
abbrev pub IsSeenBy : Way → State → Type 0
IsSeenBy plainly state = Unit {0}
IsSeenBy (beside holder) state = IsPrefix state.seen holder.seen

-- an ERR that is told with the form of what it answers
abbrev pub given : Form → Refusal → Given
given form refusal = record { form = Some form; refusal = refusal }

-- the statement was answered by this ERR, which is told with its form
pub record GivesRefusal (way : Way) (old : State) (statement : Statement) (err : Given)
    (new : State) : Type 0 where
  pub form_is : err.form ≡ Some (form_of statement)
  pub before : IsSeenBy way old
  pub serves : Serves way old statement (refused [] err.refusal) new

-- what a fault at a statement leaves: an honest server's messages are never garbled
abbrev pub FailsStatement : Way → State → Statement → SessionFault → State → Type 0
FailsStatement way old statement Link new = IsLeft way old statement new
FailsStatement way old statement (Refused form refusal) new =
    GivesRefusal way old statement (given form refusal) new
FailsStatement way old statement (Garbled place) new = ⊥
FailsStatement way old statement (NotProtocol10 version) new = ⊥
FailsStatement way old statement (PluginUnsupported name) new = ⊥
FailsStatement way old statement (TooLong size) new = IsLeft way old statement new
FailsStatement way old statement StreamTooLong new = IsLeft way old statement new
FailsStatement way old statement OutOfMemory new = IsLeft way old statement new

-- what running a command does: it is served, or what its text is read as is, which comes to the same
abbrev pub RunsServed : Way → State → Command → Result (Unit {0}) SessionFault → State → Type 0
RunsServed way old command (Ok finished) new =
    Serves way old (SomeCommand command) done new
RunsServed way old command (Err fault) new =
    FailsStatement way old (SomeCommand command) fault new

-- the most bytes that the packets of an OK or an ERR of a willing server have
abbrev pub lean_size : ℕ
lean_size = 16777224

-- which limits a command of a willing server passes, where one is passed: its own text, or the bytes that a session hears
abbrev pub PassesLimits : Command → ℕ → Result (Unit {0}) SessionFault → Type 0
PassesLimits command place (Err (TooLong size)) = MESSAGE_LIMIT ≤ length (command_text command)
PassesLimits command place (Err StreamTooLong) = 2 ^ 62 < place + lean_size
PassesLimits command place (Err fault) = Unit {0}
PassesLimits command place (Ok finished) = Unit {0}

-- the state of a link whose login was taken
abbrev pub logged_in : State → State
logged_in state = record state { phase = in_session }

-- a login was taken, and the set-up statement served
abbrev pub OpensSession : State → State → Type 0
OpensSession old new = Serves plainly (logged_in old) (SomeCommand SetUp) done new

-- a login was refused, and the link is over
pub record TurnsAway (old : State) (refusal : Refusal) (new : State) : Type 0 where
  pub unwilling : old.terms.server.willing ≡ false
  pub new_is : new ≡ record (with_error old (Some Connect) refusal) { phase = over }

-- a login was answered by this ERR, or, once it was taken, the set-up statement was
pub data RefusesLogin (old : State) (err : Given) (new : State) : Type 0 where
  at_connect : err.form ≡ Some Connect → TurnsAway old err.refusal new → RefusesLogin old err new
  at_set_up : GivesRefusal plainly (logged_in old) (SomeCommand SetUp) err new →
      RefusesLogin old err new

-- the server asked for a plugin that isn't the native one
pub record AsksForAnother (old : State) (name : ShortText) (new : State) : Type 0 where
  pub other : old.terms.server.plugin ≡ native_password → ⊥
  pub name_is : name ≡ kept_text old.terms.server.plugin
  pub new_is : new ≡ record old { phase = switching }

-- what is left by a login that stopped unanswered: it was taken up to a phase, or refused, or the set-up statement was sent
pub data IsLeftAtLogin (old new : State) : Type 0 where
  in_login : new ≡ record old { phase = new.phase } → IsLeftAtLogin old new
  turned_away : (refusal : Refusal) → TurnsAway old refusal new → IsLeftAtLogin old new
  at_set_up : IsLeft plainly (logged_in old) (SomeCommand SetUp) new → IsLeftAtLogin old new

-- what a fault at a login leaves
abbrev pub FailsLogin : State → SessionFault → State → Type 0
FailsLogin old Link new = IsLeftAtLogin old new
FailsLogin old (Refused form refusal) new = RefusesLogin old (given form refusal) new
FailsLogin old (Garbled place) new = ⊥
FailsLogin old (NotProtocol10 version) new = ⊥
FailsLogin old (PluginUnsupported name) new = AsksForAnother old name new
FailsLogin old (TooLong size) new = IsLeftAtLogin old new
FailsLogin old StreamTooLong new = IsLeftAtLogin old new
FailsLogin old OutOfMemory new = IsLeftAtLogin old new

-- what logging in does, where it answers a value or a fault
abbrev pub LogsInServed : {A : Type 0} → State → Result A SessionFault → State → Type 0
LogsInServed old (Ok found) new = OpensSession old new
LogsInServed old (Err fault) new = FailsLogin old fault new

-- what a link is once its session is closed: over, or, where COM_QUIT wasn't sent, as it was
pub data ClosesServed (old new : State) : Type 0 where
  quits : new ≡ closed_state old → ClosesServed old new
  unsent : new ≡ old → ClosesServed old new

-- what a payload that wasn't sent leaves: a link that failed may have broken at it, and nothing else has changed
abbrev pub LeavesUnsaid : Way → List ℕ → ServedLink → SessionFault → ServedLink → Type 0
LeavesUnsaid way packets old Link new = old.failed ≡ false → Breaks way old packets new
LeavesUnsaid way packets old (Refused form refusal) new = ⊥
LeavesUnsaid way packets old (Garbled place) new = ⊥
LeavesUnsaid way packets old (NotProtocol10 version) new = ⊥
LeavesUnsaid way packets old (PluginUnsupported name) new = ⊥
LeavesUnsaid way packets old (TooLong size) new = new ≡ old
LeavesUnsaid way packets old StreamTooLong new = ⊥
LeavesUnsaid way packets old OutOfMemory new = new ≡ old
