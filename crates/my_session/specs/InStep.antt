-- What waits on the link of an honest server while a session is in step with it.
use Rattle.std.specs.Prelude.{ℕ, ◌≡◌, ◌<◌, ◌-◌, ◌⊎◌, ◌++◌, true, false, List, [], ◌∷◌, replicate, Option, Some, None, Result, Ok, Err, IfErr}
use Rattle.honest_server.specs.Exchange.{AsksFor, IsGreeting, packets_from}
use Rattle.honest_server.specs.State.{State, Phase, greeted, switching, in_session}
use Rattle.link_traits.specs.declared.link.Link.{Ghosts}
use Rattle.wire_forms.specs.declared.ends.Ends.{Ends}
use Rattle.wire_forms.specs.Packet.{packets}
use Rattle.object_forms.specs.Head.{HasHead}
use Rattle.wire_forms.specs.Reading.{Reading, Further, definition, row, end, refused, awaited_count, columns_counted, further_of, reading_after}
use Rattle.wire_forms.specs.Reply.{reply_of}
use Rattle.plain_data.specs.Cell.{Cell}
use Rattle.wire_forms.specs.declared.reply.Reply.{Reply}
use Rattle.wire_forms.specs.declared.reply.Reply.TheVariants.{Done, Refused, Columns}
use Rattle.wire_forms.specs.declared.refusal.Refusal.{Refusal}
use Rattle.statement_forms.specs.Text.{command_text}
use Rattle.statement_forms.specs.declared.command.Command.{Command}
use Rattle.statement_forms.specs.declared.form.Form.{Form}
use Rattle.my_session.specs.Peer.{IsPeerOf}
use Rattle.my_session.specs.Awaited.{count_fault, done_fault, further_fault}
use Rattle.my_session.specs.Channel.{ChannelView, HearsNothing, WhereTold, link_of}
use Rattle.my_session.specs.Heard.{HearsDefinition}
use Rattle.my_session.specs.Coming.{Reached, TakesTurn, WaitsTurns}
use Rattle.my_session.specs.Served.{FailsLogin, PassesLimits, RunsServed, TurnsAway, logged_in}
use Rattle.my_session.specs.Serving.{IsServing, MaySendBy, MessageWaits, DeliversReply, way_of}
use Rattle.my_session.specs.Session.{LinkAt, SessionView, IsOfStatement, ends_session, rows_awaited}
use Rattle.my_session.specs.Wire.{Hears, IsOnward}
use Rattle.statement_forms.specs.Statement.{CommandHasText}
use Rattle.my_session.specs.declared.fault.SessionFault.{SessionFault}
use Rattle.my_session.specs.declared.fault.SessionFault.TheVariants.{Link, Refused as IsRefusedBy, Garbled, NotProtocol10, PluginUnsupported, TooLong, StreamTooLong, OutOfMemory}
use Rattle.my_session.specs.declared.login.Decision.{Decision}
use Rattle.my_session.specs.declared.login.Decision.TheVariants.{Accepted, Switched}

-- the messages are the rest of a result set for a reader that is here: those before the rows, rows, and the end or an ERR
pub data Completes : Reading → List (List ℕ) → Type 0 where
  ends : {reading : Reading} {message : List ℕ} → further_of reading message ≡ end →
      Completes reading (message ∷ [])
  breaks_off : {reading : Reading} {message : List ℕ} {refusal : Refusal} →
      further_of reading message ≡ refused refusal → Completes reading (message ∷ [])
  defines : {reading : Reading} {message : List ℕ} {messages : List (List ℕ)} →
      further_of reading message ≡ definition →
      Completes (reading_after reading definition) messages → Completes reading (message ∷ messages)
  has_row : {reading : Reading} {message : List ℕ} {messages : List (List ℕ)} {cells : List Cell} →
      further_of reading message ≡ row cells → Completes reading messages →
      Completes reading (message ∷ messages)

-- the packets of the rest of a result set wait, from this id on
pub record WaitsRest (reading : Reading) (id : ℕ) (waiting : List ℕ) : Type 0 where
  pub messages : List (List ℕ)
  pub completes : Completes reading messages
  pub waits : waiting ≡ packets_from id messages

-- what follows a reply's first message, where result sets end so: nothing after an OK or an ERR
abbrev pub Follows : Ends → Option Reply → List (List ℕ) → Type 0
Follows ending None others = ⊥
Follows ending (Some Done) others = others ≡ []
Follows ending (Some (Refused refusal)) others = others ≡ []
Follows ending (Some (Columns columns)) others = Completes (columns_counted ending columns) others

-- the messages are a whole reply
pub record IsReply (ending : Ends) (messages : List (List ℕ)) : Type 0 where
  pub first : List ℕ
  pub others : List (List ℕ)
  pub messages_are : messages ≡ first ∷ others
  pub follows : Follows ending (reply_of first) others

-- where a link is after a decision
abbrev pub phase_after : Decision → Phase
phase_after Accepted = in_session
phase_after (Switched found) = switching

-- the answer to a login: it is taken, another plugin is asked for once, or it is refused
pub data Decides (old : State) (message : List ℕ) (new : State) : Type 0 where
  takes : reply_of message ≡ Some Done → new ≡ logged_in old → Decides old message new
  asks : old.phase ≡ greeted → AsksFor old.terms.server.plugin message →
      new ≡ record old { phase = switching } → Decides old message new
  turns_away : (refusal : Refusal) → reply_of message ≡ Some (Refused refusal) →
      TurnsAway old refusal new → Decides old message new

-- what a decision that was heard leaves
abbrev pub state_after : State → Decision → State
state_after old Accepted = logged_in old
state_after old (Switched found) = record old { phase = switching }

-- a fault at which an honest server's message isn't heard
abbrev pub IsMissed : SessionFault → Type 0
IsMissed Link = Unit {0}
IsMissed (IsRefusedBy form refusal) = ⊥
IsMissed (Garbled place) = ⊥
IsMissed (NotProtocol10 version) = ⊥
IsMissed (PluginUnsupported name) = ⊥
IsMissed (TooLong size) = Unit {0}
IsMissed StreamTooLong = Unit {0}
IsMissed OutOfMemory = Unit {0}

-- the command makes no object
abbrev pub MakesNothing : Command → Type 0
MakesNothing command = HasHead (command_text command) → ⊥

-- a column definition, or the EOF after the definitions, is awaited
pub record AwaitsDefinition (reading : Reading) : Type 0 where
  pub pending : 0 < reading.columns
  pub awaited : 0 < reading.awaited

-- a row is awaited, or the end, where result sets end so
pub record AwaitsRow (ends : Ends) (reading : Reading) : Type 0 where
  pub pending : 0 < reading.columns
  pub rows : reading.awaited ≡ 0
  pub ends_are : reading.ends ≡ ends

module _ {L : Type 0} (of : Ghosts L) where
  -- the message that was heard last began where the channel was, and more bytes were heard
  pub record HearsFurther (old new : ChannelView L) : Type 0 where
    pub began : new.began ≡ old.place
    pub onward : IsOnward old.place new.place
    pub heard : WhereTold of (Hears new.message) old new

  -- one of the messages before the rows was heard
  pub record HearsOne (old_reading : Reading) (old new : ChannelView L)
      (reading : Reading) : Type 0 where
    pub reader : reading ≡ record old_reading { awaited = old_reading.awaited - 1 }
    pub heard : WhereTold of (HearsDefinition old_reading) old new

  -- a link in this phase, on which nothing waits
  pub record IsQuiet (phase : Phase) (link : L) : Type 0 where
    pub alive : (of.served link).failed ≡ false
    pub phase_is : (of.served link).state.phase ≡ phase
    pub none : (of.served link).waiting ≡ []

  -- the answer to a login waits, from this id on, which was begun in this state
  pub record DecisionWaits (start : State) (link : L) (id : ℕ) : Type 0 where
    pub alive : (of.served link).failed ≡ false
    pub message : List ℕ
    pub decides : Decides start message (of.served link).state
    pub waits : (of.served link).waiting ≡ packets_from id (message ∷ [])

  -- a reply waits in an open session, from this id on
  pub record ReplyWaits (link : L) (id : ℕ) : Type 0 where
    pub alive : (of.served link).failed ≡ false
    pub phase : (of.served link).state.phase ≡ in_session
    pub messages : List (List ℕ)
    pub is_reply : IsReply (of.served link).state.terms.server.ends messages
    pub waits : (of.served link).waiting ≡ packets_from id messages

  -- the link is in a session that is open, and the rest of what is pending waits, from this id on: where nothing is pending, nothing
  pub record IsOpen (link : L) (id : ℕ) (reading : Reading) : Type 0 where
    pub alive : (of.served link).failed ≡ false
    pub phase : (of.served link).state.phase ≡ in_session
    pub none : reading.columns ≡ 0 → (of.served link).waiting ≡ []
    pub rest : 0 < reading.columns → WaitsRest reading id (of.served link).waiting

  -- a session is in step with an honest server: the server is what its greeting said, and the link is open as long as the session hasn't failed
  pub record IsInStep (session : SessionView L) : Type 0 where
    pub peer : of.honest session.link →
        IsPeerOf (of.served session.link).state.terms.server session.peer
    pub is_open : of.honest session.link → session.has_failed ≡ false →
        IsOpen session.link session.id session.pending.reading

  -- a link on which the greeting waits, and nothing else
  pub record GreetingWaits (link : L) : Type 0 where
    pub phase : (of.served link).state.phase ≡ greeted
    pub greeting : List ℕ
    pub greets : IsGreeting (of.served link).state.terms.server greeting
    pub waits : (of.served link).waiting ≡ packets 0 greeting

  -- nothing was heard on the channel, and the greeting is
  pub record AwaitsGreeting (channel : ChannelView L) : Type 0 where
    pub alive : channel.has_failed ≡ false
    pub first : channel.id ≡ 0
    pub greeting : IsServing of channel.link → GreetingWaits channel.link

  -- an honest server's message was taken off the channel that is this reply's first, or spells none
  abbrev pub ServesReply : Option Reply → ChannelView L → ChannelView L → Type 0
  ServesReply reply old new =
      IsServing of old.link → DeliversReply of reply old.link old.id new.link new.id

  -- an honest server's message was taken off the channel that is a reply's first or spells none, and this is answered to it
  pub record AnswersReply (fault_of : ℕ → Option Reply → Option SessionFault)
      (old new : ChannelView L) (fault : SessionFault) : Type 0 where
    pub reply : Option Reply
    pub delivers : DeliversReply of reply old.link old.id new.link new.id
    pub fault_is : fault_of old.place reply ≡ Some fault

  -- a reply's first message was heard that this is answered to, or none was
  abbrev pub FailsReply : (ℕ → Option Reply → Option SessionFault) → ChannelView L →
      ChannelView L → SessionFault → Type 0
  FailsReply fault_of old new fault =
      AnswersReply fault_of old new fault ⊎ HearsNothing of (link_of old) (link_of new) fault

  -- a reply's first message was heard, or none was
  abbrev pub ServesFirst : ChannelView L → Result (Option Reply) SessionFault → ChannelView L →
      Type 0
  ServesFirst old (Ok reply) new = ServesReply reply old new
  ServesFirst old (Err fault) new =
      IsServing of old.link → HearsNothing of (link_of old) (link_of new) fault

  -- an OK was heard, or it wasn't
  abbrev pub ServesDone : Form → ChannelView L → Result (Unit {0}) SessionFault →
      ChannelView L → Type 0
  ServesDone form old (Ok finished) new = ServesReply (Some Done) old new
  ServesDone form old (Err fault) new =
      IsServing of old.link → FailsReply (done_fault form) old new fault

  -- a number of columns was heard, or it wasn't
  abbrev pub ServesCount : Form → ChannelView L → Result ℕ SessionFault → ChannelView L → Type 0
  ServesCount form old (Ok columns) new = ServesReply (Some (Columns columns)) old new
  ServesCount form old (Err fault) new =
      IsServing of old.link → FailsReply (count_fault form) old new fault

  -- where a reader on the channel is
  abbrev pub reached_on : Reading → ChannelView L → Reached
  reached_on reading channel =
      record { reading = reading; id = channel.id; served = of.served channel.link }

  -- an honest server's state stays while bytes are taken off its link
  abbrev pub KeepsState : L → L → Type 0
  KeepsState old new = (of.served new).state ≡ (of.served old).state

  -- an honest server's further message of a result set was taken off the channel, for a reader that was here
  pub record ServesFurther (reading : Reading) (old new : ChannelView L) : Type 0 where
    pub state : KeepsState old.link new.link
    pub takes : (turns : List Further) → WaitsTurns turns (reached_on reading old) →
        TakesTurn turns reading new.message (reached_on reading new)

  -- a further message was heard that this is answered to
  pub record AnswersFurther (form : Form) (reading : Reading) (old new : ChannelView L)
      (fault : SessionFault) : Type 0 where
    pub serves : ServesFurther reading old new
    pub fault_is : further_fault form old.place (further_of reading new.message) ≡ Some fault

  -- a further message was heard, or it wasn't
  abbrev pub ServesNext : {A : Type 0} → Form → Reading → ChannelView L → Result A SessionFault →
      ChannelView L → Type 0
  ServesNext form reading old (Ok answer) new =
      IsServing of old.link → ServesFurther reading old new
  ServesNext form reading old (Err fault) new =
      IsServing of old.link →
      AnswersFurther form reading old new fault
      ⊎ HearsNothing of (link_of old) (link_of new) fault

  -- the messages before the rows were heard, and what came after them still waits; or one of them wasn't heard
  abbrev pub PassesDefinitions : List Further → Ends → ℕ → Result (Unit {0}) SessionFault →
      ChannelView L → Type 0
  PassesDefinitions turns ending columns (Ok finished) new =
      WaitsTurns turns (reached_on (rows_awaited ending columns) new)
  PassesDefinitions turns ending columns (Err fault) new = IsMissed fault

  -- what hearing the messages before the rows of so many columns does
  pub record DescribesServed (ending : Ends) (columns : ℕ) (old : ChannelView L)
      (result : Result (Unit {0}) SessionFault) (new : ChannelView L) : Type 0 where
    pub state : KeepsState old.link new.link
    pub passes : (turns : List Further) →
        WaitsTurns (replicate (awaited_count ending columns) definition ++ turns)
        (reached_on (columns_counted ending columns) old) →
        PassesDefinitions turns ending columns result new

  -- what a command that is run in this way does
  pub record ServesRun (holder : Option L) (command : Command) (old : LinkAt L)
      (result : Result (Unit {0}) SessionFault) (new : L) : Type 0 where
    pub runs : RunsServed (way_of of holder) (of.served old.link).state command result
        (of.served new).state
    pub limits : (of.served old.link).state.terms.server.willing ≡ true →
        PassesLimits command old.place result

  -- what a fault at a login leaves, which was begun in this state
  abbrev pub FailsDecision : State → L → SessionFault → Type 0
  FailsDecision start new fault = FailsLogin start fault (of.served new).state

  -- an honest server's message was heard, or it wasn't heard
  pub record MissesOnly {A : Type 0} (old : L) (result : Result A SessionFault)
      (new : L) : Type 0 where
    pub state : KeepsState old new
    pub missed : IfErr result IsMissed

  -- the answer to a login that was begun in some state waits on the channel
  pub record HasDecision (channel : ChannelView L) : Type 0 where
    pub start : State
    pub waits : DecisionWaits start channel.link channel.id

  -- what the answer to a login leaves that was begun in this state
  abbrev pub HearsDecided : State → Result Decision SessionFault → L → Type 0
  HearsDecided start (Ok found) new = (of.served new).state ≡ state_after start found
  HearsDecided start (Err fault) new = FailsDecision start new fault

  -- a login that was begun in this state was taken, or it failed
  abbrev pub AcceptsServed : State → Result (Unit {0}) SessionFault → L → Type 0
  AcceptsServed start (Ok finished) new = (of.served new).state ≡ logged_in start
  AcceptsServed start (Err fault) new = FailsDecision start new fault

  -- a message can be heard on the channel
  pub record AwaitsMessage (channel : ChannelView L) : Type 0 where
    pub alive : channel.has_failed ≡ false
    pub waits : IsServing of channel.link → MessageWaits channel.id (of.served channel.link).waiting

  -- the channel is in this phase, and nothing waits on it
  pub record IsAtRest (phase : Phase) (channel : ChannelView L) : Type 0 where
    pub alive : channel.has_failed ≡ false
    pub quiet : of.honest channel.link → IsQuiet phase channel.link

  -- a statement was sent on the channel, and its reply can be heard
  pub record AwaitsReply (channel : ChannelView L) : Type 0 where
    pub alive : channel.has_failed ≡ false
    pub waits : of.honest channel.link → ReplyWaits channel.link channel.id

  -- the rest of a result set can be heard on the channel by a reader that is here
  pub record AwaitsRest (channel : ChannelView L) (reading : Reading) : Type 0 where
    pub alive : channel.has_failed ≡ false
    pub rest : of.honest channel.link → IsOpen channel.link channel.id reading

  -- the server follows the end of result sets that the reader does
  pub record FollowsEnds (ends : Ends) (reading : Reading) (link : L) : Type 0 where
    pub reader : reading.ends ≡ ends
    pub server : of.honest link → ends ≡ (of.served link).state.terms.server.ends

  -- the number of columns was heard, from 1 to 65,535, and the messages before the rows come next
  pub record HasCounted (ends : Ends) (columns : ℕ) (channel : ChannelView L)
      (reading : Reading) : Type 0 where
    pub some : 0 < columns
    pub few : columns < 65536
    pub reader : reading ≡ columns_counted ends columns
    pub rest : AwaitsRest channel (columns_counted ends columns)

  -- the messages before the rows were heard, and the rows come next
  pub record HasOpened (ends : Ends) (columns : ℕ) (channel : ChannelView L)
      (reading : Reading) : Type 0 where
    pub some : 0 < columns
    pub reader : reading ≡ rows_awaited ends columns
    pub rest : AwaitsRest channel (rows_awaited ends columns)

  -- a statement failed: where the fault is an ERR, the session is open after it and nothing waits
  pub record FailsOn (fault : SessionFault) (channel : ChannelView L) : Type 0 where
    pub kind : IsOfStatement fault
    pub rest : ends_session fault ≡ false → IsAtRest in_session channel

  -- the command may be run over the link: it has a text, and makes no object unless the server is the link's alone
  pub record MayRun (command : Command) (link : L) : Type 0 where
    pub text : CommandHasText command
    pub no_create : of.honest link → (of.served link).state.terms.sole ≡ false →
        MakesNothing command

  -- the command may be run over the link beside the holder, where one is lent
  pub record MayRunBy (holder : Option L) (command : Command) (link : L) : Type 0 where
    pub run : MayRun command link
    pub beside : of.honest link → MaySendBy of holder link
