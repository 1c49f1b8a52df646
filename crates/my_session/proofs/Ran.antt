-- What running a command does over an honest server.
use Rattle.std.proofs.Common.{◌≡◌, ℕ, true, false, List, [], ◌∷◌, ◌++◌, length, refl, sym, ◌∙◌, ap, subst, arith, inl, inr, Option, Some, None, Result, Ok, Err}
use Rattle.honest_server.specs.Exchange.{Replies, Exchanges, packets_from, query_payload}
use Rattle.honest_server.specs.Link.{ServedLink, CommitsAloneBy}
use Rattle.honest_server.specs.Moves.{Way, plainly, beside}
use Rattle.honest_server.specs.Serve.{Reply, done, rows, refused, Serves}
use Rattle.honest_server.specs.Spelled.{SpellsReply, IsLean}
use Rattle.honest_server.specs.State.{Server, State, in_session}
use Rattle.link_traits.specs.declared.link.Link.{Ghosts}
use Rattle.my_packets.proofs.Fronts.{same_packets}
use Rattle.wire_forms.specs.Packet.{packets}
use Rattle.wire_forms.specs.Reply.{reply_of}
use Rattle.wire_forms.specs.declared.refusal.Refusal.{Refusal}
use Rattle.wire_forms.specs.declared.reply.Reply.{Reply as FirstReply}
use Rattle.wire_forms.specs.declared.reply.Reply.TheVariants.{Done, Refused as IsRefused, Columns}
use Rattle.sql_cells.specs.declared.cell.Cell.{Cell}
use Rattle.statement_forms.specs.Form.{command_form}
use Rattle.statement_forms.specs.Statement.{CommandHasText, IsReadAs}
use Rattle.statement_forms.specs.Text.{command_text}
use Rattle.statement_forms.specs.declared.command.Command.{Command}
use Rattle.statement_forms.specs.declared.form.Form.{Form}
use Rattle.statement_forms.specs.declared.statement.Statement.{Statement}
use Rattle.statement_forms.specs.declared.statement.Statement.TheVariants.{Command as SomeCommand}
use Rattle.statement_laws.specs.Readings.{read_command}
use Rattle.my_session.proofs.OneText.{IsServed, same_statement, text_served}
use Rattle.my_session.proofs.Payloads.{one_payload}
use Rattle.my_session.proofs.ReadAs.{command_reading, command_keeps_form, failure_kept, serves_kept}
use Rattle.my_session.specs.Awaited.{done_fault}
use Rattle.my_session.specs.Channel.{ChannelView, IsOverLimit, SaysNone, link_of, outgoing}
use Rattle.my_session.specs.InStep.{IsQuiet, ServesDone, ServesRun}
use Rattle.my_session.specs.Served.{CommitsOnly, CommitsOnlyBy, FailsStatement, IsLeft, untouched, handled, committed, IsSeenBy, LeavesUnsaid, PassesLimits, RunsServed}
use Rattle.my_session.specs.Serving.{IsServing, IsUnheard, DeliversReply, Replied, way_of}
use Rattle.my_session.specs.Statements.{command_payload}
use Rattle.my_session.specs.declared.fault.SessionFault.{SessionFault}
use Rattle.my_session.specs.declared.fault.SessionFault.TheVariants.{Link, Refused, Garbled, NotProtocol10, PluginUnsupported, TooLong, StreamTooLong, OutOfMemory}

-- the command that a command's text is read as
abbrev as_read : Command → Statement
as_read command = SomeCommand (read_command command)

same_text : (one other payload : List ℕ) → payload ≡ query_payload one → payload ≡ query_payload other → one ≡ other
same_text one other payload is also = cc

-- ---- a command that wasn't sent

left_whole : (way : Way) (command : Command) (payload reply : List ℕ) (old new : State) → CommandHasText command → payload ≡ command_payload command → old.phase ≡ in_session → Exchanges way old (packets 0 payload) reply new → IsLeft way old (as_read command) new
left_whole way command payload reply old new has payload_is here exchanges =
    let same = (one_payload 0 exchanges.is_message.id payload exchanges.payload exchanges.is_message.message_is).payload in
    let replies = subst (λ (l : List ℕ). Replies way old l exchanges.messages new) (sym same) exchanges.replies in
    let is_served = text_served way old (command_text command) payload (as_read command) exchanges.messages new here payload_is (command_reading command has) replies in
    handled is_served.reply is_served.serves

left_alone : (way : Way) (command : Command) (payload : List ℕ) (old new : State) → CommandHasText command → payload ≡ command_payload command → CommitsAloneBy way old (packets 0 payload) new → IsLeft way old (as_read command) new
left_alone plainly command payload old new has payload_is alone =
    let same = (one_payload 0 alone.is_message.id payload (query_payload alone.text) alone.is_message.message_is).payload in
    let texts = same_text alone.text (command_text command) payload same payload_is in
    let statements = same_statement (command_text command) (SomeCommand alone.command) (as_read command) (subst (λ (l : List ℕ). IsReadAs l (SomeCommand alone.command)) texts alone.read) (command_reading command has) in
    let commits : CommitsOnly old alone.command new = record { ends = alone.ends; more = alone.more; sees = alone.sees; ended = alone.ended } in
    committed (subst (λ (s : Statement). CommitsOnlyBy plainly old s new) statements commits)
left_alone (beside holder) command payload old new has payload_is alone = absurd alone

unsaid_runs : (way : Way) (command : Command) (payload : List ℕ) (old new : ServedLink) (fault : SessionFault) → CommandHasText command → payload ≡ command_payload command → old.state.phase ≡ in_session → old.failed ≡ false → LeavesUnsaid way (packets 0 payload) old fault new → FailsStatement way old.state (as_read command) fault new.state
unsaid_runs way command payload old new Link has payload_is here alive left = elim (left alive).left [
  | inl whole ↦ left_whole way command payload whole.0 old.state new.state has payload_is here whole.1
  | inr part ↦ elim part [
    | inl alone ↦ left_alone way command payload old.state new.state has payload_is alone
    | inr same ↦ untouched same
  ]
]
unsaid_runs way command payload old new (Refused form refusal) has payload_is here alive left = absurd left
unsaid_runs way command payload old new (Garbled place) has payload_is here alive left = absurd left
unsaid_runs way command payload old new (NotProtocol10 version) has payload_is here alive left = absurd left
unsaid_runs way command payload old new (PluginUnsupported name) has payload_is here alive left = absurd left
unsaid_runs way command payload old new (TooLong size) has payload_is here alive left = untouched (ap (λ (s : ServedLink). s.state) left)
unsaid_runs way command payload old new StreamTooLong has payload_is here alive left = absurd left
unsaid_runs way command payload old new OutOfMemory has payload_is here alive left = untouched (ap (λ (s : ServedLink). s.state) left)

unsaid_limits : (way : Way) (command : Command) (payload : List ℕ) (old new : ServedLink) (place : ℕ) (fault : SessionFault) → payload ≡ command_payload command → IsOverLimit payload fault → LeavesUnsaid way (packets 0 payload) old fault new → PassesLimits command place (Err fault)
unsaid_limits way command payload old new place Link payload_is over left = tt
unsaid_limits way command payload old new place (Refused form refusal) payload_is over left = tt
unsaid_limits way command payload old new place (Garbled at) payload_is over left = tt
unsaid_limits way command payload old new place (NotProtocol10 version) payload_is over left = tt
unsaid_limits way command payload old new place (PluginUnsupported name) payload_is over left = tt
unsaid_limits way command payload old new place (TooLong size) payload_is over left =
    let longer : length payload ≡ length (query_payload (command_text command)) = ap (λ (l : List ℕ). length l) payload_is in
    omega arith
unsaid_limits way command payload old new place StreamTooLong payload_is over left = absurd left
unsaid_limits way command payload old new place OutOfMemory payload_is over left = tt

-- ---- a command whose reply waits

-- the message spells the reply to a command
abbrev IsSpelledBy : Reply → List ℕ → Type 0
IsSpelledBy done message = reply_of message ≡ Some Done
IsSpelledBy (rows found) message = ⊥
IsSpelledBy (refused found refusal) message = reply_of message ≡ Some (IsRefused refusal)

-- one message spells it
record OneMessage (server : Server) (reply : Reply) (messages : List (List ℕ)) : Type 0 where
  message : List ℕ
  messages_are : messages ≡ message ∷ []
  says : IsSpelledBy reply message
  lean : server.willing ≡ true → IsLean message

one_message : (server : Server) (command : Command) (reply : Reply) (messages : List (List ℕ)) → SpellsReply server (SomeCommand command) reply messages → OneMessage server reply messages
one_message server command done messages spells = record { message = spells.message; messages_are = spells.messages_are; says = spells.says; lean = spells.lean }
one_message server command (rows found) messages spells = absurd spells
one_message server command (refused found refusal) messages spells = record { message = spells.message; messages_are = spells.messages_are; says = spells.says; lean = spells.lean }

is_done : (way : Way) (command : Command) (old new : State) (reply : Reply) (message : List ℕ) → Serves way old (SomeCommand command) reply new → IsSpelledBy reply message → reply_of message ≡ Some Done → Serves way old (SomeCommand command) done new
is_done way command old new done message serves says is = serves
is_done way command old new (rows found) message serves says is = absurd says
is_done way command old new (refused found refusal) message serves says is = absurd (cc)

is_refused : (way : Way) (command : Command) (old new : State) (reply : Reply) (message : List ℕ) (refusal : Refusal) → Serves way old (SomeCommand command) reply new → IsSpelledBy reply message → reply_of message ≡ Some (IsRefused refusal) → Serves way old (SomeCommand command) (refused [] refusal) new
is_refused way command old new done message refusal serves says is = absurd (cc)
is_refused way command old new (rows found) message refusal serves says is = absurd says
is_refused way command old new (refused found other) message refusal serves says is =
    let same : other ≡ refusal = cc in
    subst (λ (f : List (List Cell)). Serves way old (SomeCommand command) (refused f refusal) new) serves.before
    (subst (λ (r : Refusal). Serves way old (SomeCommand command) (refused found r) new) same serves)

-- it spells an OK or an ERR
no_none : (reply : Reply) (message : List ℕ) → IsSpelledBy reply message → reply_of message ≡ None → ⊥
no_none done message says is = cc
no_none (rows found) message says is = absurd says
no_none (refused found refusal) message says is = cc

no_columns : (reply : Reply) (message : List ℕ) (columns : ℕ) → IsSpelledBy reply message → reply_of message ≡ Some (Columns columns) → ⊥
no_columns done message columns says is = cc
no_columns (rows found) message columns says is = absurd says
no_columns (refused found refusal) message columns says is = cc

-- ---- what is answered to it

module _ (way : Way) (command : Command) (old new : State) (reply : Reply) (message : List ℕ) (serves : Serves way old (as_read command) reply new) where
  answered_runs : (form : Form) (place : ℕ) (heard : Option FirstReply) (fault : SessionFault) → form ≡ command_form command → IsSeenBy way old → IsSpelledBy reply message → reply_of message ≡ heard → done_fault form place heard ≡ Some fault → FailsStatement way old (as_read command) fault new
  answered_runs form place None fault form_is before says heard_is is = absurd (no_none reply message says heard_is)
  answered_runs form place (Some Done) fault form_is before says heard_is is = absurd (cc)
  answered_runs form place (Some (IsRefused refusal)) fault form_is before says heard_is is =
      let fault_is : Refused form refusal ≡ fault = cc in
      subst (λ (f : SessionFault). FailsStatement way old (as_read command) f new) fault_is record {
        form_is = ap (λ (f : Form). Some f) (form_is ∙ sym (command_keeps_form command));
        before = before;
        serves = is_refused way (read_command command) old new reply message refusal serves says heard_is;
      }
  answered_runs form place (Some (Columns columns)) fault form_is before says heard_is is = absurd (no_columns reply message columns says heard_is)

  unheard_runs : (place : ℕ) (fault : SessionFault) → IsUnheard message place fault → FailsStatement way old (as_read command) fault new
  unheard_runs place Link unheard = handled reply serves
  unheard_runs place (Refused form refusal) unheard = absurd unheard
  unheard_runs place (Garbled at) unheard = absurd unheard
  unheard_runs place (NotProtocol10 version) unheard = absurd unheard
  unheard_runs place (PluginUnsupported name) unheard = absurd unheard
  unheard_runs place (TooLong size) unheard = handled reply serves
  unheard_runs place StreamTooLong unheard = handled reply serves
  unheard_runs place OutOfMemory unheard = handled reply serves

answered_limits : (command : Command) (form : Form) (began place : ℕ) (heard : Option FirstReply) (fault : SessionFault) → done_fault form began heard ≡ Some fault → PassesLimits command place (Err fault)
answered_limits command form began place None fault is =
    let fault_is : Garbled began ≡ fault = cc in
    subst (λ (f : SessionFault). PassesLimits command place (Err f)) fault_is tt
answered_limits command form began place (Some Done) fault is = absurd (cc)
answered_limits command form began place (Some (IsRefused refusal)) fault is =
    let fault_is : Refused form refusal ≡ fault = cc in
    subst (λ (f : SessionFault). PassesLimits command place (Err f)) fault_is tt
answered_limits command form began place (Some (Columns columns)) fault is =
    let fault_is : Garbled began ≡ fault = cc in
    subst (λ (f : SessionFault). PassesLimits command place (Err f)) fault_is tt

unheard_limits : (command : Command) (place : ℕ) (message : List ℕ) (fault : SessionFault) → IsLean message → IsUnheard message place fault → PassesLimits command place (Err fault)
unheard_limits command place message Link lean unheard = tt
unheard_limits command place message (Refused form refusal) lean unheard = tt
unheard_limits command place message (Garbled at) lean unheard = tt
unheard_limits command place message (NotProtocol10 version) lean unheard = tt
unheard_limits command place message (PluginUnsupported name) lean unheard = tt
unheard_limits command place message (TooLong size) lean unheard = absurd (omega arith)
unheard_limits command place message StreamTooLong lean unheard = omega arith
unheard_limits command place message OutOfMemory lean unheard = tt

-- ---- running it

module _ {L : Type 0} (of : Ghosts L) (holder : Option L) (command : Command) (has : CommandHasText command) where
  -- a command for which there was no room
  pub ran_unwritten : (channel : ChannelView L) (fault : SessionFault) → fault ≡ OutOfMemory → ServesRun of holder command (link_of channel) (Err fault) channel.link
  ran_unwritten channel fault is = subst (λ (f : SessionFault). ServesRun of holder command (link_of channel) (Err f) channel.link) (sym is) record { runs = untouched refl; limits = λ willing. tt }

  module _ (payload : List ℕ) (payload_is : payload ≡ command_payload command) where
    -- a command that wasn't sent
    pub ran_unsaid : (old new : ChannelView L) (fault : SessionFault) → of.honest old.link → IsQuiet of in_session old.link → SaysNone of 0 (outgoing payload holder) old new fault → ServesRun of holder command (link_of old) (Err fault) new.link
    ran_unsaid old new fault h quiet none = record {
      runs = failure_kept (way_of of holder) (of.served old.link).state (SomeCommand command) fault (of.served new.link).state (unsaid_runs (way_of of holder) command payload (of.served old.link) (of.served new.link) fault has payload_is quiet.phase_is quiet.alive (none.left h));
      limits = λ willing. unsaid_limits (way_of of holder) command payload (of.served old.link) (of.served new.link) old.place fault payload_is none.long (none.left h);
    }

    -- a command that was sent
    module _ (old middle new : ChannelView L) (quiet : IsQuiet of in_session old.link) (honest : of.honest middle.link) (replied : Replied of (way_of of holder) payload old.link middle.link middle.id) where
      serving : IsServing of middle.link
      serving = record { honest = honest; alive = replied.alive }

      is_served : IsServed (way_of of holder) (of.served old.link).state (as_read command) replied.messages (of.served middle.link).state
      is_served = text_served (way_of of holder) (of.served old.link).state (command_text command) payload (as_read command) replied.messages (of.served middle.link).state quiet.phase_is payload_is (command_reading command has) replied.replies

      only : OneMessage (of.served old.link).state.terms.server is_served.reply replied.messages
      only = one_message (of.served old.link).state.terms.server (read_command command) is_served.reply replied.messages is_served.spells

      waits : (of.served middle.link).waiting ≡ packets middle.id only.message ++ []
      waits = replied.waits ∙ ap (λ (l : List ℕ). l ++ packets_from middle.id replied.messages) quiet.none ∙ ap (λ (l : List (List ℕ)). packets_from middle.id l) only.messages_are

      only_heard : (reply : Option FirstReply) → DeliversReply of reply middle.link middle.id new.link new.id → reply_of only.message ≡ reply
      only_heard reply delivers =
          let same = (same_packets middle.id delivers.message only.message (of.served new.link).waiting [] (sym delivers.delivers.gives.waits ∙ waits)).0 in
          ap (λ (l : List ℕ). reply_of l) (sym same) ∙ delivers.reply_is

      serves_still : (of.served new.link).state ≡ (of.served middle.link).state → Serves (way_of of holder) (of.served old.link).state (as_read command) is_served.reply (of.served new.link).state
      serves_still is = subst (λ (s : State). Serves (way_of of holder) (of.served old.link).state (as_read command) is_served.reply s) (sym is) is_served.serves

      heard_runs : (form : Form) (result : Result (Unit {0}) SessionFault) → form ≡ command_form command → ServesDone of form middle result new → RunsServed (way_of of holder) (of.served old.link).state command result (of.served new.link).state
      heard_runs form (Ok finished) form_is heard =
          let told = heard serving in
          serves_kept (way_of of holder) (of.served old.link).state (SomeCommand command) done (of.served new.link).state
          (is_done (way_of of holder) (read_command command) (of.served old.link).state (of.served new.link).state is_served.reply only.message (serves_still told.delivers.gives.state) only.says (only_heard (Some Done) told))
      heard_runs form (Err fault) form_is heard = failure_kept (way_of of holder) (of.served old.link).state (SomeCommand command) fault (of.served new.link).state (elim (heard serving) [
        | inl answers ↦ answered_runs (way_of of holder) command (of.served old.link).state (of.served new.link).state is_served.reply only.message (serves_still answers.delivers.delivers.gives.state) form middle.place answers.reply fault form_is replied.before only.says (only_heard answers.reply answers.delivers) answers.fault_is
        | inr nothing ↦ unheard_runs (way_of of holder) command (of.served old.link).state (of.served new.link).state is_served.reply only.message (serves_still nothing.state) middle.place fault (nothing.unheard only.message [] waits)
      ])

      heard_limits : (form : Form) (result : Result (Unit {0}) SessionFault) → middle.place ≡ old.place → ServesDone of form middle result new → (of.served old.link).state.terms.server.willing ≡ true → PassesLimits command old.place result
      heard_limits form (Ok finished) place_is heard willing = tt
      heard_limits form (Err fault) place_is heard willing = elim (heard serving) [
        | inl answers ↦ answered_limits command form middle.place old.place answers.reply fault answers.fault_is
        | inr nothing ↦ subst (λ (n : ℕ). PassesLimits command n (Err fault)) place_is (unheard_limits command middle.place only.message fault (only.lean willing) (nothing.unheard only.message [] waits))
      ]

      pub ran_heard : (form : Form) (result : Result (Unit {0}) SessionFault) → form ≡ command_form command → middle.place ≡ old.place → ServesDone of form middle result new → ServesRun of holder command (link_of old) result new.link
      ran_heard form result form_is place_is heard = record {
        runs = heard_runs form result form_is heard;
        limits = heard_limits form result place_is heard;
      }
