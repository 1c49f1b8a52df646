-- What the calls of a session do to a dump.
use Rattle.std.proofs.Common.{◌≡◌, ◌≤◌, ◌-◌, ◌==◌, ◌⊎◌, ℕ, suc, Bool, true, false, if◌then◌else◌, List, [], ◌∷◌, ◌++◌, length, map, Option, Some, None, Result, Ok, Err, refl, sym, ◌∙◌, ap, subst, inl, inr, arith}
use Rattle.std.specs.Prelude.{replicate, option_map}
use Rattle.std.proofs.lemmas.Bool.Decides.{nat_tests}
use Rattle.wire_forms.specs.Response.{response}
use Rattle.wire_forms.specs.declared.ends.Ends.{Ends as Ending}
use Rattle.wire_forms.specs.Greeting.{greeting_of}
use Rattle.wire_forms.specs.Switch.{switch_of, after_request}
use Rattle.wire_forms.specs.declared.login_fault.LoginFault.{LoginFault}
use Rattle.wire_forms.specs.declared.login_fault.LoginFault.TheVariants.{NotProtocol10 as NotTen, PluginUnsupported as Unsupported, Refused as LoginRefused, Garbled as LoginGarbled}
use Rattle.wire_forms.specs.declared.greeting.Greeting.{Greeting}
use Rattle.wire_forms.specs.declared.switch.Switch.{Switch}
use Rattle.my_session.specs.Awaited.{Awaited, greeting, decision, done, count, further, fault_at, greeting_fault, switch_fault, decision_fault, done_fault, count_fault, further_fault}
use Rattle.my_session.specs.Halt.{Halts, Misheard, Unsaid, Stops, at_message, at_payload}
use Rattle.my_session.specs.Login.{password_answer, switch_answer, IsGreeted, IsSwitched, IsAccepted, IsLoggedIn, IsSettingUp, LoginAwaits, a_greeting, a_decision, an_acceptance, a_set_up, LoginSends, the_response, the_switch_answer, the_set_up}
use Rattle.honest_server.specs.Exchange.{query_payload}
use Rattle.my_session.specs.Statements.{command_payload, IsRun, RunAwaits, an_ok, RunSends, IsLed, LeadAwaits, LeadSends, IsAsked, IsDescribed, QueryAwaits, a_lead, a_count, a_definition, QuerySends, the_lead, the_query}
use Rattle.my_session.specs.declared.peer.Peer.{Peer}
use Rattle.my_session.specs.Wire.{Wire, Hears, Step, commands, answers, hears, Leads, ends, after_command, after_answer, after_message, Takes, after_sent}
use Rattle.my_session.specs.declared.fault.SessionFault.{SessionFault}
use Rattle.my_session.specs.declared.fault.SessionFault.TheVariants.{Link, Refused, Garbled, NotProtocol10, PluginUnsupported, TooLong, StreamTooLong, OutOfMemory}
use Rattle.my_session.specs.declared.limits.TheConstants.{MESSAGE_LIMIT}
use Rattle.wire_forms.specs.Definition.{column_count}
use Rattle.wire_forms.specs.Reading.{Reading, Further, definition, awaited_count, columns_counted, reading_after, further_of}
use Rattle.wire_forms.specs.Reply.{reply_of, refusal_of, is_ok_packet}
use Rattle.wire_forms.specs.ResultSet.{turns_of}
use Rattle.wire_forms.specs.declared.reply.Reply.{Reply}
use Rattle.wire_forms.specs.declared.reply.Reply.TheVariants.{Done, Refused as ReplyRefused, Columns as ColumnsReply}
use Rattle.wire_forms.specs.declared.refusal.Refusal.{Refusal}
use Rattle.statement_forms.specs.Form.{command_form, query_form}
use Rattle.statement_forms.specs.Text.{query_text}
use Rattle.statement_forms.specs.declared.command.Command.{Command}
use Rattle.statement_forms.specs.declared.command.Command.TheVariants.{SetUp}
use Rattle.statement_forms.specs.declared.form.Form.TheVariants.{Connect, Set}
use Rattle.statement_forms.specs.declared.query.Query.{Query}
use Rattle.dumper_cli.specs.Course.{Comes, at_start, commanded, answered, heard, at_message as ends_at_message, at_disorder, at_length, at_limit, EndsWith, awaiting_it, sending_it}
use Rattle.dumper_cli.specs.Run.{SaidFront}
use Rattle.dumper_cli.specs.Stage.{Stage, awaits_greeting, sends_response, awaits_decision, sends_switch_answer, awaits_acceptance, sends_set_up, awaits_set_up, sends_names, commanding, answering, awaiting, doing, stage_after, after_greeting, after_switch, after_decision, after_ok, after_count}
use Rattle.dumper_cli.specs.Words.{Asked}

-- ---- conversations apart

leads_none : (old new : Wire) → Leads [] old new → old ≡ new
leads_none old new ends = refl

leads_command : (payload : List ℕ) (rest : List Step) (old new : Wire) → Leads (commands payload ∷ rest) old new → (length payload ≤ MESSAGE_LIMIT) × Leads rest (after_sent 0 payload old) new
leads_command payload rest old new (after_command short leads) = (short, leads)

leads_answer : (payload : List ℕ) (rest : List Step) (old new : Wire) → Leads (answers payload ∷ rest) old new → (length payload ≤ MESSAGE_LIMIT) × Leads rest (after_sent old.id payload old) new
leads_answer payload rest old new (after_answer short leads) = (short, leads)

-- a message, and the other steps
record First (message : List ℕ) (rest : List Step) (old new : Wire) : Type 0 where
  middle : Wire
  hears : Hears message old middle
  leads : Leads rest middle new

leads_message : (message : List ℕ) (rest : List Step) (old new : Wire) → Leads (hears message ∷ rest) old new → First message rest old new
leads_message message rest old new (after_message {middle = middle} first leads) = record { middle = middle; hears = first; leads = leads }

-- two conversations, one after the other
record Apart (before later_steps : List Step) (old new : Wire) : Type 0 where
  middle : Wire
  first : Leads before old middle
  later : Leads later_steps middle new

apart : (before later_steps : List Step) (old new : Wire) → Leads (before ++ later_steps) old new → Apart before later_steps old new
apart [] later_steps old new leads = record { middle = old; first = ends; later = leads }
apart (commands payload ∷ before) later_steps old new (after_command short leads) =
    let rest = apart before later_steps (after_sent 0 payload old) new leads in
    record { middle = rest.middle; first = after_command short rest.first; later = rest.later }
apart (answers payload ∷ before) later_steps old new (after_answer short leads) =
    let rest = apart before later_steps (after_sent old.id payload old) new leads in
    record { middle = rest.middle; first = after_answer short rest.first; later = rest.later }
apart (hears message ∷ before) later_steps old new (after_message {middle = next} message_heard leads) =
    let rest = apart before later_steps next new leads in
    record { middle = rest.middle; first = after_message message_heard rest.first; later = rest.later }

-- ---- replies

done_by : (zeroes ok full : Bool) (refusal : Option Refusal) (number : Option ℕ) → (if zeroes then (if ok then Some Done else None) else (if full then option_map (λ refusal. ReplyRefused refusal) refusal else option_map (λ count. ColumnsReply count) number)) ≡ Some Done → zeroes ≡ true
done_by true ok full refusal number is = refl
done_by false ok true None number is = absurd (cc)
done_by false ok true (Some refusal) number is = absurd (cc)
done_by false ok false refusal None is = absurd (cc)
done_by false ok false refusal (Some number) is = absurd (cc)

switch_by : (is_request : Bool) (request : Result Switch LoginFault) (found : Switch) → (if is_request then request else Err LoginGarbled) ≡ Ok found → is_request ≡ true
switch_by true request found is = refl
switch_by false request found is = absurd (cc)

both_not : (byte : ℕ) → (byte == 0) ≡ true → (byte == 254) ≡ true → ⊥
both_not byte zeroes is = grind (arith, nat_tests)

-- a switch request is no OK
no_done : (message : List ℕ) (found : Switch) → switch_of message ≡ Ok found → reply_of message ≡ Some Done → ⊥
no_done [] found read is = cc
no_done (byte ∷ bytes) found read is = both_not byte (done_by (byte == 0) (is_ok_packet (byte ∷ bytes)) (byte == 255) (refusal_of (byte ∷ bytes)) (column_count (byte ∷ bytes)) is) (switch_by (byte == 254) (after_request bytes) found read)

switch_goes_on : (place : ℕ) (found : Result Switch LoginFault) → switch_fault 0 found ≡ None → switch_fault place found ≡ None
switch_goes_on place (Ok found) is = refl
switch_goes_on place (Err (NotTen version)) is = absurd (cc)
switch_goes_on place (Err (Unsupported name)) is = absurd (cc)
switch_goes_on place (Err (LoginRefused refusal)) is = absurd (cc)
switch_goes_on place (Err LoginGarbled) is = absurd (cc)

-- a decision at which a session goes on is one whatever its place
decision_goes_on : (place : ℕ) (message : List ℕ) (reply : Option Reply) → decision_fault 0 message reply ≡ None → decision_fault place message reply ≡ None
decision_goes_on place message (Some Done) is = refl
decision_goes_on place message (Some (ReplyRefused refusal)) is = absurd (cc)
decision_goes_on place message (Some (ColumnsReply columns)) is = switch_goes_on place (switch_of message) is
decision_goes_on place message None is = switch_goes_on place (switch_of message) is

switch_turns : (ending : Ending) (message : List ℕ) (reply : Option Reply) (found : Switch) → (reply ≡ Some Done → ⊥) → decision_fault 0 message reply ≡ None → switch_of message ≡ Ok found → after_decision ending message reply ≡ Some (sends_switch_answer found.scramble ending)
switch_turns ending message (Some Done) found not_done goes_on read = absurd (not_done refl)
switch_turns ending message (Some (ReplyRefused refusal)) found not_done goes_on read = absurd (cc)
switch_turns ending message (Some (ColumnsReply columns)) found not_done goes_on read = ap (after_switch ending) read
switch_turns ending message None found not_done goes_on read = ap (after_switch ending) read

-- ---- ends

-- what is the cause of a fault, but for that of the link and want of memory
abbrev pub Cause : Asked → Wire → SessionFault → Type 0
Cause asked start Link = Unit {0}
Cause asked start OutOfMemory = Unit {0}
Cause asked start fault = EndsWith asked start fault

-- a dump ended with this fault, when these messages were sent
pub record Ends (asked : Asked) (start : Wire) (fault : SessionFault) (sent : List (List ℕ)) : Type 0 where
  pub front : SaidFront asked start sent
  pub why : Cause asked start fault

module _ (asked : Asked) (start : Wire) where
  pub caused : (fault : SessionFault) → EndsWith asked start fault → Cause asked start fault
  caused Link why = tt
  caused (Refused form refusal) why = why
  caused (Garbled place) why = why
  caused (NotProtocol10 version) why = why
  caused (PluginUnsupported name) why = why
  caused (TooLong size) why = why
  caused StreamTooLong why = why
  caused OutOfMemory why = tt

  module _ (stage : Stage) (wire new : Wire) (comes : Comes asked start stage wire) where
    front_of : new.sent ≡ wire.sent → SaidFront asked start new.sent
    front_of silent = record { stage = stage; wire = wire; comes = comes; sent_is = silent }

    module _ (awaited : Awaited) (waits : doing asked stage ≡ awaiting awaited) where
      misheard_ends : (fault : SessionFault) → Misheard wire fault new → Ends asked start fault new.sent
      misheard_ends Link misheard = record { front = front_of misheard; why = tt }
      misheard_ends (Refused form refusal) misheard = absurd misheard
      misheard_ends (Garbled place) misheard = record { front = front_of misheard.silent; why = subst (λ (p : ℕ). EndsWith asked start (Garbled p)) (sym misheard.place_is) (awaiting_it comes waits (at_disorder misheard.order)) }
      misheard_ends (NotProtocol10 version) misheard = absurd misheard
      misheard_ends (PluginUnsupported name) misheard = absurd misheard
      misheard_ends (TooLong size) misheard = record { front = front_of misheard.1; why = awaiting_it comes waits (at_length misheard.0) }
      misheard_ends StreamTooLong misheard = record { front = front_of misheard.1; why = awaiting_it comes waits (at_limit misheard.0) }
      misheard_ends OutOfMemory misheard = record { front = front_of misheard; why = tt }

      pub halts_ends : (fault : SessionFault) → Halts awaited wire fault new → Ends asked start fault new.sent
      halts_ends fault (inl why) = record { front = front_of why.heard.sent; why = caused fault (awaiting_it comes waits (ends_at_message why)) }
      halts_ends fault (inr misheard) = misheard_ends fault misheard

    module _ (next : Stage) (payload : List ℕ) (sends : (doing asked stage ≡ commanding payload next) ⊎ (doing asked stage ≡ answering payload next)) where
      pub unsaid_ends : (fault : SessionFault) → Unsaid payload wire fault new → Ends asked start fault new.sent
      unsaid_ends Link unsaid = record { front = front_of unsaid; why = tt }
      unsaid_ends (Refused form refusal) unsaid = absurd unsaid
      unsaid_ends (Garbled place) unsaid = absurd unsaid
      unsaid_ends (NotProtocol10 version) unsaid = absurd unsaid
      unsaid_ends (PluginUnsupported name) unsaid = absurd unsaid
      unsaid_ends (TooLong size) unsaid = record { front = front_of unsaid.2; why = sending_it comes (record { payload = payload; next = next; sends = sends; size_is = unsaid.0; long = unsaid.1 }) refl }
      unsaid_ends StreamTooLong unsaid = absurd unsaid
      unsaid_ends OutOfMemory unsaid = record { front = front_of unsaid; why = tt }

  -- ---- the login

  greeting_heard : (message : List ℕ) (found : Greeting) (new : Wire) → greeting_of message ≡ Ok found → Hears message start new → Comes asked start (sends_response found.scramble found.ends) new
  greeting_heard message found new read first = heard at_start refl first (ap (λ (r : Result Greeting LoginFault). greeting_fault start.place r) read) (ap after_greeting read)

  greeted : (peer : Peer) (steps : List Step) (wire : Wire) → IsGreeted asked.user asked.password peer steps → Leads steps start wire → Comes asked start (awaits_decision peer.ends) wire
  greeted peer steps wire so leads =
      let payload = response asked.user (password_answer asked.password so.found.scramble) so.found.ends in
      let first = leads_message so.message (answers payload ∷ []) start wire (subst (λ (l : List Step). Leads l start wire) so.steps_are leads) in
      let second = leads_answer payload [] first.middle wire first.leads in
      subst (λ (p : Peer). Comes asked start (awaits_decision p.ends) wire) (sym so.peer_is) (subst (λ (w : Wire). Comes asked start (awaits_decision so.found.ends) w) (leads_none (after_sent first.middle.id payload first.middle) wire second.1) (answered (greeting_heard so.message so.found first.middle so.read first.hears) refl second.0))

  switch_heard : (peer : Peer) (before : List Step) (message : List ℕ) (found : Switch) (middle new : Wire) → IsGreeted asked.user asked.password peer before → Leads before start middle → Hears message middle new → fault_at decision 0 message ≡ None → switch_of message ≡ Ok found → Comes asked start (sends_switch_answer found.scramble peer.ends) new
  switch_heard peer before message found middle new so leads first goes_on read =
      heard (greeted peer before middle so leads) refl first (decision_goes_on middle.place message (reply_of message) goes_on) (switch_turns peer.ends message (reply_of message) found (no_done message found read) goes_on read)

  switched : (peer : Peer) (steps : List Step) (wire : Wire) → IsSwitched asked.user asked.password peer steps → Leads steps start wire → Comes asked start (awaits_acceptance peer.ends) wire
  switched peer steps wire so leads =
      let payload = switch_answer (password_answer asked.password so.found.scramble) in
      let parts = apart so.before (hears so.message ∷ answers payload ∷ []) start wire (subst (λ (l : List Step). Leads l start wire) so.steps_are leads) in
      let first = leads_message so.message (answers payload ∷ []) parts.middle wire parts.later in
      let second = leads_answer payload [] first.middle wire first.leads in
      subst (λ (w : Wire). Comes asked start (awaits_acceptance peer.ends) w) (leads_none (after_sent first.middle.id payload first.middle) wire second.1) (answered (switch_heard peer so.before so.message so.found parts.middle first.middle so.greeted parts.first first.hears so.goes_on so.read) refl second.0)

  accepted : (peer : Peer) (steps : List Step) (wire : Wire) → IsAccepted asked.user asked.password peer steps → Leads steps start wire → Comes asked start (sends_set_up peer.ends) wire
  accepted peer steps wire so leads =
      let parts = apart so.before (hears so.message ∷ []) start wire (subst (λ (l : List Step). Leads l start wire) so.steps_are leads) in
      let first = leads_message so.message [] parts.middle wire parts.later in
      let comes : Comes asked start (sends_set_up peer.ends) first.middle = elim so.answered [
        | inl is ↦ heard (greeted peer so.before parts.middle is parts.first) refl first.hears (ap (λ (r : Option Reply). decision_fault parts.middle.place so.message r) so.said_ok) (ap (λ (r : Option Reply). after_decision peer.ends so.message r) so.said_ok)
        | inr is ↦ heard (switched peer so.before parts.middle is parts.first) refl first.hears (ap (λ (r : Option Reply). done_fault Connect parts.middle.place r) so.said_ok) (ap (λ (r : Option Reply). after_ok (sends_set_up peer.ends) r) so.said_ok)
      ] in
      subst (λ (w : Wire). Comes asked start (sends_set_up peer.ends) w) (leads_none first.middle wire first.leads) comes

  set_up_said : (peer : Peer) (before : List Step) (rest : List Step) (wire : Wire) → IsAccepted asked.user asked.password peer before → Leads (before ++ commands (command_payload SetUp) ∷ rest) start wire → (middle : Wire) × Comes asked start (awaits_set_up peer.ends) middle × Leads rest middle wire
  set_up_said peer before rest wire so leads =
      let parts = apart before (commands (command_payload SetUp) ∷ rest) start wire leads in
      let first = leads_command (command_payload SetUp) rest parts.middle wire parts.later in
      (after_sent 0 (command_payload SetUp) parts.middle, commanded (accepted peer before parts.middle so parts.first) refl first.0, first.1)

  pub logged_in : (peer : Peer) (wire : Wire) → Takes (IsLoggedIn asked.user asked.password peer) start wire → Comes asked start (sends_names peer.ends) wire
  logged_in peer wire takes =
      let so : IsLoggedIn asked.user asked.password peer takes.steps = takes.so in
      let parts = set_up_said peer so.before (hears so.message ∷ []) wire so.accepted (subst (λ (l : List Step). Leads l start wire) so.steps_are takes.leads) in
      let first = leads_message so.message [] parts.0 wire parts.2 in
      subst (λ (w : Wire). Comes asked start (sends_names peer.ends) w) (leads_none first.middle wire first.leads) (heard parts.1 refl first.hears (ap (λ (r : Option Reply). done_fault Set parts.0.place r) so.said_ok) (ap (λ (r : Option Reply). after_ok (sends_names peer.ends) r) so.said_ok))

  setting_up : (peer : Peer) (steps : List Step) (wire : Wire) → IsSettingUp asked.user asked.password peer steps → Leads steps start wire → Comes asked start (awaits_set_up peer.ends) wire
  setting_up peer steps wire so leads =
      let parts = set_up_said peer so.before [] wire so.accepted (subst (λ (l : List Step). Leads l start wire) so.steps_are leads) in
      subst (λ (w : Wire). Comes asked start (awaits_set_up peer.ends) w) (leads_none parts.0 wire parts.2) parts.1

  halt_at_login : (steps : List Step) (awaited : Awaited) (middle new : Wire) (fault : SessionFault) → LoginAwaits asked.user asked.password steps awaited → Leads steps start middle → Halts awaited middle fault new → Ends asked start fault new.sent
  halt_at_login steps awaited middle new fault (a_greeting is) leads halts =
      halts_ends awaits_greeting middle new (subst (λ (w : Wire). Comes asked start awaits_greeting w) (leads_none start middle (subst (λ (l : List Step). Leads l start middle) is leads)) at_start) greeting refl fault halts
  halt_at_login steps awaited middle new fault (a_decision {peer = peer} so) leads halts = halts_ends (awaits_decision peer.ends) middle new (greeted peer steps middle so leads) decision refl fault halts
  halt_at_login steps awaited middle new fault (an_acceptance {peer = peer} so) leads halts = halts_ends (awaits_acceptance peer.ends) middle new (switched peer steps middle so leads) (done Connect) refl fault halts
  halt_at_login steps awaited middle new fault (a_set_up {peer = peer} so) leads halts = halts_ends (awaits_set_up peer.ends) middle new (setting_up peer steps middle so leads) (done Set) refl fault halts

  unsaid_at_login : (steps : List Step) (payload : List ℕ) (middle new : Wire) (fault : SessionFault) → LoginSends asked.user asked.password steps payload → Leads steps start middle → Unsaid payload middle fault new → Ends asked start fault new.sent
  unsaid_at_login steps payload middle new fault (the_response so) leads unsaid =
      let own = response asked.user (password_answer asked.password so.found.scramble) so.found.ends in
      let first = leads_message so.message [] start middle (subst (λ (l : List Step). Leads l start middle) so.steps_are leads) in
      let comes = subst (λ (w : Wire). Comes asked start (sends_response so.found.scramble so.found.ends) w) (leads_none first.middle middle first.leads) (greeting_heard so.message so.found first.middle so.read first.hears) in
      unsaid_ends (sends_response so.found.scramble so.found.ends) middle new comes (awaits_decision so.found.ends) own (inr refl) fault (subst (λ (p : List ℕ). Unsaid p middle fault new) so.payload_is unsaid)
  unsaid_at_login steps payload middle new fault (the_switch_answer so) leads unsaid =
      let own = switch_answer (password_answer asked.password so.found.scramble) in
      let parts = apart so.before (hears so.message ∷ []) start middle (subst (λ (l : List Step). Leads l start middle) so.steps_are leads) in
      let first = leads_message so.message [] parts.middle middle parts.later in
      let comes = subst (λ (w : Wire). Comes asked start (sends_switch_answer so.found.scramble so.peer.ends) w) (leads_none first.middle middle first.leads) (switch_heard so.peer so.before so.message so.found parts.middle first.middle so.greeted parts.first first.hears so.goes_on so.read) in
      unsaid_ends (sends_switch_answer so.found.scramble so.peer.ends) middle new comes (awaits_acceptance so.peer.ends) own (inr refl) fault (subst (λ (p : List ℕ). Unsaid p middle fault new) so.payload_is unsaid)
  unsaid_at_login steps payload middle new fault (the_set_up {peer = peer} so is) leads unsaid =
      unsaid_ends (sends_set_up peer.ends) middle new (accepted peer steps middle so leads) (awaits_set_up peer.ends) (command_payload SetUp) (inl refl) fault (subst (λ (p : List ℕ). Unsaid p middle fault new) is unsaid)

  pub login_ends : (new : Wire) (fault : SessionFault) → Stops (LoginAwaits asked.user asked.password) (LoginSends asked.user asked.password) start fault new → Ends asked start fault new.sent
  login_ends new fault (at_message {steps = steps} {awaited = awaited} {middle = middle} awaits leads halts) = halt_at_login steps awaited middle new fault awaits leads halts
  login_ends new fault (at_payload {steps = steps} {payload = payload} {middle = middle} sends leads unsaid) = unsaid_at_login steps payload middle new fault sends leads unsaid

  -- ---- a command

  module _ (command : Command) (stage next final : Stage) (sends : doing asked stage ≡ commanding (command_payload command) next) (waits : doing asked next ≡ awaiting (done (command_form command))) (turns : (message : List ℕ) → stage_after next message ≡ after_ok final (reply_of message)) (old new : Wire) (comes : Comes asked start stage old) where
    pub ran : Takes (IsRun command) old new → Comes asked start final new
    ran takes =
        let so : IsRun command takes.steps = takes.so in
        let first = leads_command (command_payload command) (hears so.message ∷ []) old new (subst (λ (l : List Step). Leads l old new) so.steps_are takes.leads) in
        let second = leads_message so.message [] (after_sent 0 (command_payload command) old) new first.1 in
        subst (λ (w : Wire). Comes asked start final w) (leads_none second.middle new second.leads)
        (heard (commanded comes sends first.0) waits second.hears (ap (λ (r : Option Reply). done_fault (command_form command) old.place r) so.said_ok) (turns so.message ∙ ap (λ (r : Option Reply). after_ok final r) so.said_ok))

    halt_at_run : (steps : List Step) (awaited : Awaited) (middle : Wire) (fault : SessionFault) → RunAwaits command steps awaited → Leads steps old middle → Halts awaited middle fault new → Ends asked start fault new.sent
    halt_at_run steps awaited middle fault (an_ok is) leads halts =
        let first = leads_command (command_payload command) [] old middle (subst (λ (l : List Step). Leads l old middle) is leads) in
        halts_ends next middle new (subst (λ (w : Wire). Comes asked start next w) (leads_none (after_sent 0 (command_payload command) old) middle first.1) (commanded comes sends first.0)) (done (command_form command)) waits fault halts

    pub run_ends : (fault : SessionFault) → Stops (RunAwaits command) (RunSends command) old fault new → Ends asked start fault new.sent
    run_ends fault (at_message {steps = steps} {awaited = awaited} {middle = middle} awaits leads halts) = halt_at_run steps awaited middle fault awaits leads halts
    run_ends fault (at_payload {steps = steps} {payload = payload} {middle = middle} so leads unsaid) =
        let same = leads_none old middle (subst (λ (l : List Step). Leads l old middle) so.steps_are leads) in
        unsaid_ends stage middle new (subst (λ (w : Wire). Comes asked start stage w) same comes) next (command_payload command) (inl sends) fault (subst (λ (p : List ℕ). Unsaid p middle fault new) so.payload_is unsaid)

  -- ---- a query that no USE leads

  module _ (ending : Ending) (query : Query) (stage next : Stage) (final : Reading → Stage) (sends : doing asked stage ≡ commanding (query_payload (query_text query)) next) (waits : doing asked next ≡ awaiting (count (query_form query))) (turns : (message : List ℕ) → stage_after next message ≡ after_count ending final (reply_of message))
      (waits_on : (reading : Reading) → doing asked (final reading) ≡ awaiting (further (query_form query) reading)) (turns_on : (reading : Reading) (message : List ℕ) → further_of reading message ≡ definition → stage_after (final reading) message ≡ Some (final (reading_after reading definition)))
      (led : (steps : List Step) → IsLed query steps → steps ≡ []) (none_awaited : (steps : List Step) (awaited : Awaited) → LeadAwaits query steps awaited → ⊥) (none_sent : (steps : List Step) (payload : List ℕ) → LeadSends query steps payload → ⊥) (old new : Wire) (comes : Comes asked start stage old) where
    asked_so : (steps rest : List Step) (wire : Wire) → IsAsked query steps → Leads (steps ++ rest) old wire → (middle : Wire) × Comes asked start next middle × Leads rest middle wire
    asked_so steps rest wire so leads =
        let own : steps ≡ commands (query_payload (query_text query)) ∷ [] = so.steps_are ∙ ap (λ (l : List Step). l ++ commands (query_payload (query_text query)) ∷ []) (led so.before so.led) in
        let first = leads_command (query_payload (query_text query)) rest old wire (subst (λ (l : List Step). Leads (l ++ rest) old wire) own leads) in
        (after_sent 0 (query_payload (query_text query)) old, commanded comes sends first.0, first.1)

    first_more : (reading : Reading) (message : List ℕ) (others : List (List ℕ)) → turns_of reading (message ∷ others) ≡ replicate (length (message ∷ others)) definition → (further_of reading message ≡ definition) × (turns_of (record reading { awaited = reading.awaited - 1 }) others ≡ replicate (length others) definition)
    first_more reading message others is =
        let first : further_of reading message ≡ definition = cc in
        let later : turns_of (reading_after reading (further_of reading message)) others ≡ replicate (length others) definition = cc in
        (first, ap (λ (f : Further). turns_of (reading_after reading f) others) (sym first) ∙ later)

    walked : (others : List (List ℕ)) (reading : Reading) (middle wire : Wire) → turns_of reading others ≡ replicate (length others) definition → Leads (map (λ message. hears message) others) middle wire → Comes asked start (final reading) middle → Comes asked start (final (record reading { awaited = reading.awaited - length others })) wire
    walked [] reading middle wire is leads so =
        let same : reading.awaited ≡ reading.awaited - length {A = List ℕ} [] = omega arith in
        subst (λ (n : ℕ). Comes asked start (final (record reading { awaited = n })) wire) same (subst (λ (w : Wire). Comes asked start (final reading) w) (leads_none middle wire leads) so)
    walked (message ∷ others) reading middle wire is leads so =
        let one = first_more reading message others is in
        let first = leads_message message (map (λ message. hears message) others) middle wire leads in
        let there = heard so (waits_on reading) first.hears (ap (λ (f : Further). further_fault (query_form query) middle.place f) one.0) (turns_on reading message one.0) in
        let later = walked others (record reading { awaited = reading.awaited - 1 }) first.middle wire one.1 first.leads there in
        let left : reading.awaited - 1 - length others ≡ reading.awaited - suc (length others) = omega arith in
        subst (λ (n : ℕ). Comes asked start (final (record reading { awaited = n })) wire) left later

    pub described : (steps : List Step) (reading : Reading) (wire : Wire) → reading.ends ≡ ending → IsDescribed query steps reading → Leads steps old wire → Comes asked start (final reading) wire
    described steps reading wire same so leads =
        let parts = asked_so so.before (hears so.first ∷ map (λ message. hears message) so.others) wire so.asked (subst (λ (l : List Step). Leads l old wire) so.steps_are leads) in
        let first = leads_message so.first (map (λ message. hears message) so.others) parts.0 wire parts.2 in
        let there = heard parts.1 waits first.hears (ap (λ (r : Option Reply). count_fault (query_form query) parts.0.place r) so.reply) (turns so.first ∙ ap (λ (r : Option Reply). after_count ending final r) so.reply) in
        let turned : turns_of (columns_counted ending so.columns) so.others ≡ replicate (length so.others) definition = subst (λ (e : Ending). turns_of (columns_counted e so.columns) so.others ≡ replicate (length so.others) definition) same so.turns in
        let is : reading ≡ record { columns = so.columns; awaited = awaited_count ending so.columns - length so.others; ends = ending } = so.reading_is ∙ ap (λ (e : Ending). let r : Reading = record { columns = so.columns; awaited = awaited_count e so.columns - length so.others; ends = e } in r) same in
        subst (λ (r : Reading). Comes asked start (final r) wire) (sym is) (walked so.others (columns_counted ending so.columns) first.middle wire turned first.leads there)

    counting : (steps : List Step) (wire : Wire) → IsAsked query steps → Leads steps old wire → Comes asked start next wire
    counting steps wire so leads =
        let own : steps ≡ commands (query_payload (query_text query)) ∷ [] = so.steps_are ∙ ap (λ (l : List Step). l ++ commands (query_payload (query_text query)) ∷ []) (led so.before so.led) in
        let first = leads_command (query_payload (query_text query)) [] old wire (subst (λ (l : List Step). Leads l old wire) own leads) in
        subst (λ (w : Wire). Comes asked start next w) (leads_none (after_sent 0 (query_payload (query_text query)) old) wire first.1) (commanded comes sends first.0)

    halt_at_query : (steps : List Step) (awaited : Awaited) (middle : Wire) (fault : SessionFault) → QueryAwaits ending query steps awaited → Leads steps old middle → Halts awaited middle fault new → Ends asked start fault new.sent
    halt_at_query steps awaited middle fault (a_lead lead) leads halts = absurd (none_awaited steps awaited lead)
    halt_at_query steps awaited middle fault (a_count so) leads halts = halts_ends next middle new (counting steps middle so leads) (count (query_form query)) waits fault halts
    halt_at_query steps awaited middle fault (a_definition {reading = reading} same so) leads halts = halts_ends (final reading) middle new (described steps reading middle same so leads) (further (query_form query) reading) (waits_on reading) fault halts

    unsaid_at_query : (steps : List Step) (payload : List ℕ) (middle : Wire) (fault : SessionFault) → QuerySends query steps payload → Leads steps old middle → Unsaid payload middle fault new → Ends asked start fault new.sent
    unsaid_at_query steps payload middle fault (the_lead lead) leads unsaid = absurd (none_sent steps payload lead)
    unsaid_at_query steps payload middle fault (the_query so is) leads unsaid =
        let same = leads_none old middle (subst (λ (l : List Step). Leads l old middle) (led steps so) leads) in
        unsaid_ends stage middle new (subst (λ (w : Wire). Comes asked start stage w) same comes) next (query_payload (query_text query)) (inl sends) fault (subst (λ (p : List ℕ). Unsaid p middle fault new) is unsaid)

    pub query_ends : (fault : SessionFault) → Stops (QueryAwaits ending query) (QuerySends query) old fault new → Ends asked start fault new.sent
    query_ends fault (at_message {steps = steps} {awaited = awaited} {middle = middle} awaits leads halts) = halt_at_query steps awaited middle fault awaits leads halts
    query_ends fault (at_payload {steps = steps} {payload = payload} {middle = middle} so leads unsaid) = unsaid_at_query steps payload middle fault so leads unsaid
