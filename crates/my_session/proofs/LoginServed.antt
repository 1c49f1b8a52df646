-- What logging in does over an honest server.
use Rattle.std.proofs.Common.{◌≡◌, ◌⊎◌, ℕ, false, List, [], ◌∷◌, ◌++◌, sym, ◌∙◌, ap, subst, inl, inr, Some, Result, Ok, Err, OnOk}
use Rattle.std.specs.Prelude.{IfOk, MatchResult}
use Rattle.std.proofs.lemmas.List.{append-nil}
use Rattle.honest_server.specs.Exchange.{Exchanges, CommitsAlone, IsLoggingIn, packets_from}
use Rattle.honest_server.specs.Link.{ServedLink}
use Rattle.honest_server.specs.Moves.{Way, plainly}
use Rattle.honest_server.specs.State.{State, Phase, switching, in_session}
use Rattle.link_traits.specs.declared.link.Link.{Ghosts}
use Rattle.my_packets.proofs.Fronts.{same_packets}
use Rattle.wire_forms.specs.Greeting.{greeting_of}
use Rattle.wire_forms.specs.Packet.{packets}
use Rattle.wire_forms.specs.Reply.{reply_of}
use Rattle.wire_forms.specs.Switch.{switch_of}
use Rattle.wire_forms.specs.declared.greeting.Greeting.{Greeting}
use Rattle.wire_forms.specs.declared.login_fault.LoginFault.{LoginFault}
use Rattle.wire_forms.specs.declared.reply.Reply.TheVariants.{Done}
use Rattle.wire_forms.specs.declared.switch.Switch.{Switch}
use Rattle.statement_forms.specs.declared.command.Command.TheVariants.{SetUp}
use Rattle.statement_forms.specs.declared.form.Form.TheVariants.{Connect}
use Rattle.statement_forms.specs.declared.statement.Statement.TheVariants.{Command as SomeCommand}
use Rattle.my_session.proofs.Decisions.{login_answer, decided_done, decided_switch, decided_fault, switched_fault}
use Rattle.my_session.specs.Awaited.{decision_fault, done_fault}
use Rattle.my_session.specs.Channel.{ChannelView, HearsNothing}
use Rattle.my_session.specs.Heard.{IsDecision}
use Rattle.my_session.specs.InStep.{Decides, takes, asks, turns_away, phase_after, IsMissed, IsQuiet, DecisionWaits, HasDecision, GreetingWaits, FailsReply, ServesDone, FailsDecision, HearsDecided, AcceptsServed, MissesOnly}
use Rattle.my_session.specs.Served.{FailsLogin, FailsStatement, IsLeftAtLogin, LeavesUnsaid, LogsInServed, RunsServed, at_connect, at_set_up, in_login, logged_in, turned_away}
use Rattle.my_session.specs.Serving.{IsServing, IsUnheard, Stays, MessageWaits, Delivers, Replied}
use Rattle.my_session.specs.Session.{LinkAt}
use Rattle.my_session.specs.declared.fault.SessionFault.{SessionFault}
use Rattle.my_session.specs.declared.fault.SessionFault.TheVariants.{Link, Refused, Garbled, NotProtocol10, PluginUnsupported, TooLong, StreamTooLong, OutOfMemory}
use Rattle.my_session.specs.declared.login.Decision.{Decision}
use Rattle.my_session.specs.declared.login.Decision.TheVariants.{Accepted, Switched}

-- ---- what is left of a login that stopped

phase_left : (start new : State) (phase : Phase) → new ≡ record start { phase = phase } → IsLeftAtLogin start new
phase_left start new phase is = in_login (is ∙ ap (λ (p : Phase). record start { phase = p }) (sym (ap (λ (s : State). s.phase) is)))

same_left : (start new : State) → new ≡ start → IsLeftAtLogin start new
same_left start new is = phase_left start new start.phase is

decided_left : (start new : State) (message : List ℕ) → Decides start message new → IsLeftAtLogin start new
decided_left start new message (takes says new_is) = phase_left start new in_session new_is
decided_left start new message (asks phase request new_is) = phase_left start new switching new_is
decided_left start new message (turns_away refusal says turns) = turned_away refusal turns

-- a fault at which nothing was heard leaves what was sent before
missed_fails : (start new : State) (fault : SessionFault) → IsMissed fault → IsLeftAtLogin start new → FailsLogin start fault new
missed_fails start new Link missed left = left
missed_fails start new (Refused form refusal) missed left = absurd missed
missed_fails start new (Garbled place) missed left = absurd missed
missed_fails start new (NotProtocol10 version) missed left = absurd missed
missed_fails start new (PluginUnsupported name) missed left = absurd missed
missed_fails start new (TooLong size) missed left = left
missed_fails start new StreamTooLong missed left = left
missed_fails start new OutOfMemory missed left = left

unheard_missed : (message : List ℕ) (place : ℕ) (fault : SessionFault) → IsUnheard message place fault → IsMissed fault
unheard_missed message place Link unheard = tt
unheard_missed message place (Refused form refusal) unheard = unheard
unheard_missed message place (Garbled at) unheard = unheard
unheard_missed message place (NotProtocol10 version) unheard = unheard
unheard_missed message place (PluginUnsupported name) unheard = unheard
unheard_missed message place (TooLong size) unheard = tt
unheard_missed message place StreamTooLong unheard = tt
unheard_missed message place OutOfMemory unheard = tt

pub missed_at_start : (start new : State) (fault : SessionFault) → new ≡ start → IsMissed fault → FailsLogin start fault new
missed_at_start start new fault same missed = missed_fails start new fault missed (same_left start new same)

-- a payload of a login that wasn't sent was handled, or nothing has changed
left_by : (state new : State) (message : List ℕ) → IsLoggingIn state.phase → ((reply : List ℕ) × Exchanges plainly state message reply new) ⊎ (CommitsAlone state message new ⊎ (new ≡ state)) → IsLeftAtLogin state new
left_by state new message here (inl handled) =
    let answer = login_answer plainly state handled.1.payload handled.1.messages new here handled.1.replies in
    decided_left state new answer.message answer.decides
left_by state new message here (inr (inl alone)) = absurd (subst (λ (p : Phase). IsLoggingIn p) alone.is_open here)
left_by state new message here (inr (inr same)) = same_left state new same

unsaid_fails : (message : List ℕ) (old new : ServedLink) (fault : SessionFault) → IsLoggingIn old.state.phase → old.failed ≡ false → LeavesUnsaid plainly message old fault new → FailsLogin old.state fault new.state
unsaid_fails message old new Link here alive left = left_by old.state new.state message here (left alive).left
unsaid_fails message old new (Refused form refusal) here alive left = absurd left
unsaid_fails message old new (Garbled place) here alive left = absurd left
unsaid_fails message old new (NotProtocol10 version) here alive left = absurd left
unsaid_fails message old new (PluginUnsupported name) here alive left = absurd left
unsaid_fails message old new (TooLong size) here alive left = same_left old.state new.state (ap (λ (l : ServedLink). l.state) left)
unsaid_fails message old new StreamTooLong here alive left = absurd left
unsaid_fails message old new OutOfMemory here alive left = same_left old.state new.state (ap (λ (l : ServedLink). l.state) left)

-- ---- what a login that was asked to switch leaves is what the login leaves

switch_left : (start new : State) → IsLeftAtLogin (record start { phase = switching }) new → IsLeftAtLogin start new
switch_left start new (in_login is) = in_login is
switch_left start new (turned_away refusal turns) = turned_away refusal record { unwilling = turns.unwilling; new_is = turns.new_is }
switch_left start new (at_set_up left) = at_set_up left

switch_fails : (start new : State) (fault : SessionFault) → FailsLogin (record start { phase = switching }) fault new → FailsLogin start fault new
switch_fails start new Link fails = switch_left start new fails
switch_fails start new (Refused form refusal) (at_connect is turns) = at_connect is record { unwilling = turns.unwilling; new_is = turns.new_is }
switch_fails start new (Refused form refusal) (at_set_up gives) = at_set_up gives
switch_fails start new (Garbled place) fails = fails
switch_fails start new (NotProtocol10 version) fails = fails
switch_fails start new (PluginUnsupported name) fails = record { other = fails.other; name_is = fails.name_is; new_is = fails.new_is }
switch_fails start new (TooLong size) fails = switch_left start new fails
switch_fails start new StreamTooLong fails = switch_left start new fails
switch_fails start new OutOfMemory fails = switch_left start new fails

-- ---- the set-up statement

set_up_fails : (start new : State) (fault : SessionFault) → FailsStatement plainly (logged_in start) (SomeCommand SetUp) fault new → FailsLogin start fault new
set_up_fails start new Link fails = at_set_up fails
set_up_fails start new (Refused form refusal) fails = at_set_up fails
set_up_fails start new (Garbled place) fails = fails
set_up_fails start new (NotProtocol10 version) fails = fails
set_up_fails start new (PluginUnsupported name) fails = absurd fails
set_up_fails start new (TooLong size) fails = at_set_up fails
set_up_fails start new StreamTooLong fails = at_set_up fails
set_up_fails start new OutOfMemory fails = at_set_up fails

pub set_up_served : (start middle new : State) (result : Result (Unit {0}) SessionFault) → middle ≡ logged_in start → RunsServed plainly middle SetUp result new → LogsInServed start result new
set_up_served start middle new (Ok finished) is runs = subst (λ (s : State). RunsServed plainly s SetUp (Ok finished) new) is runs
set_up_served start middle new (Err fault) is runs = set_up_fails start new fault (subst (λ (s : State). RunsServed plainly s SetUp (Err fault) new) is runs)

-- ---- the one message that waits is the one that is heard

heard_one : (id : ℕ) (message first waiting now : List ℕ) → waiting ≡ packets id message ++ now → waiting ≡ packets_from id (first ∷ []) → (message ≡ first) × (now ≡ [])
heard_one id message first waiting now gives waits = same_packets id message first now [] (sym gives ∙ waits)

ok_no_err : (read : Result Greeting LoginFault) (found : Greeting) (fault : LoginFault) → read ≡ Ok found → read ≡ Err fault → ⊥
ok_no_err read found fault is too = cc

module _ {L : Type 0} (of : Ghosts L) where
  -- ---- the answer to a login that was sent

  pub decision_comes : (start : State) (link : L) (id : ℕ) → DecisionWaits of start link id → MessageWaits id (of.served link).waiting
  decision_comes start link id decision = record { message = decision.message; after = []; waits = decision.waits }

  pub said_login : (way : Way) (phase : Phase) (payload : List ℕ) (old new : L) (id : ℕ) → IsLoggingIn phase → IsQuiet of phase old → Replied of way payload old new id → DecisionWaits of (of.served old).state new id
  said_login way phase payload old new id logging quiet replied =
      let told = login_answer way (of.served old).state payload replied.messages (of.served new).state (subst (λ (p : Phase). IsLoggingIn p) (sym quiet.phase_is) logging) replied.replies in
      record {
        alive = replied.alive;
        message = told.message;
        decides = told.decides;
        waits = replied.waits ∙ ap (λ (l : List ℕ). l ++ packets_from id replied.messages) quiet.none ∙ ap (λ (l : List (List ℕ)). packets_from id l) told.messages_are;
      }

  pub unsaid_login : (phase : Phase) (message : List ℕ) (old new : L) (fault : SessionFault) → IsLoggingIn phase → IsQuiet of phase old → LeavesUnsaid plainly message (of.served old) fault (of.served new) → FailsDecision of (of.served old).state new fault
  unsaid_login phase message old new fault logging quiet left =
      unsaid_fails message (of.served old) (of.served new) fault (subst (λ (p : Phase). IsLoggingIn p) (sym quiet.phase_is) logging) quiet.alive left

  pub decision_from : (start middle : State) (link : L) (id : ℕ) → middle ≡ start → DecisionWaits of middle link id → DecisionWaits of start link id
  decision_from start middle link id is waits = subst (λ (s : State). DecisionWaits of s link id) is waits

  pub fails_from : (start middle : State) (new : L) (fault : SessionFault) → middle ≡ start → FailsDecision of middle new fault → FailsDecision of start new fault
  fails_from start middle new fault is fails = subst (λ (s : State). FailsLogin s fault (of.served new).state) is fails

  -- ---- the answer to a login that is heard

  module _ (start : State) (old new : L) (id now : ℕ) (message : List ℕ) (waits : DecisionWaits of start old id) (delivers : Delivers of message old id new now) where
    decided_now : Decides start message (of.served new).state
    decided_now =
        let one = heard_one id message waits.message (of.served old).waiting (of.served new).waiting delivers.gives.waits waits.waits in
        subst (λ (s : State). Decides start message s) (sym delivers.gives.state)
        (subst (λ (l : List ℕ). Decides start l (of.served old).state) (sym one.0) waits.decides)

    quiet_now : (phase : Phase) → (of.served new).state.phase ≡ phase → IsQuiet of phase new
    quiet_now phase is = record {
      alive = delivers.gives.alive;
      phase_is = is;
      none = (heard_one id message waits.message (of.served old).waiting (of.served new).waiting delivers.gives.waits waits.waits).1;
    }

    heard_accepted : reply_of message ≡ Some Done → IsQuiet of in_session new
    heard_accepted is = quiet_now in_session (ap (λ (s : State). s.phase) (decided_done start (of.served new).state message decided_now is))

    heard_switch : (found : Switch) → switch_of message ≡ Ok found → IsQuiet of switching new
    heard_switch found is = quiet_now switching (ap (λ (s : State). s.phase) (decided_switch start (of.served new).state message found decided_now is))

    pub decision_served : (place : ℕ) (payload : List ℕ) (result : Result Decision SessionFault) → payload ≡ message → MatchResult result (λ found. IsDecision found payload) (λ fault. decision_fault place payload (reply_of payload) ≡ Some fault) → HearsDecided of start result new
    decision_served place payload (Ok Accepted) is judged = decided_done start (of.served new).state message decided_now (ap (λ (l : List ℕ). reply_of l) (sym is) ∙ judged)
    decision_served place payload (Ok (Switched found)) is judged = decided_switch start (of.served new).state message found decided_now (ap (λ (l : List ℕ). switch_of l) (sym is) ∙ judged.1)
    decision_served place payload (Err fault) is judged = decided_fault start (of.served new).state place message fault decided_now (ap (λ (l : List ℕ). decision_fault place l (reply_of l)) (sym is) ∙ judged)

  pub decision_missed : (start : State) (old new : LinkAt L) (fault : SessionFault) → DecisionWaits of start old.link old.id → HearsNothing of old new fault → FailsDecision of start new.link fault
  decision_missed start old new fault waits nothing =
      missed_fails start (of.served new.link).state fault
      (unheard_missed waits.message old.place fault (nothing.unheard waits.message [] waits.waits))
      (decided_left start (of.served new.link).state waits.message (subst (λ (s : State). Decides start waits.message s) (sym nothing.state) waits.decides))

  -- what hearing it leaves
  pub decision_heard : (old : ChannelView L) (new : L) (now : ℕ) (message payload : List ℕ) (Not : SessionFault → Type 0) (result : Result Decision SessionFault) → Stays of old.link new → (of.honest old.link → HasDecision of old) → (IsServing of old.link → Delivers of message old.link old.id new now) → payload ≡ message → MatchResult result (λ found. IsDecision found payload) Not → IfOk result (λ found. of.honest new → IsQuiet of (phase_after found) new)
  decision_heard old new now message payload Not (Ok Accepted) stays waits hears is judged = λ h.
      let before = waits (stays.honest.1 h) in
      heard_accepted before.start old.link new old.id now message before.waits (hears (record { honest = stays.honest.1 h; alive = before.waits.alive })) (ap (λ (l : List ℕ). reply_of l) (sym is) ∙ judged)
  decision_heard old new now message payload Not (Ok (Switched found)) stays waits hears is judged = λ h.
      let before = waits (stays.honest.1 h) in
      heard_switch before.start old.link new old.id now message before.waits (hears (record { honest = stays.honest.1 h; alive = before.waits.alive })) found (ap (λ (l : List ℕ). switch_of l) (sym is) ∙ judged.1)
  decision_heard old new now message payload Not (Err fault) stays waits hears is judged = tt

  -- ---- the answer over another scramble

  pub acceptance_heard : (start : State) (old new : ChannelView L) (result : Result (Unit {0}) SessionFault) → Stays of old.link new.link → (of.honest old.link → DecisionWaits of start old.link old.id) → ServesDone of Connect old result new → OnOk result (of.honest new.link → IsQuiet of in_session new.link)
  acceptance_heard start old new (Ok finished) stays waits hears = λ h.
      let before = waits (stays.honest.1 h) in
      let told = hears (record { honest = stays.honest.1 h; alive = before.alive }) in
      heard_accepted start old.link new.link old.id new.id told.message before told.delivers told.reply_is
  acceptance_heard start old new (Err fault) stays waits hears = tt

  acceptance_fails : (start : State) (old new : ChannelView L) (fault : SessionFault) → start.phase ≡ switching → DecisionWaits of start old.link old.id → FailsReply of (done_fault Connect) old new fault → FailsDecision of start new.link fault
  acceptance_fails start old new fault here waits (inl answers) =
      let told = answers.delivers in
      switched_fault start (of.served new.link).state old.place told.message answers.reply fault here
      (decided_now start old.link new.link old.id new.id told.message waits told.delivers) told.reply_is answers.fault_is
  acceptance_fails start old new fault here waits (inr nothing) = decision_missed start _ _ fault waits nothing

  pub acceptance_served : (start : State) (old new : ChannelView L) (result : Result (Unit {0}) SessionFault) → start.phase ≡ switching → of.honest old.link → DecisionWaits of start old.link old.id → ServesDone of Connect old result new → AcceptsServed of start result new.link
  acceptance_served start old new (Ok finished) here h waits hears =
      let told = hears (record { honest = h; alive = waits.alive }) in
      decided_done start (of.served new.link).state told.message (decided_now start old.link new.link old.id new.id told.message waits told.delivers) told.reply_is
  acceptance_served start old new (Err fault) here h waits hears =
      acceptance_fails start old new fault here waits (hears (record { honest = h; alive = waits.alive }))

  pub after_switch : (start middle : State) (new : L) (result : Result (Unit {0}) SessionFault) → middle ≡ record start { phase = switching } → AcceptsServed of middle result new → AcceptsServed of start result new
  after_switch start middle new (Ok finished) is served = served ∙ ap (λ (s : State). logged_in s) is
  after_switch start middle new (Err fault) is served = switch_fails start (of.served new).state fault (subst (λ (s : State). FailsLogin s fault (of.served new).state) is served)

  -- ---- the greeting

  greeting_first : (link : L) (id : ℕ) (waits : GreetingWaits of link) → id ≡ 0 → (of.served link).waiting ≡ packets id waits.greeting ++ []
  greeting_first link id waits first_id = waits.waits ∙ ap (λ (n : ℕ). packets n waits.greeting) (sym first_id) ∙ sym (append-nil (packets id waits.greeting))

  pub greeting_missed : (old new : LinkAt L) (fault : SessionFault) → old.id ≡ 0 → GreetingWaits of old.link → HearsNothing of old new fault → MissesOnly of {A = Greeting} old.link (Err fault) new.link
  greeting_missed old new fault first_id waits nothing = record {
    state = nothing.state;
    missed = unheard_missed waits.greeting old.place fault (nothing.unheard waits.greeting [] (greeting_first old.link old.id waits first_id));
  }

  pub greeting_kept : (old new : L) (id now : ℕ) (message : List ℕ) (found : Greeting) → Delivers of message old id new now → MissesOnly of old (Ok found) new
  greeting_kept old new id now message found delivers = record { state = delivers.gives.state; missed = tt }

  pub greeting_read : (old new : L) (id now : ℕ) (message payload : List ℕ) (fault : LoginFault) → id ≡ 0 → GreetingWaits of old → Delivers of message old id new now → payload ≡ message → greeting_of payload ≡ Err fault → ⊥
  greeting_read old new id now message payload fault first_id waits delivers is read =
      let one = heard_one id message waits.greeting (of.served old).waiting (of.served new).waiting delivers.gives.waits (greeting_first old id waits first_id) in
      ok_no_err (greeting_of payload) waits.greets.found fault (ap (λ (l : List ℕ). greeting_of l) (is ∙ one.0) ∙ waits.greets.says) read
