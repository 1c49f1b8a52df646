-- How a login goes on from one stage to the next.
use Rattle.std.proofs.Common.{◌≡◌, ◌≤◌, ◌↔◌, ℕ, false, List, [], ◌∷◌, ◌++◌, refl, sym, ◌∙◌, ap, subst, inl, inr, append_assoc, Option, Some, None, Result, Ok, Err}
use Rattle.std.specs.Prelude.{MatchResult}
use Rattle.std.proofs.lemmas.List.{append-nil}
use Rattle.link_traits.specs.declared.link.Link.{Ghosts}
use Rattle.wire_forms.specs.Response.{response}
use Rattle.wire_forms.specs.declared.greeting.Greeting.{Greeting}
use Rattle.wire_forms.specs.declared.switch.Switch.{Switch}
use Rattle.wire_forms.specs.Switch.{switch_of}
use Rattle.wire_forms.specs.declared.login_fault.LoginFault.{LoginFault}
use Rattle.wire_forms.specs.declared.login_fault.LoginFault.TheVariants.{NotProtocol10 as NotTen, PluginUnsupported as Unsupported, Refused as LoginRefused, Garbled as LoginGarbled}
use Rattle.wire_forms.specs.Reply.{reply_of}
use Rattle.wire_forms.specs.declared.reply.Reply.{Reply}
use Rattle.wire_forms.specs.declared.reply.Reply.TheVariants.{Done, Refused as IsRefused, Columns}
use Rattle.statement_forms.specs.declared.command.Command.TheVariants.{SetUp}
use Rattle.statement_forms.specs.declared.form.Form.TheVariants.{Connect}
use Rattle.my_session.proofs.Running.{leads_on, leads_answered, leads_heard}
use Rattle.my_session.specs.Awaited.{greeting, decision, done, decision_fault, switch_fault}
use Rattle.my_session.specs.Channel.{ChannelView, channel_wire}
use Rattle.my_session.specs.Halt.{Halts, Unsaid, Stops, at_message, at_payload}
use Rattle.my_session.specs.Peer.{peer_of}
use Rattle.my_session.specs.Heard.{HearsReply, HearsGreeting, HearsDecision, IsAskedToSwitch}
use Rattle.my_session.specs.Login.{password_answer, switch_answer, IsGreeted, IsSwitched, IsAccepted, IsLoggedIn, LoginAwaits, a_greeting, a_decision, an_acceptance, a_set_up, LoginSends, the_response, the_switch_answer, the_set_up}
use Rattle.my_session.specs.Session.{IsCounted, LoginStopped, fresh}
use Rattle.my_session.specs.Statements.{IsRun, RunAwaits, an_ok, RunSends}
use Rattle.my_session.specs.Wire.{Wire, Step, answers, hears, Leads, ends, Takes, Sent}
use Rattle.my_session.specs.declared.fault.SessionFault.{SessionFault}
use Rattle.my_session.specs.declared.fault.SessionFault.TheVariants.{Link}
use Rattle.my_session.specs.declared.peer.Peer.{Peer}
use Rattle.my_session.specs.declared.login.Decision.{Decision}
use Rattle.my_session.specs.declared.login.Decision.TheVariants.{Accepted, Switched}

-- a message never says that the link failed
switch_no_link : (place : ℕ) (found : Result Switch LoginFault) → switch_fault place found ≡ Some Link → ⊥
switch_no_link place (Ok found) is = cc
switch_no_link place (Err (NotTen version)) is = cc
switch_no_link place (Err (Unsupported name)) is = cc
switch_no_link place (Err (LoginRefused refusal)) is = cc
switch_no_link place (Err LoginGarbled) is = cc

decision_no_link : (place : ℕ) (message : List ℕ) (reply : Option Reply) → decision_fault place message reply ≡ Some Link → ⊥
decision_no_link place message (Some Done) is = cc
decision_no_link place message (Some (IsRefused refusal)) is = cc
decision_no_link place message (Some (Columns columns)) is = switch_no_link place (switch_of message) is
decision_no_link place message None is = switch_no_link place (switch_of message) is

pub decision_counted : (before now place : ℕ) (message : List ℕ) (result : Result Decision SessionFault) (Is : Decision → Type 0) → before ≤ now → MatchResult result Is (λ fault. decision_fault place message (reply_of message) ≡ Some fault) → IsCounted before now result
decision_counted before now place message (Ok found) Is later judged = record { later = later; failed = λ e. absurd (cc) }
decision_counted before now place message (Err fault) Is later judged = record {
  later = later;
  failed = λ e. let same : fault ≡ Link = cc in absurd (decision_no_link place message (reply_of message) (judged ∙ ap (λ (f : SessionFault). Some f) same));
}

module _ (user password : List ℕ) where
  -- the greeting
  pub greet_halts : (old new : Wire) (fault : SessionFault) → Halts greeting old fault new → Stops (LoginAwaits user password) (LoginSends user password) old fault new
  greet_halts old new fault halts = at_message (a_greeting refl) ends halts

  module _ (old middle new : Wire) (found : Greeting) (heard : HearsGreeting found old middle) (answer : Option (List ℕ)) (answer_is : answer ≡ password_answer password found.scramble) where
    pub greet_unsaid : (fault : SessionFault) → Unsaid (response user answer found.ends) middle fault new → Stops (LoginAwaits user password) (LoginSends user password) old fault new
    greet_unsaid fault unsaid = at_payload (the_response record { message = heard.message; found = found; read = heard.read; steps_are = refl; payload_is = ap (λ (a : Option (List ℕ)). response user a found.ends) answer_is }) (leads_heard heard.message old middle heard.heard) unsaid

    pub greet_said : (peer : Peer) → peer ≡ peer_of found → Sent middle.id (response user answer found.ends) middle new → Takes (IsGreeted user password peer) old new
    greet_said peer peer_is said = record {
      steps = hears heard.message ∷ answers (response user answer found.ends) ∷ [];
      so = record { message = heard.message; found = found; read = heard.read; peer_is = peer_is; steps_are = ap (λ (a : Option (List ℕ)). hears heard.message ∷ answers (response user a found.ends) ∷ []) answer_is };
      leads = leads_on (hears heard.message ∷ []) (answers (response user answer found.ends) ∷ []) old middle new (leads_heard heard.message old middle heard.heard) (leads_answered (response user answer found.ends) middle new said);
    }

  -- the decision
  pub decision_halts : (peer : Peer) (start old new : Wire) (fault : SessionFault) → Takes (IsGreeted user password peer) start old → Halts decision old fault new → Stops (LoginAwaits user password) (LoginSends user password) start fault new
  decision_halts peer start old new fault takes halts = at_message (a_decision takes.so) takes.leads halts

  pub accepted : (peer : Peer) (start old new : Wire) → Takes (IsGreeted user password peer) start old → HearsDecision Accepted old new → Takes (IsAccepted user password peer) start new
  accepted peer start old new takes heard = record {
    steps = takes.steps ++ hears heard.message ∷ [];
    so = record { before = takes.steps; answered = inl takes.so; message = heard.message; said_ok = heard.is; steps_are = refl };
    leads = leads_on takes.steps (hears heard.message ∷ []) start old new takes.leads (leads_heard heard.message old new heard.heard);
  }

  pub asked_to_switch : (peer : Peer) (start old new : Wire) (found : Switch) → Takes (IsGreeted user password peer) start old → HearsDecision (Switched found) old new → Takes (IsAskedToSwitch user password peer found) start new
  asked_to_switch peer start old new found takes heard = record {
    steps = takes.steps ++ hears heard.message ∷ [];
    so = record { before = takes.steps; greeted = takes.so; message = heard.message; goes_on = heard.is.0; read = heard.is.1; steps_are = refl };
    leads = leads_on takes.steps (hears heard.message ∷ []) start old new takes.leads (leads_heard heard.message old new heard.heard);
  }

  -- the answer over another scramble
  module _ (peer : Peer) (start old : Wire) (found : Switch) (takes : Takes (IsAskedToSwitch user password peer found) start old) (answer : Option (List ℕ)) (answer_is : answer ≡ password_answer password found.scramble) where
    pub switch_unsaid : (new : Wire) (fault : SessionFault) → Unsaid (switch_answer answer) old fault new → Stops (LoginAwaits user password) (LoginSends user password) start fault new
    switch_unsaid new fault unsaid =
        at_payload (the_switch_answer record { peer = peer; before = takes.so.before; greeted = takes.so.greeted; message = takes.so.message; found = found; goes_on = takes.so.goes_on; read = takes.so.read; steps_are = takes.so.steps_are; payload_is = ap (λ (a : Option (List ℕ)). switch_answer a) answer_is })
        takes.leads unsaid

    module _ (middle : Wire) (said : Sent old.id (switch_answer answer) old middle) where
      switched : IsSwitched user password peer (takes.steps ++ answers (switch_answer answer) ∷ [])
      switched = record {
        before = takes.so.before;
        greeted = takes.so.greeted;
        message = takes.so.message;
        found = found;
        goes_on = takes.so.goes_on;
        read = takes.so.read;
        steps_are =
            ap (λ (l : List Step). l ++ answers (switch_answer answer) ∷ []) takes.so.steps_are
            ∙ append_assoc takes.so.before (hears takes.so.message ∷ []) (answers (switch_answer answer) ∷ [])
            ∙ ap (λ (a : Option (List ℕ)). takes.so.before ++ hears takes.so.message ∷ answers (switch_answer a) ∷ []) answer_is;
      }

      switch_leads : Leads (takes.steps ++ answers (switch_answer answer) ∷ []) start middle
      switch_leads = leads_on takes.steps (answers (switch_answer answer) ∷ []) start old middle takes.leads (leads_answered (switch_answer answer) old middle said)

      pub switch_halts : (new : Wire) (fault : SessionFault) → Halts (done Connect) middle fault new → Stops (LoginAwaits user password) (LoginSends user password) start fault new
      switch_halts new fault halts = at_message (an_acceptance switched) switch_leads halts

      pub switch_done : (new : Wire) → HearsReply (Some Done) middle new → Takes (IsAccepted user password peer) start new
      switch_done new heard = record {
        steps = (takes.steps ++ answers (switch_answer answer) ∷ []) ++ hears heard.message ∷ [];
        so = record { before = takes.steps ++ answers (switch_answer answer) ∷ []; answered = inr switched; message = heard.message; said_ok = heard.reply_is; steps_are = refl };
        leads = leads_on (takes.steps ++ answers (switch_answer answer) ∷ []) (hears heard.message ∷ []) start middle new switch_leads (leads_heard heard.message middle new heard.heard);
      }

  -- the statement that sets a session up
  module _ (peer : Peer) (start old new : Wire) (takes : Takes (IsAccepted user password peer) start old) where
    pub set_up_stops : (fault : SessionFault) → Stops (RunAwaits SetUp) (RunSends SetUp) old fault new → Stops (LoginAwaits user password) (LoginSends user password) start fault new
    set_up_stops fault (at_message {steps = steps} {middle = middle} (an_ok is) leads halts) =
        at_message (a_set_up record { before = takes.steps; accepted = takes.so; steps_are = ap (λ (l : List Step). takes.steps ++ l) is })
        (leads_on takes.steps steps start old middle takes.leads leads) halts
    set_up_stops fault (at_payload {steps = steps} {middle = middle} sends leads unsaid) =
        at_payload (the_set_up (subst (λ (l : List Step). IsAccepted user password peer l) (sym (ap (λ (l : List Step). takes.steps ++ l) sends.steps_are ∙ append-nil takes.steps)) takes.so) sends.payload_is)
        (leads_on takes.steps steps start old middle takes.leads leads) unsaid

    pub set_up_done : Takes (IsRun SetUp) old new → Takes (IsLoggedIn user password peer) start new
    set_up_done run = record {
      steps = takes.steps ++ run.steps;
      so = record { before = takes.steps; accepted = takes.so; message = run.so.message; said_ok = run.so.said_ok; steps_are = ap (λ (l : List Step). takes.steps ++ l) run.so.steps_are };
      leads = leads_on takes.steps run.steps start old new takes.leads run.leads;
    }

-- a login that stopped gives its link back
module _ {L : Type 0} (of : Ghosts L) (user password : List ℕ) (link gone : L) (fault : SessionFault) (channel : ChannelView L) (gone_is : gone ≡ channel.link) where
  stopped : (of.tells link ↔ of.tells channel.link) → IsCounted {A = Peer} (of.faults link) (of.faults channel.link) (Err fault) → (of.tells link → Stops (LoginAwaits user password) (LoginSends user password) (fresh of link) fault (channel_wire of channel)) → LoginStopped of user password link gone fault
  stopped tells counted stops = subst (λ (l : L). LoginStopped of user password link l fault) (sym gone_is) record {
    tells = tells;
    later = counted.later;
    failed = λ e. counted.failed (ap (λ (f : SessionFault). Err f) e);
    wire = channel_wire of channel;
    is_wire = record { sent = refl; stream = refl };
    stops = stops;
  }

  pub login_stopped : (first : ChannelView L) → first ≡ record { link = link; place = 0; id = 0; has_failed = false; message = []; began = 0 }
      → (of.tells first.link ↔ of.tells channel.link) → IsCounted {A = Peer} (of.faults first.link) (of.faults channel.link) (Err fault) → (of.tells first.link → Stops (LoginAwaits user password) (LoginSends user password) (channel_wire of first) fault (channel_wire of channel)) → LoginStopped of user password link gone fault
  login_stopped first is =
      subst (λ (c : ChannelView L). (of.tells c.link ↔ of.tells channel.link) → IsCounted {A = Peer} (of.faults c.link) (of.faults channel.link) (Err fault) → (of.tells c.link → Stops (LoginAwaits user password) (LoginSends user password) (channel_wire of c) fault (channel_wire of channel)) → LoginStopped of user password link gone fault)
      (sym is) stopped
