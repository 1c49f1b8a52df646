-- What an honest server answers to a login.
use Rattle.std.proofs.Common.{◌≡◌, ◌==◌, ℕ, Bool, true, false, if◌then◌else◌, List, [], ◌∷◌, refl, sym, ◌∙◌, ap, subst, arith, inl, inr, Option, Some, None, option_map, Result, Ok, Err}
use Rattle.std.proofs.lemmas.Bool.{eqb-true}
use Rattle.honest_server.specs.Exchange.{Replies, accepted, switched, turned_away, quits, served, unknown, ignored, IsLoggingIn, AsksFor}
use Rattle.honest_server.specs.Moves.{Way}
use Rattle.honest_server.specs.State.{State, Phase, switching}
use Rattle.statement_forms.specs.declared.form.Form.TheVariants.{Connect}
use Rattle.my_session.specs.Awaited.{decision_fault, done_fault, switch_fault}
use Rattle.my_session.specs.InStep.{Decides, takes, asks, turns_away}
use Rattle.my_session.specs.Served.{FailsLogin, TurnsAway, at_connect, logged_in}
use Rattle.my_session.specs.declared.fault.SessionFault.{SessionFault}
use Rattle.my_session.specs.declared.fault.SessionFault.TheVariants.{Refused as IsRefusal, PluginUnsupported as NeedsPlugin}
use Rattle.wire_forms.specs.declared.reply.Reply.{Reply}
use Rattle.wire_forms.specs.Switch.{switch_of, after_request}
use Rattle.wire_forms.specs.declared.login_fault.LoginFault.{LoginFault}
use Rattle.wire_forms.specs.declared.login_fault.LoginFault.TheVariants.{PluginUnsupported, Garbled}
use Rattle.wire_forms.specs.declared.switch.Switch.{Switch}
use Rattle.wire_forms.specs.Definition.{column_count}
use Rattle.wire_forms.specs.KeptText.{kept_text}
use Rattle.wire_forms.specs.Reply.{is_ok_packet, refusal_of, reply_of}
use Rattle.wire_forms.specs.declared.refusal.Refusal.{Refusal}
use Rattle.wire_forms.specs.declared.reply.Reply.TheVariants.{Done, Refused as IsRefused, Columns}
use Rattle.wire_forms.specs.declared.short_text.ShortText.{ShortText}

-- ---- the first byte of an OK is 0, that of an ERR is ff, and that of a request for another plugin fe

record Begins (byte : ℕ) (message : List ℕ) : Type 0 where
  bytes : List ℕ
  message_is : message ≡ byte ∷ bytes

apart : (one other : ℕ) (message : List ℕ) → Begins one message → Begins other message → (one ≡ other → ⊥) → ⊥
apart one other message here there differ =
    let both : one ∷ here.bytes ≡ other ∷ there.bytes = sym here.message_is ∙ there.message_is in
    let same : one ≡ other = cc in
    differ same

begins_by : (byte wanted : ℕ) (bytes : List ℕ) → (byte == wanted) ≡ true → Begins wanted (byte ∷ bytes)
begins_by byte wanted bytes is = record { bytes = bytes; message_is = ap (λ (n : ℕ). n ∷ bytes) (eqb-true byte wanted is) }

done_by : (zeroes full ok : Bool) (refusal : Option Refusal) (number : Option ℕ) → (if zeroes then (if ok then Some Done else None) else (if full then option_map (λ refusal. IsRefused refusal) refusal else option_map (λ count. Columns count) number)) ≡ Some Done → zeroes ≡ true
done_by true full ok refusal number e = refl
done_by false true ok None number e = absurd (cc)
done_by false true ok (Some refusal) number e = absurd (cc)
done_by false false ok refusal None e = absurd (cc)
done_by false false ok refusal (Some number) e = absurd (cc)

refused_by : (zeroes full ok : Bool) (refusal : Option Refusal) (number : Option ℕ) (found : Refusal) → (if zeroes then (if ok then Some Done else None) else (if full then option_map (λ refusal. IsRefused refusal) refusal else option_map (λ count. Columns count) number)) ≡ Some (IsRefused found) → full ≡ true
refused_by true full true refusal number found e = absurd (cc)
refused_by true full false refusal number found e = absurd (cc)
refused_by false true ok refusal number found e = refl
refused_by false false ok refusal None found e = absurd (cc)
refused_by false false ok refusal (Some number) found e = absurd (cc)

switch_by : (is : Bool) (after : Result Switch LoginFault) (found : Switch) → (if is then after else Err Garbled) ≡ Ok found → is ≡ true
switch_by true after found e = refl
switch_by false after found e = absurd (cc)

unsupported_by : (is : Bool) (after : Result Switch LoginFault) (name : ShortText) → (if is then after else Err Garbled) ≡ Err (PluginUnsupported name) → is ≡ true
unsupported_by true after name e = refl
unsupported_by false after name e = absurd (cc)

done_begins : (message : List ℕ) → reply_of message ≡ Some Done → Begins 0 message
done_begins [] is = absurd (cc)
done_begins (byte ∷ bytes) is = begins_by byte 0 bytes (done_by (byte == 0) (byte == 255) (is_ok_packet (byte ∷ bytes)) (refusal_of (byte ∷ bytes)) (column_count (byte ∷ bytes)) is)

refused_begins : (message : List ℕ) (refusal : Refusal) → reply_of message ≡ Some (IsRefused refusal) → Begins 255 message
refused_begins [] refusal is = absurd (cc)
refused_begins (byte ∷ bytes) refusal is = begins_by byte 255 bytes (refused_by (byte == 0) (byte == 255) (is_ok_packet (byte ∷ bytes)) (refusal_of (byte ∷ bytes)) (column_count (byte ∷ bytes)) refusal is)

switch_begins : (message : List ℕ) (found : Switch) → switch_of message ≡ Ok found → Begins 254 message
switch_begins [] found is = absurd (cc)
switch_begins (byte ∷ bytes) found is = begins_by byte 254 bytes (switch_by (byte == 254) (after_request bytes) found is)

unsupported_begins : (message : List ℕ) (name : ShortText) → switch_of message ≡ Err (PluginUnsupported name) → Begins 254 message
unsupported_begins [] name is = absurd (cc)
unsupported_begins (byte ∷ bytes) name is = begins_by byte 254 bytes (unsupported_by (byte == 254) (after_request bytes) name is)

asks_begins : (plugin message : List ℕ) → AsksFor plugin message → Begins 254 message
asks_begins plugin message (inl native) = switch_begins message native.1 native.2
asks_begins plugin message (inr other) = unsupported_begins message (kept_text plugin) other.1

-- ---- the answer to a login is one message

pub record IsLoginAnswer (start : State) (messages : List (List ℕ)) (new : State) : Type 0 where
  pub message : List ℕ
  pub messages_are : messages ≡ message ∷ []
  pub decides : Decides start message new

pub login_answer : (way : Way) (state : State) (payload : List ℕ) (messages : List (List ℕ)) (new : State) → IsLoggingIn state.phase → Replies way state payload messages new → IsLoginAnswer state messages new
login_answer way state payload messages new here (accepted logging says new_is) = record { message = says.message; messages_are = says.messages_are; decides = takes says.says new_is }
login_answer way state payload messages new here (switched message phase request lean messages_are new_is) = record { message = message; messages_are = messages_are; decides = asks phase request new_is }
login_answer way state payload messages new here (turned_away refusal logging unwilling says new_is) = record {
  message = says.message;
  messages_are = says.messages_are;
  decides = turns_away refusal says.says record { unwilling = unwilling; new_is = new_is };
}
login_answer way state payload messages new here (quits phase payload_is messages_are new_is) = absurd (subst (λ (p : Phase). IsLoggingIn p) phase here)
login_answer way state payload messages new here (served text statement reply phase payload_is read serves spells) = absurd (subst (λ (p : Phase). IsLoggingIn p) phase here)
login_answer way state payload messages new here (unknown refusal more phase nothing gives says) = absurd (subst (λ (p : Phase). IsLoggingIn p) phase here)
login_answer way state payload messages new here (ignored phase messages_are new_is) = absurd (subst (λ (p : Phase). IsLoggingIn p) phase here)

-- ---- an OK is heard only where the login was taken, a request for another scramble only where its answer is awaited

pub decided_done : (start new : State) (message : List ℕ) → Decides start message new → reply_of message ≡ Some Done → new ≡ logged_in start
decided_done start new message (takes says new_is) is = new_is
decided_done start new message (asks phase request new_is) is = absurd (apart 0 254 message (done_begins message is) (asks_begins start.terms.server.plugin message request) (λ e. omega arith))
decided_done start new message (turns_away refusal says turns) is = absurd (apart 0 255 message (done_begins message is) (refused_begins message refusal says) (λ e. omega arith))

pub decided_switch : (start new : State) (message : List ℕ) (found : Switch) → Decides start message new → switch_of message ≡ Ok found → new ≡ record start { phase = switching }
decided_switch start new message found (takes says new_is) is = absurd (apart 0 254 message (done_begins message says) (switch_begins message found is) (λ e. omega arith))
decided_switch start new message found (asks phase request new_is) is = new_is
decided_switch start new message found (turns_away refusal says turns) is = absurd (apart 254 255 message (switch_begins message found is) (refused_begins message refusal says) (λ e. omega arith))

-- ---- what is answered to a message that is heard in its place

none_is_some : (fault : SessionFault) → None ≡ Some fault → ⊥
none_is_some fault is = cc

same_fault : (fault other : SessionFault) → Some fault ≡ Some other → fault ≡ other
same_fault fault other is = cc

connect_refused : (start new : State) (refusal : Refusal) (fault : SessionFault) → TurnsAway start refusal new → Some (IsRefusal Connect refusal) ≡ Some fault → FailsLogin start fault new
connect_refused start new refusal fault turns is = subst (λ (f : SessionFault). FailsLogin start f new) (same_fault (IsRefusal Connect refusal) fault is) (at_connect refl turns)

fault_asked : (place : ℕ) (message : List ℕ) (reply : Option Reply) (fault : SessionFault) → (reply ≡ Some Done → ⊥) → ((refusal : Refusal) → reply ≡ Some (IsRefused refusal) → ⊥) → decision_fault place message reply ≡ Some fault → switch_fault place (switch_of message) ≡ Some fault
fault_asked place message (Some Done) fault not_done not_refused is = absurd (not_done refl)
fault_asked place message (Some (IsRefused refusal)) fault not_done not_refused is = absurd (not_refused refusal refl)
fault_asked place message (Some (Columns columns)) fault not_done not_refused is = is
fault_asked place message None fault not_done not_refused is = is

another_asked : (start new : State) (place : ℕ) (message : List ℕ) (fault : SessionFault) → AsksFor start.terms.server.plugin message → new ≡ record start { phase = switching } → switch_fault place (switch_of message) ≡ Some fault → FailsLogin start fault new
another_asked start new place message fault (inl native) new_is is = absurd (none_is_some fault (sym (ap (λ (r : Result Switch LoginFault). switch_fault place r) native.2) ∙ is))
another_asked start new place message fault (inr other) new_is is =
    let name = kept_text start.terms.server.plugin in
    subst (λ (f : SessionFault). FailsLogin start f new)
    (same_fault (NeedsPlugin name) fault (sym (ap (λ (r : Result Switch LoginFault). switch_fault place r) other.1) ∙ is))
    record { other = other.0; name_is = refl; new_is = new_is }

pub decided_fault : (start new : State) (place : ℕ) (message : List ℕ) (fault : SessionFault) → Decides start message new → decision_fault place message (reply_of message) ≡ Some fault → FailsLogin start fault new
decided_fault start new place message fault (takes says new_is) is = absurd (none_is_some fault (sym (ap (λ (r : Option Reply). decision_fault place message r) says) ∙ is))
decided_fault start new place message fault (asks phase request new_is) is =
    let begins = asks_begins start.terms.server.plugin message request in
    another_asked start new place message fault request new_is
    (fault_asked place message (reply_of message) fault
    (λ ok. apart 0 254 message (done_begins message ok) begins (λ e. omega arith))
    (λ refusal err. apart 255 254 message (refused_begins message refusal err) begins (λ e. omega arith))
    is)
decided_fault start new place message fault (turns_away refusal says turns) is = connect_refused start new refusal fault turns (sym (ap (λ (r : Option Reply). decision_fault place message r) says) ∙ is)

-- once another scramble was answered, none is asked for again
pub switched_fault : (start new : State) (place : ℕ) (message : List ℕ) (reply : Option Reply) (fault : SessionFault) → start.phase ≡ switching → Decides start message new → reply_of message ≡ reply → done_fault Connect place reply ≡ Some fault → FailsLogin start fault new
switched_fault start new place message reply fault here (takes says new_is) read is = absurd (none_is_some fault (sym (ap (λ (r : Option Reply). done_fault Connect place r) (sym read ∙ says)) ∙ is))
switched_fault start new place message reply fault here (asks phase request new_is) read is = absurd (cc)
switched_fault start new place message reply fault here (turns_away refusal says turns) read is = connect_refused start new refusal fault turns (sym (ap (λ (r : Option Reply). done_fault Connect place r) (sym read ∙ says)) ∙ is)
