-- What sending does to what is still to be heard.
use Rattle.std.proofs.Common.{◌≡◌, ◌<◌, ◌≤◌, ◌+◌, ◌%◌, List, [], ◌∷◌, ◌++◌, ℕ, false, length, arith, refl, sym, ◌∙◌, ap, subst, append_assoc, Option, Result, Ok, Err, OnOk, IfErr}
use Rattle.honest_server.specs.Link.{IsExchanged, IsNoCreate, MaySend}
use Rattle.honest_server.specs.Exchange.{BeginsAt, IsLoggingIn, IsWholeMessage}
use Rattle.honest_server.specs.Moves.{Way}
use Rattle.honest_server.specs.State.{State, Phase, greeted, switching, in_session, over}
use Rattle.my_packets.proofs.Packets.{short_packets}
use Rattle.wire_forms.specs.Packet.{packet, packets, packet_count, id_after}
use Rattle.link_traits.specs.Link.{Told, stream, concatenation, first, others, told_after_send}
use Rattle.link_traits.specs.declared.link.Link.{Ghosts}
use Rattle.my_session.proofs.Links.{replied}
use Rattle.my_session.proofs.Payloads.{no_create}
use Rattle.my_session.specs.Channel.{ChannelView, IsOfLink, MaySayPayload, MaySendPackets, Outgoing, outgoing, SendsNone, SendsPackets, Says, SaysNone}
use Rattle.my_session.specs.Wire.{Wire}
use Rattle.my_session.specs.Served.{IsSeenBy, LeavesUnsaid}
use Rattle.my_session.specs.Serving.{MakesNoObject, MaySay, Replied, way_of}
use Rattle.my_session.specs.Fault.{session_fault, session_result}
use Rattle.my_session.specs.declared.fault.ChannelFault.{ChannelFault}
use Rattle.my_session.specs.declared.fault.ChannelFault.TheVariants.{OutOfMemory as ChannelOutOfMemory}
use Rattle.my_session.specs.declared.fault.SessionFault.{SessionFault}
use Rattle.my_session.specs.declared.fault.SessionFault.TheVariants.{Link, OutOfMemory}

all_joined : (lists : List (List ℕ)) → first lists ++ concatenation (others lists) ≡ concatenation lists
all_joined [] = refl
all_joined (list ∷ lists) = refl

-- a send moves bytes from what is still to come to what waits
pub stream_answered : (told now : Told) (message : List ℕ) → now ≡ told_after_send told message → stream now ≡ stream told
stream_answered told now message is =
    ap (λ (t : Told). stream t) is ∙ append_assoc told.waiting (first told.coming) (concatenation (others told.coming)) ∙ ap (λ (l : List ℕ). told.waiting ++ l) (all_joined told.coming)

-- a short payload is one packet
pub short_is_sent : (id : ℕ) (payload : List ℕ) → id < 256 → length payload ≤ 1001 → packets id payload ≡ packet id payload
short_is_sent id payload byte short = short_packets id payload byte (omega arith)

-- a command's packets begin at 0, and those of a login anywhere
pub begins_command : (phase : Phase) → BeginsAt phase 0
begins_command greeted = tt
begins_command switching = tt
begins_command in_session = refl
begins_command over = tt

pub begins_login : (phase here : Phase) (id : ℕ) → here ≡ phase → IsLoggingIn phase → BeginsAt here id
begins_login greeted here id is logging = subst (λ (p : Phase). BeginsAt p id) (sym is) tt
begins_login switching here id is logging = subst (λ (p : Phase). BeginsAt p id) (sym is) tt
begins_login in_session here id is logging = absurd logging
begins_login over here id is logging = absurd logging

-- the packets of a payload are a whole message
pub is_whole : (phase : Phase) (id : ℕ) (payload bytes : List ℕ) → bytes ≡ packets id payload → BeginsAt phase id → IsWholeMessage phase bytes
is_whole phase id payload bytes is begins = (payload, record { id = id; begins = begins; message_is = is })

pub short_is_whole : (phase : Phase) (id : ℕ) (payload bytes : List ℕ) → id < 256 → length payload ≤ 1001 → bytes ≡ packet id payload → BeginsAt phase id → IsWholeMessage phase bytes
short_is_whole phase id payload bytes byte short is begins = is_whole phase id payload bytes (is ∙ sym (short_is_sent id payload byte short)) begins

-- COM_QUIT is one in a session
pub quit_is_whole : (phase : Phase) → phase ≡ in_session → IsWholeMessage phase (1 ∷ 0 ∷ 0 ∷ 0 ∷ 1 ∷ [])
quit_is_whole phase is = subst (λ (p : Phase). IsWholeMessage p (1 ∷ 0 ∷ 0 ∷ 0 ∷ 1 ∷ [])) (sym is) (short_is_whole in_session 0 (1 ∷ []) (1 ∷ 0 ∷ 0 ∷ 0 ∷ 1 ∷ []) (omega arith) (omega arith) refl refl)

-- what isn't the payload of an object's text isn't sent as one
pub makes_none : (id : ℕ) (payload bytes : List ℕ) → bytes ≡ packets id payload → MakesNoObject payload → IsNoCreate bytes
makes_none id payload bytes is none = subst (λ (l : List ℕ). IsNoCreate l) (sym is) (no_create id payload none)

pub short_makes_none : (id : ℕ) (payload bytes : List ℕ) → id < 256 → length payload ≤ 1001 → bytes ≡ packet id payload → MakesNoObject payload → IsNoCreate bytes
short_makes_none id payload bytes byte short is none = makes_none id payload bytes (is ∙ sym (short_is_sent id payload byte short)) none

-- such packets may be sent
pub may_send : (state : State) (id : ℕ) (payload bytes : List ℕ) → bytes ≡ packets id payload → MaySay id payload state → MaySend state bytes
may_send state id payload bytes is may = record {
  whole = is_whole state.phase id payload bytes is may.begins;
  no_create = λ phase sole. makes_none id payload bytes is (may.no_create phase sole);
}

pub may_send_short : (state : State) (id : ℕ) (payload bytes : List ℕ) → id < 256 → length payload ≤ 1001 → bytes ≡ packet id payload → MaySay id payload state → MaySend state bytes
may_send_short state id payload bytes byte short is = may_send state id payload bytes (is ∙ sym (short_is_sent id payload byte short))

-- neither is COM_QUIT
quits_nothing : MakesNoObject (1 ∷ [])
quits_nothing text is head = cc

pub quit_makes_none : IsNoCreate (1 ∷ 0 ∷ 0 ∷ 0 ∷ 1 ∷ [])
quit_makes_none = short_makes_none 0 (1 ∷ []) (1 ∷ 0 ∷ 0 ∷ 0 ∷ 1 ∷ []) (omega arith) (omega arith) refl quits_nothing

pub may_quit : (state : State) → state.phase ≡ in_session → MaySend state (1 ∷ 0 ∷ 0 ∷ 0 ∷ 1 ∷ [])
may_quit state is = record { whole = quit_is_whole state.phase is; no_create = λ phase sole. quit_makes_none }

-- wires are the same where their parts are
abbrev wire_by : List (List ℕ) → List ℕ → ℕ → ℕ → Wire
wire_by sent stream place id = record { sent = sent; stream = stream; place = place; id = id }

same_wire : (sent sent_now : List (List ℕ)) (stream stream_now : List ℕ) (place place_now id id_now : ℕ) → sent ≡ sent_now → stream ≡ stream_now → place ≡ place_now → id ≡ id_now → wire_by sent stream place id ≡ wire_by sent_now stream_now place_now id_now
same_wire sent sent_now stream stream_now place place_now id id_now sent_is stream_is place_is id_is =
    ap (λ (s : List (List ℕ)). wire_by s stream place id) sent_is ∙ ap (λ (l : List ℕ). wire_by sent_now l place id) stream_is ∙ ap (λ (n : ℕ). wire_by sent_now stream_now n id) place_is ∙ ap (λ (n : ℕ). wire_by sent_now stream_now place_now n) id_is

-- what is answered to the packets of a payload is answered to it
module _ {L : Type 0} (of : Ghosts L) (way : Way) (old new : L) (id next : ℕ) (payload bytes : List ℕ) where
  pub said : bytes ≡ packets id payload → next ≡ id_after (packet_count (length payload)) id → (of.honest old → (of.served old).failed ≡ false) → (of.honest old → IsSeenBy way (of.served old).state) → (of.honest old → IsExchanged way (of.served old) bytes (of.served new)) → of.honest old → Replied of way payload old new next
  said bytes_are next_is alive before answered h =
      subst (λ (n : ℕ). Replied of way payload old new n) (sym next_is)
      (replied of old new way id payload (subst (λ (l : List ℕ). IsExchanged way (of.served old) l (of.served new)) bytes_are (answered h)) (alive h) (before h))

module _ {L : Type 0} (of : Ghosts L) (holder : Option L) (old new : ChannelView L) (id next : ℕ) (payload bytes : List ℕ) where
  -- packets that were sent say their payload
  pub says : length payload ≤ 67108864 → bytes ≡ packets id payload → new.place ≡ old.place → new.id ≡ id_after (packet_count (length payload)) id → SendsPackets of (outgoing bytes holder) old.link new.link → Says of id (outgoing payload holder) old new
  says short bytes_are place_is id_is sends = record {
    place = place_is;
    replied = said of (way_of of holder) old.link new.link id new.id payload bytes bytes_are id_is sends.alive sends.before sends.answered;
    sent = λ t. record {
      short = short;
      new_is = same_wire _ _ _ _ _ _ _ _ (sends.sent t ∙ ap (λ (l : List ℕ). (of.told old.link).sent ++ l ∷ []) bytes_are) (sends.stream t) place_is id_is;
    };
  }

  pub short_says : {E : Type 0} (result : Result (Unit {0}) E) → id < 256 → length payload ≤ 1001 → bytes ≡ packet id payload → next ≡ (id + 1) % 256 → new.place ≡ old.place → OnOk result (new.id ≡ next) → OnOk result (SendsPackets of (outgoing bytes holder) old.link new.link) → OnOk result (Says of id (outgoing payload holder) old new)
  short_says (Ok sent) byte short is next_is place_is id_is sends = says (omega arith) (is ∙ sym (short_is_sent id payload byte short)) place_is (id_is ∙ next_is ∙ (omega arith)) sends
  short_says (Err fault) byte short is next_is place_is id_is sends = tt

-- a payload that wasn't sent whole wasn't said
module _ {L : Type 0} (of : Ghosts L) (holder : Option L) (old new : ChannelView L) (id : ℕ) (payload bytes : List ℕ) (bytes_are : bytes ≡ packets id payload) where
  none_said : (fault : SessionFault) → SendsNone of IsOfLink (outgoing bytes holder) old.link new.link fault → SaysNone of id (outgoing payload holder) old new fault
  none_said fault none =
      subst (λ (f : SessionFault). SaysNone of id (outgoing payload holder) old new f) (sym none.kind) record {
        kind = tt;
        long = tt;
        unsaid = none.silent;
        left = λ h. subst (λ (l : List ℕ). LeavesUnsaid (way_of of holder) l (of.served old.link) Link (of.served new.link)) bytes_are (subst (λ (f : SessionFault). LeavesUnsaid (way_of of holder) bytes (of.served old.link) f (of.served new.link)) none.kind (none.left h));
      }

  pub says_none : (result : Result (Unit {0}) SessionFault) → IfErr result (SendsNone of IsOfLink (outgoing bytes holder) old.link new.link) → IfErr result (SaysNone of id (outgoing payload holder) old new)
  says_none (Ok finished) none = tt
  says_none (Err fault) none = none_said fault none

  pub says_none_at : (fault : SessionFault) → SendsNone of IsOfLink (outgoing bytes holder) old.link new.link fault → SaysNone of id (outgoing payload holder) old new fault
  says_none_at fault none = none_said fault none

module _ {L : Type 0} (of : Ghosts L) (out : Outgoing L) (old new : L) where
  pub takes_none : (result : Result (Unit {0}) ChannelFault) → IfErr (session_result result) (SendsNone of IsOfLink out old new) → result ≡ Err ChannelOutOfMemory → ⊥
  takes_none (Ok finished) none is = absurd (cc)
  takes_none (Err fault) none is =
      let same : fault ≡ ChannelOutOfMemory = cc in
      let kind : session_fault fault ≡ Link = none.kind in
      let linked : OutOfMemory ≡ Link = sym (ap (λ (f : ChannelFault). session_fault f) same) ∙ kind in
      absurd (cc)

-- packets of a payload that may be said may be sent
module _ {L : Type 0} (of : Ghosts L) (holder : Option L) (link : L) (id : ℕ) (payload bytes : List ℕ) where
  pub may_send_payload : bytes ≡ packets id payload → MaySayPayload of id (outgoing payload holder) link → MaySendPackets of (outgoing bytes holder) link
  may_send_payload is may = record {
    may = λ h. may_send (of.served link).state id payload bytes is (may.may h);
    beside = may.beside;
  }
