-- How what waits on an honest link goes on from one step of a session to the next.
use Rattle.std.proofs.Common.{◌≡◌, ◌<◌, ℕ, Bool, true, false, List, [], ◌∷◌, ◌++◌, length, refl, sym, ◌∙◌, ap, subst, arith, inl, inr, Option, Some, None, Result, Ok, Err}
use Rattle.std.proofs.lemmas.Bool.{false≢true}
use Rattle.std.proofs.lemmas.List.{append-nil}
use Rattle.honest_server.specs.Exchange.{IsGreeting, packets_from, query_payload}
use Rattle.honest_server.specs.Moves.{Way}
use Rattle.honest_server.specs.Site.{ServedSite, IsNewLink}
use Rattle.honest_server.specs.State.{Server, State, Terms, Phase, greeted, in_session}
use Rattle.link_traits.specs.declared.link.Link.{Ghosts}
use Rattle.wire_forms.specs.Greeting.{greeting_of}
use Rattle.wire_forms.specs.declared.ends.Ends.{Ends}
use Rattle.wire_forms.specs.declared.greeting.Greeting.{Greeting}
use Rattle.wire_forms.specs.declared.login_fault.LoginFault.{LoginFault}
use Rattle.my_packets.proofs.Fronts.{same_packets}
use Rattle.wire_forms.specs.Packet.{packets, packet_count, id_after}
use Rattle.wire_forms.specs.Reading.{Reading, Further, definition, row, end, refused, garbled, idle, columns_counted, further_of, reading_after}
use Rattle.wire_forms.specs.Reply.{reply_of}
use Rattle.plain_data.specs.Cell.{Cell}
use Rattle.wire_forms.specs.declared.refusal.Refusal.{Refusal}
use Rattle.wire_forms.specs.declared.reply.Reply.{Reply}
use Rattle.wire_forms.specs.declared.reply.Reply.TheVariants.{Done, Refused as IsRefused, Columns}
use Rattle.statement_forms.specs.declared.form.Form.{Form}
use Rattle.my_session.proofs.Rests.{session_reply}
use Rattle.my_session.specs.Awaited.{done_fault, further_fault}
use Rattle.my_session.specs.Channel.{ChannelView}
use Rattle.my_session.specs.Heard.{Judges}
use Rattle.my_session.specs.InStep.{Completes, ends, breaks_off, defines, has_row, Follows, WaitsRest, IsQuiet, ReplyWaits, IsOpen, GreetingWaits, ServesDone}
use Rattle.my_session.specs.Peer.{IsPeerOf, peer_of}
use Rattle.my_session.specs.Serving.{IsServing, Stays, MessageWaits, Delivers, DeliversReply, IsUnheard, Replied}
use Rattle.my_session.specs.Session.{failed_by, ends_session}
use Rattle.my_session.specs.declared.fault.SessionFault.{SessionFault}
use Rattle.my_session.specs.declared.fault.SessionFault.TheVariants.{Link, Refused, Garbled, NotProtocol10, PluginUnsupported, TooLong, StreamTooLong, OutOfMemory}
use Rattle.my_session.specs.declared.peer.Peer.{Peer}

-- messages of which there is a first
first_waits : (id : ℕ) (waiting first : List ℕ) (others messages : List (List ℕ)) → messages ≡ first ∷ others → waiting ≡ packets_from id messages → MessageWaits id waiting
first_waits id waiting first others messages messages_are waits = record {
  message = first;
  after = packets_from (id_after (packet_count (length first)) id) others;
  waits = waits ∙ ap (λ (l : List (List ℕ)). packets_from id l) messages_are;
}

-- what is left of a result set after a message of it
abbrev RestAfter : Reading → Further → List (List ℕ) → Type 0
RestAfter reading definition others = Completes (reading_after reading definition) others
RestAfter reading (row cells) others = Completes reading others
RestAfter reading end others = others ≡ []
RestAfter reading (refused refusal) others = others ≡ []
RestAfter reading garbled others = ⊥

record Begins (reading : Reading) (messages : List (List ℕ)) : Type 0 where
  first : List ℕ
  others : List (List ℕ)
  messages_are : messages ≡ first ∷ others
  rest : RestAfter reading (further_of reading first) others

completes_begins : (reading : Reading) (messages : List (List ℕ)) → Completes reading messages → Begins reading messages
completes_begins reading [] completes = elim completes [ ]
completes_begins reading (message ∷ []) (ends is) = record { first = message; others = []; messages_are = refl; rest = subst (λ (f : Further). RestAfter reading f []) (sym is) refl }
completes_begins reading (message ∷ []) (breaks_off is) = record { first = message; others = []; messages_are = refl; rest = subst (λ (f : Further). RestAfter reading f []) (sym is) refl }
completes_begins reading (message ∷ messages) (defines is rest) = record { first = message; others = messages; messages_are = refl; rest = subst (λ (f : Further). RestAfter reading f messages) (sym is) rest }
completes_begins reading (message ∷ messages) (has_row is rest) = record { first = message; others = messages; messages_are = refl; rest = subst (λ (f : Further). RestAfter reading f messages) (sym is) rest }

-- a message is one greeting
same_greeting : (read : Result Greeting LoginFault) (found other : Greeting) → read ≡ Ok found → read ≡ Ok other → found ≡ other
same_greeting read found other is too = cc

-- a fault at a message of a result set that doesn't end the session is an ERR
refused_by : (form : Form) (place : ℕ) (turn : Further) (fault : SessionFault) → further_fault form place turn ≡ Some fault → ends_session fault ≡ false → (refusal : Refusal) × (turn ≡ refused refusal)
refused_by form place definition fault is goes_on = absurd (cc)
refused_by form place (row cells) fault is goes_on = absurd (cc)
refused_by form place end fault is goes_on = absurd (cc)
refused_by form place (refused refusal) fault is goes_on = (refusal, refl)
refused_by form place garbled fault is goes_on = let same : Garbled place ≡ fault = cc in absurd (false≢true (sym goes_on ∙ ap (λ (f : SessionFault). ends_session f) (sym same)))

-- so is one at a reply's first message
refused_first : (form : Form) (place : ℕ) (reply : Option Reply) (fault : SessionFault) → done_fault form place reply ≡ Some fault → ends_session fault ≡ false → (refusal : Refusal) × (reply ≡ Some (IsRefused refusal))
refused_first form place None fault is goes_on = let same : Garbled place ≡ fault = cc in absurd (false≢true (sym goes_on ∙ ap (λ (f : SessionFault). ends_session f) (sym same)))
refused_first form place (Some Done) fault is goes_on = absurd (cc)
refused_first form place (Some (IsRefused refusal)) fault is goes_on = (refusal, refl)
refused_first form place (Some (Columns columns)) fault is goes_on = let same : Garbled place ≡ fault = cc in absurd (false≢true (sym goes_on ∙ ap (λ (f : SessionFault). ends_session f) (sym same)))

-- where a message that waits isn't heard, the session ends
unheard_ends : (message : List ℕ) (place : ℕ) (fault : SessionFault) → IsUnheard message place fault → ends_session fault ≡ false → ⊥
unheard_ends message place Link unheard goes_on = false≢true (sym goes_on)
unheard_ends message place (Refused form refusal) unheard goes_on = absurd unheard
unheard_ends message place (Garbled at) unheard goes_on = absurd unheard
unheard_ends message place (NotProtocol10 version) unheard goes_on = absurd unheard
unheard_ends message place (PluginUnsupported name) unheard goes_on = absurd unheard
unheard_ends message place (TooLong size) unheard goes_on = false≢true (sym goes_on)
unheard_ends message place StreamTooLong unheard goes_on = false≢true (sym goes_on)
unheard_ends message place OutOfMemory unheard goes_on = false≢true (sym goes_on)

module _ {L : Type 0} (of : Ghosts L) where
  pub reply_comes : (link : L) (id : ℕ) → ReplyWaits of link id → MessageWaits id (of.served link).waiting
  reply_comes link id reply = first_waits id (of.served link).waiting reply.is_reply.first reply.is_reply.others reply.messages reply.is_reply.messages_are reply.waits

  pub rest_comes : (link : L) (id : ℕ) (reading : Reading) → 0 < reading.columns → IsOpen of link id reading → MessageWaits id (of.served link).waiting
  rest_comes link id reading some is_open =
      let rest = is_open.rest some in
      let there = completes_begins reading rest.messages rest.completes in
      first_waits id (of.served link).waiting there.first there.others rest.messages there.messages_are rest.waits

  -- where nothing is pending, nothing waits
  pub open_idle : (link : L) (id : ℕ) (ending : Ends) → IsQuiet of in_session link → IsOpen of link id (idle ending)
  open_idle link id ending quiet = record {
    alive = quiet.alive;
    phase = quiet.phase_is;
    none = λ e. quiet.none;
    rest = λ some. absurd (omega arith);
  }

  pub quiet_idle : (link : L) (id : ℕ) (reading : Reading) (ending : Ends) → reading ≡ idle ending → IsOpen of link id reading → IsQuiet of in_session link
  quiet_idle link id reading ending is is_open = record {
    alive = is_open.alive;
    phase_is = is_open.phase;
    none = is_open.none (ap (λ (r : Reading). r.columns) is);
  }

  -- the server stays what its greeting said
  pub still_ends : (old new : L) (ending : Ends) → Stays of old new → (of.honest old → ending ≡ (of.served old).state.terms.server.ends) → of.honest new → ending ≡ (of.served new).state.terms.server.ends
  still_ends old new ending stays so h =
      let before = stays.honest.1 h in
      so before ∙ sym (ap (λ (t : Terms). t.server.ends) (stays.terms before))

  pub still_peer : (old new : L) (peer : Peer) → Stays of old new → (of.honest old → IsPeerOf (of.served old).state.terms.server peer) → of.honest new → IsPeerOf (of.served new).state.terms.server peer
  still_peer old new peer stays so h =
      let before = stays.honest.1 h in
      subst (λ (t : Terms). IsPeerOf t.server peer) (sym (stays.terms before)) (so before)

  open_rest : (link : L) (id : ℕ) (reading : Reading) → (of.served link).failed ≡ false → (of.served link).state.phase ≡ in_session → 0 < reading.columns → WaitsRest reading id (of.served link).waiting → IsOpen of link id reading
  open_rest link id reading alive phase some rest = record {
    alive = alive;
    phase = phase;
    none = λ e. absurd (omega arith);
    rest = λ more. rest;
  }

  module _ (old new : L) (id : ℕ) where
    -- a text is answered by a reply
    pub said_text : (way : Way) (text payload : List ℕ) → payload ≡ query_payload text → IsQuiet of in_session old → Replied of way payload old new id → ReplyWaits of new id
    said_text way text payload is quiet replied =
        let told = session_reply way (of.served old).state text payload replied.messages (of.served new).state quiet.phase_is is replied.replies in
        record {
          alive = replied.alive;
          phase = told.phase;
          messages = replied.messages;
          is_reply = told.is_reply;
          waits = replied.waits ∙ ap (λ (l : List ℕ). l ++ packets_from id replied.messages) quiet.none;
        }

  -- the message that is heard is the first of those that wait, and the others wait after it
  module _ (old new : L) (id now : ℕ) (message : List ℕ) (delivers : Delivers of message old id new now) where
    record IsNext (first : List ℕ) (others : List (List ℕ)) : Type 0 where
      message_is : message ≡ first
      waits : (of.served new).waiting ≡ packets_from now others

    next_is : (first : List ℕ) (others messages : List (List ℕ)) → messages ≡ first ∷ others → (of.served old).waiting ≡ packets_from id messages → IsNext first others
    next_is first others messages messages_are waits =
        let parts = same_packets id message first (of.served new).waiting (packets_from (id_after (packet_count (length first)) id) others) (sym delivers.gives.waits ∙ waits ∙ ap (λ (l : List (List ℕ)). packets_from id l) messages_are) in
        record {
          message_is = parts.0;
          waits = parts.1 ∙ ap (λ (l : List ℕ). packets_from (id_after (packet_count (length l)) id) others) (sym parts.0) ∙ ap (λ (n : ℕ). packets_from n others) (sym delivers.id);
        }

    still : (phase : Phase) → (of.served old).state.phase ≡ phase → (of.served new).state.phase ≡ phase
    still phase is = ap (λ (s : State). s.phase) delivers.gives.state ∙ is

    -- after a reply's first message
    module _ (reply : Option Reply) (reply_is : reply_of message ≡ reply) (waits : ReplyWaits of old id) where
      first : IsNext waits.is_reply.first waits.is_reply.others
      first = next_is waits.is_reply.first waits.is_reply.others waits.messages waits.is_reply.messages_are waits.waits

      follows : Follows (of.served old).state.terms.server.ends reply waits.is_reply.others
      follows = subst (λ (r : Option Reply). Follows (of.served old).state.terms.server.ends r waits.is_reply.others) (ap (λ (l : List ℕ). reply_of l) (sym first.message_is) ∙ reply_is) waits.is_reply.follows

      alone : waits.is_reply.others ≡ [] → IsQuiet of in_session new
      alone none = record { alive = delivers.gives.alive; phase_is = still in_session waits.phase; none = first.waits ∙ ap (λ (l : List (List ℕ)). packets_from now l) none }

      heard_done : reply ≡ Some Done → IsQuiet of in_session new
      heard_done is = alone (subst (λ (r : Option Reply). Follows (of.served old).state.terms.server.ends r waits.is_reply.others) is follows)

      heard_refusal : (refusal : Refusal) → reply ≡ Some (IsRefused refusal) → IsQuiet of in_session new
      heard_refusal refusal is = alone (subst (λ (r : Option Reply). Follows (of.served old).state.terms.server.ends r waits.is_reply.others) is follows)

      heard_columns : (columns : ℕ) → reply ≡ Some (Columns columns) → 0 < columns → IsOpen of new now (columns_counted (of.served old).state.terms.server.ends columns)
      heard_columns columns is some = open_rest new now (columns_counted (of.served old).state.terms.server.ends columns) delivers.gives.alive (still in_session waits.phase) some record {
        messages = waits.is_reply.others;
        completes = subst (λ (r : Option Reply). Follows (of.served old).state.terms.server.ends r waits.is_reply.others) is follows;
        waits = first.waits;
      }

    -- after a message of a result set
    module _ (reading : Reading) (some : 0 < reading.columns) (is_open : IsOpen of old id reading) where
      begun : Begins reading (is_open.rest some).messages
      begun = completes_begins reading (is_open.rest some).messages (is_open.rest some).completes

      heard : IsNext begun.first begun.others
      heard = next_is begun.first begun.others (is_open.rest some).messages begun.messages_are (is_open.rest some).waits

      rest : (turn : Further) → further_of reading message ≡ turn → RestAfter reading turn begun.others
      rest turn is = subst (λ (f : Further). RestAfter reading f begun.others) (ap (λ (l : List ℕ). further_of reading l) (sym heard.message_is) ∙ is) begun.rest

      pub heard_definition : (next : Reading) → next ≡ reading_after reading definition → further_of reading message ≡ definition → IsOpen of new now next
      heard_definition next next_reading is = subst (λ (r : Reading). IsOpen of new now r) (sym next_reading) (
          open_rest new now (reading_after reading definition) delivers.gives.alive (still in_session is_open.phase) some record { messages = begun.others; completes = rest definition is; waits = heard.waits })

      pub heard_row : (next : Reading) (cells : List Cell) → next ≡ reading → further_of reading message ≡ row cells → IsOpen of new now next
      heard_row next cells same is = subst (λ (r : Reading). IsOpen of new now r) (sym same) (
          open_rest new now reading delivers.gives.alive (still in_session is_open.phase) some record { messages = begun.others; completes = rest (row cells) is; waits = heard.waits })

      at_end : (ending : Ends) → begun.others ≡ [] → IsOpen of new now (idle ending)
      at_end ending none = open_idle new now ending record { alive = delivers.gives.alive; phase_is = still in_session is_open.phase; none = heard.waits ∙ ap (λ (l : List (List ℕ)). packets_from now l) none }

      pub heard_end : (next : Reading) (ending : Ends) → next ≡ idle ending → further_of reading message ≡ end → IsOpen of new now next
      heard_end next ending is_idle is = subst (λ (r : Reading). IsOpen of new now r) (sym is_idle) (at_end ending (rest end is))

      pub heard_break : (next : Reading) (ending : Ends) (refusal : Refusal) → next ≡ idle ending → further_of reading message ≡ refused refusal → IsOpen of new now next
      heard_break next ending refusal is_idle is = subst (λ (r : Reading). IsOpen of new now r) (sym is_idle) (at_end ending (rest (refused refusal) is))

    -- after the greeting
    pub heard_greeting : id ≡ 0 → GreetingWaits of old → IsQuiet of greeted new
    heard_greeting first_id waits =
        let only = next_is waits.greeting [] (waits.greeting ∷ []) refl (waits.waits ∙ ap (λ (n : ℕ). packets n waits.greeting) (sym first_id) ∙ sym (append-nil (packets id waits.greeting))) in
        record { alive = delivers.gives.alive; phase_is = still greeted waits.phase; none = only.waits }

  -- what a command leaves
  module _ (old new : ChannelView L) (serving : IsServing of old.link) (waits : ReplyWaits of old.link old.id) where
    pub answered : (form : Form) (result : Result (Unit {0}) SessionFault) → ServesDone of form old result new → failed_by result ≡ false → IsQuiet of in_session new.link
    answered form (Ok finished) serves goes_on =
        let reply = serves serving in
        heard_done old.link new.link old.id new.id reply.message reply.delivers (Some Done) reply.reply_is waits refl
    answered form (Err fault) serves goes_on = elim (serves serving) [
      | inl answers ↦
          let refusal = refused_first form old.place answers.reply fault answers.fault_is goes_on in
          heard_refusal old.link new.link old.id new.id answers.delivers.message answers.delivers.delivers answers.reply answers.delivers.reply_is waits refusal.0 refusal.1
      | inr nothing ↦
          let comes = reply_comes old.link old.id waits in
          absurd (unheard_ends comes.message old.place fault (nothing.unheard comes.message comes.after comes.waits) goes_on)
    ]

  -- what hearing the number of columns leaves
  module _ (old new : L) (id now : ℕ) (stays : Stays of old new) (waits : of.honest old → ReplyWaits of old id) (reply : Option Reply) (heard : IsServing of old → DeliversReply of reply old id new now) where
    pub count_heard : (ending : Ends) → (of.honest old → ending ≡ (of.served old).state.terms.server.ends) → (columns : ℕ) → reply ≡ Some (Columns columns) → 0 < columns → of.honest new → IsOpen of new now (columns_counted ending columns)
    count_heard ending so columns is some h =
        let before = waits (stays.honest.1 h) in
        let told = heard (record { honest = stays.honest.1 h; alive = before.alive }) in
        subst (λ (e : Ends). IsOpen of new now (columns_counted e columns)) (sym (so (stays.honest.1 h)))
        (heard_columns old new id now told.message told.delivers reply told.reply_is before columns is some)

    pub count_refused : (refusal : Refusal) → reply ≡ Some (IsRefused refusal) → of.honest new → IsQuiet of in_session new
    count_refused refusal is h =
        let before = waits (stays.honest.1 h) in
        let told = heard (record { honest = stays.honest.1 h; alive = before.alive }) in
        heard_refusal old new id now told.message told.delivers reply told.reply_is before refusal is

  -- what hearing a further message of a result set leaves
  module _ (old new : L) (id now : ℕ) (reading : Reading) (message : List ℕ) (stays : Stays of old new) (some : 0 < reading.columns) (waits : of.honest old → IsOpen of old id reading) (heard : IsServing of old → Delivers of message old id new now) where
    pub definition_heard : (next : Reading) → next ≡ reading_after reading definition → further_of reading message ≡ definition → of.honest new → IsOpen of new now next
    definition_heard next next_is is h =
        let before = waits (stays.honest.1 h) in
        heard_definition old new id now message (heard (record { honest = stays.honest.1 h; alive = before.alive })) reading some before next next_is is

    pub row_heard : (ending : Ends) (form : Form) (place : ℕ) (next : Reading) (result : Result Bool SessionFault) → Judges ending reading form message place result next → failed_by result ≡ false → of.honest new → IsOpen of new now next
    row_heard ending form place next (Ok true) judges goes_on h =
        let before = waits (stays.honest.1 h) in
        heard_row old new id now message (heard (record { honest = stays.honest.1 h; alive = before.alive })) reading some before next judges.0.cells judges.1 judges.0.is
    row_heard ending form place next (Ok false) judges goes_on h =
        let before = waits (stays.honest.1 h) in
        heard_end old new id now message (heard (record { honest = stays.honest.1 h; alive = before.alive })) reading some before next ending judges.1 judges.0
    row_heard ending form place next (Err fault) judges goes_on h =
        let before = waits (stays.honest.1 h) in
        let refusal = refused_by form place (further_of reading message) fault judges.0 goes_on in
        heard_break old new id now message (heard (record { honest = stays.honest.1 h; alive = before.alive })) reading some before next ending refusal.0 judges.1 refusal.1

  -- on a new link the greeting waits
  pub new_link_greets : (link : L) (site : ServedSite) (sole : Bool) → IsNewLink site sole (of.served link) → GreetingWaits of link
  new_link_greets link site sole is_new = record { phase = ap (λ (s : State). s.phase) is_new.state_is; greeting = is_new.greeting; greets = subst (λ (s : Server). IsGreeting s is_new.greeting) (sym (ap (λ (s : State). s.terms.server) is_new.state_is)) is_new.greets; waits = is_new.waits }

  -- what hearing the greeting leaves
  pub greeting_comes : (link : L) (id : ℕ) → id ≡ 0 → (IsServing of link → GreetingWaits of link) → IsServing of link → MessageWaits id (of.served link).waiting
  greeting_comes link id first_id waits serving =
      let greeting = waits serving in
      record { message = greeting.greeting; after = []; waits = greeting.waits ∙ sym (append-nil (packets 0 greeting.greeting)) ∙ ap (λ (n : ℕ). packets n greeting.greeting ++ []) (sym first_id) }

  pub greeting_heard : (old new : L) (id now : ℕ) (message : List ℕ) → id ≡ 0 → (IsServing of old → GreetingWaits of old) → (of.honest old → (of.served old).failed ≡ false) → (IsServing of old → Delivers of message old id new now) → of.honest old → IsQuiet of greeted new
  greeting_heard old new id now message first_id waits alive heard h =
      let serving : IsServing of old = record { honest = h; alive = alive h } in
      heard_greeting old new id now message (heard serving) first_id (waits serving)

  -- what the greeting says is what the server is
  module _ (old new : L) (id now : ℕ) (message : List ℕ) where
    greeting_says : (found : Greeting) → Delivers of message old id new now → id ≡ 0 → GreetingWaits of old → greeting_of message ≡ Ok found → IsPeerOf (of.served new).state.terms.server (peer_of found)
    greeting_says found delivers first_id waits read =
        let only = next_is old new id now message delivers waits.greeting [] (waits.greeting ∷ []) refl (waits.waits ∙ ap (λ (n : ℕ). packets n waits.greeting) (sym first_id) ∙ sym (append-nil (packets id waits.greeting))) in
        let same : found ≡ waits.greets.found = same_greeting (greeting_of message) found waits.greets.found read (ap (λ (l : List ℕ). greeting_of l) only.message_is ∙ waits.greets.says) in
        let server : (of.served new).state.terms.server ≡ (of.served old).state.terms.server = ap (λ (s : State). s.terms.server) delivers.gives.state in
        record {
          ends = ap (λ (f : Greeting). f.ends) same ∙ waits.greets.ends ∙ sym (ap (λ (s : Server). s.ends) server);
          newer = ap (λ (f : Greeting). f.newer) same ∙ waits.greets.newer ∙ sym (ap (λ (s : Server). s.newer) server);
        }

    pub greeting_tells : (payload : List ℕ) (found : Greeting) → id ≡ 0 → (IsServing of old → GreetingWaits of old) → (of.honest old → (of.served old).failed ≡ false) → (IsServing of old → Delivers of message old id new now) → payload ≡ message → greeting_of payload ≡ Ok found → of.honest old → IsPeerOf (of.served new).state.terms.server (peer_of found)
    greeting_tells payload found first_id waits alive heard is read h =
        let serving : IsServing of old = record { honest = h; alive = alive h } in
        greeting_says found (heard serving) first_id (waits serving) (ap (λ (l : List ℕ). greeting_of l) (sym is) ∙ read)
