-- A message that is taken off a link piece by piece.
use Rattle.std.proofs.Common.{◌≡◌, ◌≤◌, ◌<◌, ◌+◌, ◌-◌, ◌*◌, ◌^◌, ◌↔◌, ℕ, Bool, true, false, List, [], ◌++◌, length, take, refl, sym, ◌∙◌, ap, subst, inl, inr, arith, append_assoc, length-append, Result, Ok, Err, OnOk, OnErr, IfErr, ◌≢◌}
use Rattle.std.proofs.lemmas.List.{append-nil, length-take-le, take-append-le}
use Rattle.honest_server.specs.Link.{Receives as TakesServed}
use Rattle.link_traits.specs.Link.{ReceivesAsTold, stream}
use Rattle.link_traits.specs.declared.link.Link.{Ghosts}
use Rattle.my_packets.proofs.Fronts.{one_front}
use Rattle.my_packets.proofs.Packets.{packets_length}
use Rattle.my_packets.specs.Begins.{IsWrong}
use Rattle.my_packets.specs.Front.{HasMessage, IsPart, Wants}
use Rattle.wire_forms.specs.Packet.{packets, packet_count, id_after}
use Rattle.my_packets.specs.Steps.{Passes, Steps}
use Rattle.my_packets.specs.Unread.{Unread}
use Rattle.my_packets.specs.declared.frames.FrameFault.{FrameFault}
use Rattle.my_packets.specs.declared.frames.FrameFault.TheVariants.{BadSequence, TooLong as FrameTooLong}
use Rattle.my_session.proofs.Exact.{exact_at_first, exact_after}
use Rattle.my_session.proofs.Links.{taken_off, recv_alive, recv_gives}
use Rattle.my_session.proofs.Payloads.{part_is_not_all}
use Rattle.my_session.proofs.Staying.{stays_begin, stays_on, keeps_ok, keeps_err}
use Rattle.my_session.proofs.Unheard.{in_order, longer, unended}
use Rattle.my_session.proofs.Within.{wrong_within, full_within}
use Rattle.my_session.specs.Channel.{wire_at, HearsNext, HearsNone, IsOfChannel}
use Rattle.my_session.specs.Session.{link_at}
use Rattle.my_session.specs.Halt.{Misheard}
use Rattle.my_session.specs.Receiving.{Fetches, HoldsTaken, HoldsAtMostOne, IsReader, SaysNothing, Unfetched, Unsettled, reader_at}
use Rattle.my_session.specs.Serving.{IsServing, IsUnheard, MessageWaits, KeepsLink, Stays, Gives, Delivers}
use Rattle.my_session.specs.Wire.{Hears, IsOnward, within}
use Rattle.my_session.specs.declared.fault.SessionFault.{SessionFault}
use Rattle.my_session.specs.declared.fault.SessionFault.TheVariants.{Link, Refused, Garbled, NotProtocol10, PluginUnsupported, TooLong, StreamTooLong, OutOfMemory}

-- bytes of which none are missing are no part of a message
settled_is_no_part : (limit id more : ℕ) (bytes : List ℕ) → Wants limit id bytes 0 → IsPart limit id more bytes → ⊥
settled_is_no_part limit id more bytes wants part =
    let front = one_front limit id bytes in
    elim (wants.settled refl) [
      | inl whole ↦ front.message_is_whole more whole.0 whole.1 whole.2 part
      | inr wrong ↦ elim wrong [
        | inl disorder ↦ front.wrong_is_whole disorder.0 disorder.1 more disorder.2 part
        | inr long ↦ front.long_is_whole long.0 more long.1 part
      ]
    ]

pub settled_waits_not : (old new : Unread) (is_whole : Bool) → Wants old.limit old.id old.bytes 0 → is_whole ≡ false → Steps old (Ok is_whole) new → ⊥
settled_waits_not old new true wants is steps = absurd (cc)
settled_waits_not old new false wants is waits = settled_is_no_part old.limit old.id waits.more old.bytes wants waits.part

module _ {L : Type 0} (of : Ghosts L) where
  -- a piece that was taken off a link
  pub fetches_piece : (old new : L) (E : Type 0) (wants : ℕ) (before now : Unread) (taken count : ℕ) (buffer rest : List ℕ) → (of.tells old → ReceivesAsTold {E = E} (of.told old) buffer (Ok count) (of.told new)) → (of.honest old → TakesServed {E = E} (of.served old) buffer (Ok count) (of.served new))
      → now ≡ record before { message = []; bytes = before.bytes ++ take count (buffer ++ rest); room = now.room } → 0 < count → count ≤ length buffer → length buffer ≤ wants
      → Fetches of wants (reader_at old before taken) (reader_at new now (taken + count))
  fetches_piece old new E wants before now taken count buffer rest received served now_is some fits few =
      let is : take count (buffer ++ rest) ≡ take count buffer = take-append-le count buffer rest fits in
      let size : length (take count buffer) ≡ count = length-take-le count buffer fits in
      let same : length (take count (buffer ++ rest)) ≡ length (take count buffer) = ap (λ (l : List ℕ). length l) is in
      record {
        piece = take count (buffer ++ rest);
        some = omega arith;
        fits = omega arith;
        frames = now_is;
        taken = omega arith;
        stream = λ t. taken_off of old new E count buffer received t ∙ ap (λ (l : List ℕ). l ++ stream (of.told new)) (sym is);
        was_alive = recv_alive of old new E buffer count served;
        gives = λ h. subst (λ (l : List ℕ). Gives of l old new) (sym is) (recv_gives of old new E buffer count served h);
      }

  pub gathers_none : ((one : L) → of.same_origin one one) → (link : L) (frames : Unread) (taken : ℕ) → frames.bytes ≡ [] → HoldsTaken of (reader_at link frames taken) (reader_at link frames taken)
  gathers_none begins link frames taken none =
      let size : length frames.bytes ≡ 0 = ap (λ (l : List ℕ). length l) none in
      record {
        tells = (λ t. t, λ t. t);
        later = omega arith;
        id = refl;
        place = refl;
        limit = refl;
        taken = omega arith;
        exact = exact_at_first frames.limit frames.id frames.bytes none;
        sent = λ t. refl;
        stream = λ t. ap (λ (l : List ℕ). l ++ stream (of.told link)) none;
        stays = stays_begin of begins link;
        was_alive = λ some. absurd (omega arith);
        gives = λ serving. record { alive = serving.alive; state = refl; waits = ap (λ (l : List ℕ). l ++ (of.served link).waiting) (sym none) };
      }

  pub gathers_more : ((one next last : L) → of.same_origin one next → of.same_origin next last → of.same_origin one last) → (start link next : L) (first frames now : Unread) (wants taken_first taken taken_now : ℕ) → HoldsTaken of (reader_at start first taken_first) (reader_at link frames taken) → 0 < wants → Wants frames.limit frames.id frames.bytes wants
      → (of.tells link ↔ of.tells next) → of.faults link ≤ of.faults next → (of.tells link → (of.told next).sent ≡ (of.told link).sent) → Stays of link next → Fetches of wants (reader_at link frames taken) (reader_at next now taken_now) → HoldsTaken of (reader_at start first taken_first) (reader_at next now taken_now)
  gathers_more joins start link next first frames now wants taken_first taken taken_now gathers some wanted tells later sent stays fetches =
      let same = fetches.frames in
      let bytes_are : now.bytes ≡ frames.bytes ++ fetches.piece = ap (λ (u : Unread). u.bytes) same in
      let all = length-append frames.bytes fetches.piece in
      let size : length now.bytes ≡ length (frames.bytes ++ fetches.piece) = ap (λ (l : List ℕ). length l) bytes_are in
      let before = gathers.taken in
      let after = fetches.taken in
      let once = gathers.later in
      record {
        tells = (λ t. tells.0 (gathers.tells.0 t), λ t. gathers.tells.1 (tells.1 t));
        later = omega arith;
        id = ap (λ (u : Unread). u.id) same ∙ gathers.id;
        place = ap (λ (u : Unread). u.place) same ∙ gathers.place;
        limit = ap (λ (u : Unread). u.limit) same ∙ gathers.limit;
        taken = omega arith;
        exact =
            subst (λ (l : List ℕ). HoldsAtMostOne first.limit first.id l) (sym bytes_are) (
            subst (λ (n : ℕ). HoldsAtMostOne n first.id (frames.bytes ++ fetches.piece)) gathers.limit (
            subst (λ (n : ℕ). HoldsAtMostOne frames.limit n (frames.bytes ++ fetches.piece)) gathers.id (
            exact_after frames.limit frames.id wants frames.bytes fetches.piece (wanted.part some) fetches.fits)));
        sent = λ t. sent (gathers.tells.0 t) ∙ gathers.sent t;
        stream = λ t. ap (λ (l : List ℕ). l ++ stream (of.told next)) bytes_are ∙ append_assoc frames.bytes fetches.piece (stream (of.told next)) ∙ ap (λ (l : List ℕ). frames.bytes ++ l) (sym (fetches.stream (gathers.tells.0 t))) ∙ gathers.stream t;
        stays = stays_on of joins start link next gathers.stays stays;
        was_alive = λ some h. gathers.stays.back h (fetches.was_alive (gathers.stays.honest.0 h));
        gives = λ serving.
            let first_gives = gathers.gives serving in
            let piece_gives = fetches.gives (gathers.stays.honest.0 serving.honest) in
            record {
              alive = piece_gives.alive;
              state = piece_gives.state ∙ first_gives.state;
              waits = first_gives.waits ∙ ap (λ (l : List ℕ). frames.bytes ++ l) piece_gives.waits ∙ sym (append_assoc frames.bytes fetches.piece (of.served next).waiting) ∙ ap (λ (l : List ℕ). l ++ (of.served next).waiting) (sym bytes_are);
            };
      }

  -- where a whole message waited at the start, some of it waits as long as it isn't whole
  pub gathered_waits : (start link : L) (first frames : Unread) (taken_first taken wants : ℕ) → HoldsTaken of (reader_at start first taken_first) (reader_at link frames taken) → (IsServing of start → MessageWaits first.id (of.served start).waiting) → 0 < wants → Wants frames.limit frames.id frames.bytes wants
      → IsServing of link → (of.served link).waiting ≢ []
  gathered_waits start link first frames taken_first taken wants gathers waits some wanted serving none =
      let before : IsServing of start = record { honest = gathers.stays.honest.1 serving.honest; alive = gathers.stays.back (gathers.stays.honest.1 serving.honest) serving.alive } in
      let message = waits before in
      part_is_not_all frames.limit frames.id wants message.message frames.bytes message.after
      (sym (append-nil frames.bytes) ∙ ap (λ (l : List ℕ). frames.bytes ++ l) (sym none) ∙ sym (gathers.gives before).waits ∙ message.waits ∙ ap (λ (n : ℕ). packets n message.message ++ message.after) (sym gathers.id))
      (wanted.part some)

  module _ (start link : L) (first frames : Unread) (taken_first taken : ℕ) (gathers : HoldsTaken of (reader_at start first taken_first) (reader_at link frames taken)) (limited : first.limit ≡ 67108864) (inside : taken ≤ 2 ^ 62) where
    ends_exactly : (new : Unread) → Passes frames new → new.bytes ≡ []
    ends_exactly new passes =
        gathers.exact.ends new.message new.bytes (subst (λ (n : ℕ). HasMessage n first.id new.message frames.bytes new.bytes) gathers.limit (subst (λ (n : ℕ). HasMessage frames.limit n new.message frames.bytes new.bytes) gathers.id passes.message))

    pub gathered_all : (new : Unread) → Passes frames new → new.bytes ≡ []
    gathered_all new passes = ends_exactly new passes

    whole_size : (new : Unread) → Passes frames new → length frames.bytes ≡ length new.message + 4 * packet_count (length new.message)
    whole_size new passes =
        let size = packets_length frames.id new.message in
        let bytes_are : frames.bytes ≡ packets frames.id new.message = passes.message.bytes_are ∙ ap (λ (l : List ℕ). packets frames.id new.message ++ l) (ends_exactly new passes) ∙ append-nil (packets frames.id new.message) in
        let same : length frames.bytes ≡ length (packets frames.id new.message) = ap (λ (l : List ℕ). length l) bytes_are in
        omega arith

    pub gathered_place : (E : Type 0) (result : Result (Unit {0}) E) (new : Unread) → OnOk result (Passes frames new) → OnErr result (new ≡ frames) → first.place ≤ taken_first → new.place ≤ taken
    gathered_place E (Ok done) new passes same below =
        let size = whole_size new passes in
        let place = passes.place in
        let at = gathers.place in
        let all = gathers.taken in
        omega arith
    gathered_place E (Err fault) new passes same below =
        let place : new.place ≡ frames.place = ap (λ (u : Unread). u.place) same in
        let at = gathers.place in
        let all = gathers.taken in
        omega arith

    pub gathered_onward : (new : Unread) → Passes frames new → IsOnward taken_first taken
    gathered_onward new passes = let size = whole_size new passes in let all = gathers.taken in record { more = omega arith; within = inside }

    pub gathered_hears : (new : Unread) → Passes frames new → of.tells start → Hears new.message (wire_at of (link_at start taken_first first.id)) (wire_at of (link_at link taken new.id))
    gathered_hears new passes t =
        let size = whole_size new passes in
        let all = gathers.taken in
        let short = passes.message.short in
        let limit = gathers.limit in
        let bytes_are : frames.bytes ≡ packets frames.id new.message = passes.message.bytes_are ∙ ap (λ (l : List ℕ). packets frames.id new.message ++ l) (ends_exactly new passes) ∙ append-nil (packets frames.id new.message) in
        record {
          short = omega arith;
          stream = sym (gathers.stream t) ∙ ap (λ (l : List ℕ). l ++ stream (of.told link)) (bytes_are ∙ ap (λ (n : ℕ). packets n new.message) gathers.id);
          place = omega arith;
          within = inside;
          id = passes.id ∙ ap (λ (n : ℕ). id_after (packet_count (length new.message)) n) gathers.id;
          sent = gathers.sent t;
        }

    pub gathered_alive : (new : Unread) → Passes frames new → of.honest start → (of.served start).failed ≡ false
    gathered_alive new passes = let size = whole_size new passes in gathers.was_alive (omega arith)

    pub gathered_delivers : (new : Unread) → Passes frames new → IsServing of start → Delivers of new.message start first.id link new.id
    gathered_delivers new passes serving =
        let gives = gathers.gives serving in
        let bytes_are : frames.bytes ≡ packets frames.id new.message = passes.message.bytes_are ∙ ap (λ (l : List ℕ). packets frames.id new.message ++ l) (ends_exactly new passes) ∙ append-nil (packets frames.id new.message) in
        record {
          gives = record { alive = gives.alive; state = gives.state; waits = gives.waits ∙ ap (λ (l : List ℕ). l ++ (of.served link).waiting) (bytes_are ∙ ap (λ (n : ℕ). packets n new.message) gathers.id) };
          id = passes.id ∙ ap (λ (n : ℕ). id_after (packet_count (length new.message)) n) gathers.id;
        }

    pub gathered_next : (new : Unread) → Passes frames new → HearsNext of new.message (link_at start taken_first first.id) (link_at link taken new.id)
    gathered_next new passes = record {
      alive = gathered_alive new passes;
      delivers = gathered_delivers new passes;
      onward = gathered_onward new passes;
      heard = gathered_hears new passes;
    }

    pub gathered_reader : (E : Type 0) (result : Result (Unit {0}) E) (new : Unread) → OnOk result (Passes frames new) → OnErr result (new ≡ frames) → IsReader first taken_first → IsReader new taken
    gathered_reader E (Ok done) new passes same before = record { limit = passes.limit ∙ gathers.limit ∙ before.limit; place = gathered_place E (Ok done) new passes same before.place; within = inside }
    gathered_reader E (Err fault) new passes same before = record { limit = ap (λ (u : Unread). u.limit) same ∙ gathers.limit ∙ before.limit; place = gathered_place E (Err fault) new passes same before.place; within = inside }

    wrong_here : (fault : FrameFault) → IsWrong frames.limit frames.id frames.bytes fault → of.tells start → IsWrong 67108864 first.id (within (wire_at of (link_at start taken_first first.id))) fault
    wrong_here fault wrong t =
        let all = gathers.taken in
        wrong_within first.id (2 ^ 62 - taken_first) frames.bytes (stream (of.told link)) (stream (of.told start)) fault (omega arith) (gathers.stream t)
        (subst (λ (n : ℕ). IsWrong n first.id frames.bytes fault) (gathers.limit ∙ limited) (subst (λ (n : ℕ). IsWrong frames.limit n frames.bytes fault) gathers.id wrong))

    pub gathered_wrong : (fault : SessionFault) (id : ℕ) → Unsettled frames taken_first fault → of.tells start → Misheard (wire_at of (link_at start taken_first first.id)) fault (wire_at of (link_at link taken id))
    gathered_wrong Link id why t = absurd why
    gathered_wrong (Refused form refusal) id why t = absurd why
    gathered_wrong (Garbled place) id why t = record {
      place_is = why.place_is;
      order = record { found = why.found; wanted = why.wanted; wrong = wrong_here (BadSequence why.found why.wanted) why.wrong t };
      silent = gathers.sent t;
    }
    gathered_wrong (NotProtocol10 version) id why t = absurd why
    gathered_wrong (PluginUnsupported name) id why t = absurd why
    gathered_wrong (TooLong size) id why t = (wrong_here (FrameTooLong size) why t, gathers.sent t)
    gathered_wrong StreamTooLong id why t = absurd why
    gathered_wrong OutOfMemory id why t = absurd why

    pub gathered_part : (fault : SessionFault) (wants id taken_now : ℕ) (next : L) → 0 < wants → Wants frames.limit frames.id frames.bytes wants → (of.tells link → (of.told next).sent ≡ (of.told link).sent) → Unfetched taken fault
        → of.tells start → Misheard (wire_at of (link_at start taken_first first.id)) fault (wire_at of (link_at next taken_now id))
    gathered_part Link wants id taken_now next some wanted sent why t = sent (gathers.tells.0 t) ∙ gathers.sent t
    gathered_part (Refused form refusal) wants id taken_now next some wanted sent why t = absurd why
    gathered_part (Garbled place) wants id taken_now next some wanted sent why t = absurd why
    gathered_part (NotProtocol10 version) wants id taken_now next some wanted sent why t = absurd why
    gathered_part (PluginUnsupported name) wants id taken_now next some wanted sent why t = absurd why
    gathered_part (TooLong size) wants id taken_now next some wanted sent why t = absurd why
    gathered_part StreamTooLong wants id taken_now next some wanted sent why t =
        let all = gathers.taken in
        let whole : frames.bytes ≡ take (2 ^ 62 - taken_first) (stream (of.told start)) = full_within (2 ^ 62 - taken_first) frames.bytes (stream (of.told link)) (stream (of.told start)) (omega arith) (gathers.stream t) in
        let size : length (take (2 ^ 62 - taken_first) (stream (of.told start))) ≡ length frames.bytes = ap (λ (l : List ℕ). length l) (sym whole) in (
          record {
            more = wants;
            part =
                subst (λ (l : List ℕ). IsPart 67108864 first.id wants l) whole (
                subst (λ (n : ℕ). IsPart n first.id wants frames.bytes) (gathers.limit ∙ limited) (subst (λ (n : ℕ). IsPart frames.limit n wants frames.bytes) gathers.id (wanted.part some)));
            full = omega arith;
          },
          sent (gathers.tells.0 t) ∙ gathers.sent t,
        )
    gathered_part OutOfMemory wants id taken_now next some wanted sent why t = sent (gathers.tells.0 t) ∙ gathers.sent t

    pub settled_keeps : (result : Result (Unit {0}) SessionFault) → IfErr result (Unsettled frames taken_first) → KeepsLink of start link result
    settled_keeps (Ok done) why = keeps_ok of done start link gathers.stays gathers.tells gathers.later
    settled_keeps (Err fault) why = keeps_err of fault start link gathers.stays gathers.tells gathers.later (λ is. absurd (subst (λ (f : SessionFault). Unsettled frames taken_first f) is why))

    unsettled_kind : (fault : SessionFault) → Unsettled frames taken_first fault → IsOfChannel fault
    unsettled_kind Link why = absurd why
    unsettled_kind (Refused form refusal) why = absurd why
    unsettled_kind (Garbled place) why = tt
    unsettled_kind (NotProtocol10 version) why = absurd why
    unsettled_kind (PluginUnsupported name) why = absurd why
    unsettled_kind (TooLong size) why = tt
    unsettled_kind StreamTooLong why = absurd why
    unsettled_kind OutOfMemory why = absurd why

    wrong_is : (fault : FrameFault) → IsWrong frames.limit frames.id frames.bytes fault → IsWrong 67108864 first.id frames.bytes fault
    wrong_is fault wrong = subst (λ (n : ℕ). IsWrong n first.id frames.bytes fault) (gathers.limit ∙ limited) (subst (λ (n : ℕ). IsWrong frames.limit n frames.bytes fault) gathers.id wrong)

    unsettled_why : (fault : SessionFault) (message after : List ℕ) → Unsettled frames taken_first fault → frames.bytes ++ (of.served link).waiting ≡ packets first.id message ++ after → IsUnheard message taken_first fault
    unsettled_why Link message after why same = absurd why
    unsettled_why (Refused form refusal) message after why same = absurd why
    unsettled_why (Garbled place) message after why same = in_order first.id why.found why.wanted message after frames.bytes (of.served link).waiting same (wrong_is (BadSequence why.found why.wanted) why.wrong)
    unsettled_why (NotProtocol10 version) message after why same = absurd why
    unsettled_why (PluginUnsupported name) message after why same = absurd why
    unsettled_why (TooLong size) message after why same = longer first.id size message after frames.bytes (of.served link).waiting same (wrong_is (FrameTooLong size) why)
    unsettled_why StreamTooLong message after why same = absurd why
    unsettled_why OutOfMemory message after why same = absurd why

    pub gathered_none : (fault : SessionFault) (id : ℕ) → Unsettled frames taken_first fault → HearsNone of (link_at start taken_first first.id) (link_at link taken id) fault
    gathered_none fault id why = record {
      kind = unsettled_kind fault why;
      served = λ serving. record {
        state = (gathers.gives serving).state;
        unheard = λ message after waits. unsettled_why fault message after why (sym (gathers.gives serving).waits ∙ waits);
      };
      misheard = gathered_wrong fault id why;
    }

    unfetched_kind : (fault : SessionFault) → Unfetched taken fault → IsOfChannel fault
    unfetched_kind Link why = tt
    unfetched_kind (Refused form refusal) why = absurd why
    unfetched_kind (Garbled place) why = absurd why
    unfetched_kind (NotProtocol10 version) why = absurd why
    unfetched_kind (PluginUnsupported name) why = absurd why
    unfetched_kind (TooLong size) why = absurd why
    unfetched_kind StreamTooLong why = tt
    unfetched_kind OutOfMemory why = tt

    unfetched_why : (fault : SessionFault) (wants : ℕ) (message after : List ℕ) → IsPart frames.limit frames.id wants frames.bytes → Unfetched taken fault → frames.bytes ++ (of.served link).waiting ≡ packets first.id message ++ after → IsUnheard message taken_first fault
    unfetched_why Link wants message after part why same = tt
    unfetched_why (Refused form refusal) wants message after part why same = absurd why
    unfetched_why (Garbled place) wants message after part why same = absurd why
    unfetched_why (NotProtocol10 version) wants message after part why same = absurd why
    unfetched_why (PluginUnsupported name) wants message after part why same = absurd why
    unfetched_why (TooLong size) wants message after part why same = absurd why
    unfetched_why StreamTooLong wants message after part why same =
        let all = gathers.taken in
        let less = unended frames.limit first.id wants message after frames.bytes (of.served link).waiting same (subst (λ (n : ℕ). IsPart frames.limit n wants frames.bytes) gathers.id part) in
        omega arith
    unfetched_why OutOfMemory wants message after part why same = tt

    pub fetched_none : (fault : SessionFault) (wants id taken_now : ℕ) (next : L) → 0 < wants → Wants frames.limit frames.id frames.bytes wants → SaysNothing of link next → Unfetched taken fault
        → HearsNone of (link_at start taken_first first.id) (link_at next taken_now id) fault
    fetched_none fault wants id taken_now next some wanted says why = record {
      kind = unfetched_kind fault why;
      served = λ serving. record {
        state = says.state (gathers.stays.honest.0 serving.honest) ∙ (gathers.gives serving).state;
        unheard = λ message after waits. unfetched_why fault wants message after (wanted.part some) why (sym (gathers.gives serving).waits ∙ waits);
      };
      misheard = gathered_part fault wants id taken_now next some wanted says.sent why;
    }
