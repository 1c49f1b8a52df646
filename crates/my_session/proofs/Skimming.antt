-- A message that is taken off a link piece by piece, of which the front is kept.
use Rattle.std.proofs.Common.{◌≡◌, ◌≤◌, ◌<◌, ◌+◌, ◌-◌, ◌*◌, ◌/◌, ◌^◌, ◌↔◌, ◌≢◌, ℕ, List, [], ◌++◌, length, take, refl, sym, ◌∙◌, ap, subst, arith, append_assoc, length-append, None, Ok, Err}
use Rattle.std.proofs.lemmas.List.{append-nil, length-take-le, take-append-le}
use Rattle.honest_server.specs.Link.{Receives as TakesServed}
use Rattle.link_traits.specs.Link.{ReceivesAsTold, stream}
use Rattle.link_traits.specs.declared.link.Link.{Ghosts}
use Rattle.my_packets.proofs.Packets.{packets_length}
use Rattle.my_packets.specs.Begins.{IsWrong}
use Rattle.my_packets.specs.Front.{IsPart, Wants}
use Rattle.wire_forms.specs.Packet.{packets, packet_count, id_after}
use Rattle.my_packets.specs.Skimmed.{Skimmed}
use Rattle.my_packets.specs.Skims.{Skims, IsAt, IsReadWhole, wanted, Feeds, wanted_at, fault_of, skim_fault}
use Rattle.my_packets.specs.declared.frames.FrameFault.{FrameFault}
use Rattle.my_packets.specs.declared.frames.FrameFault.TheVariants.{BadSequence, TooLong as FrameTooLong}
use Rattle.my_packets.specs.declared.skim.Stage.{Stage}
use Rattle.my_packets.specs.declared.skim.Stage.TheVariants.{Header, Packet, Whole, Wrong}
use Rattle.my_session.proofs.Links.{taken_off, recv_gives}
use Rattle.my_session.proofs.Payloads.{part_is_not_all}
use Rattle.my_session.proofs.Staying.{stays_begin, stays_on}
use Rattle.my_session.proofs.Unheard.{in_order, longer, unended}
use Rattle.my_session.proofs.Within.{wrong_within, full_within}
use Rattle.my_session.specs.Channel.{wire_at, packets_within, HearsNone, IsOfChannel, SkimsTo, HearsFront as Skimming}
use Rattle.my_session.specs.Session.{link_at}
use Rattle.my_session.specs.Halt.{Misheard}
use Rattle.my_session.specs.Receiving.{SaysNothing, SkimsPiece, Spoils, Drains, Unskimmed, skimmer_at}
use Rattle.my_session.specs.Serving.{IsServing, IsUnheard, MessageWaits, Stays, Gives, DeliversFront}
use Rattle.my_session.specs.Wire.{within}
use Rattle.my_session.specs.declared.fault.SessionFault.{SessionFault}
use Rattle.my_session.specs.declared.fault.SessionFault.TheVariants.{Link, Refused, Garbled, NotProtocol10, PluginUnsupported, TooLong, StreamTooLong, OutOfMemory}

-- a skim that wants nothing, and found nothing wrong, has read the message
read_at : (seq limit : ℕ) (fed : List ℕ) (skim : Skimmed) (stage : Stage) → IsAt seq limit fed skim stage → wanted_at stage skim.header ≡ 0 → skim_fault stage ≡ None → IsReadWhole seq limit fed skim
read_at seq limit fed skim Header at none right = let less = at.less in absurd (omega arith)
read_at seq limit fed skim (Packet size left) at none right = let some = at.some in absurd (omega arith)
read_at seq limit fed skim Whole at none right = at
read_at seq limit fed skim (Wrong fault) at none right = absurd (cc)

-- the packets of a message, by their bytes
counted_by : (size count bytes : ℕ) → count ≡ size / 16777215 + 1 → bytes ≡ size + 4 * count → packets_within bytes ≡ count
counted_by size count bytes count_is bytes_is = omega arith

module _ {L : Type 0} (of : Ghosts L) where
  pub skims_piece : (old new : L) (E : Type 0) (before now : Skimmed) (done : Unit {0}) (taken count : ℕ) (buffer rest : List ℕ) → (of.tells old → ReceivesAsTold {E = E} (of.told old) buffer (Ok count) (of.told new)) → (of.honest old → TakesServed {E = E} (of.served old) buffer (Ok count) (of.served new))
      → Feeds before (take count (buffer ++ rest)) (Ok done) now → 0 < count → count ≤ length buffer
      → SkimsPiece of (skimmer_at old before taken) (skimmer_at new now (taken + count))
  skims_piece old new E before now done taken count buffer rest received served feeds some fits =
      let is : take count (buffer ++ rest) ≡ take count buffer = take-append-le count buffer rest fits in
      let size : length (take count buffer) ≡ count = length-take-le count buffer fits in
      let same : length (take count (buffer ++ rest)) ≡ length (take count buffer) = ap (λ (l : List ℕ). length l) is in
      record {
        piece = take count (buffer ++ rest);
        some = omega arith;
        follows = feeds.follows;
        right = feeds.stands;
        taken = omega arith;
        stream = λ t. taken_off of old new E count buffer received t ∙ ap (λ (l : List ℕ). l ++ stream (of.told new)) (sym is);
        gives = λ h. subst (λ (l : List ℕ). Gives of l old new) (sym is) (recv_gives of old new E buffer count served h);
      }

  pub spoils_piece : (old new : L) (E : Type 0) (before now : Skimmed) (fault : FrameFault) (taken count : ℕ) (buffer rest : List ℕ) → (of.tells old → ReceivesAsTold {E = E} (of.told old) buffer (Ok count) (of.told new)) → (of.honest old → TakesServed {E = E} (of.served old) buffer (Ok count) (of.served new)) → Feeds before (take count (buffer ++ rest)) (Err fault) now → count ≤ length buffer → taken + count ≤ 2 ^ 62
      → Spoils of (skimmer_at old before taken) new fault
  spoils_piece old new E before now fault taken count buffer rest received served feeds fits inside =
      let is : take count (buffer ++ rest) ≡ take count buffer = take-append-le count buffer rest fits in
      let size : length (take count buffer) ≡ count = length-take-le count buffer fits in
      let same : length (take count (buffer ++ rest)) ≡ length (take count buffer) = ap (λ (l : List ℕ). length l) is in
      record {
        piece = take count (buffer ++ rest);
        within = omega arith;
        wrong = feeds.wrong;
        stream = λ t. taken_off of old new E count buffer received t ∙ ap (λ (l : List ℕ). l ++ stream (of.told new)) (sym is);
        gives = λ h. subst (λ (l : List ℕ). Gives of l old new) (sym is) (recv_gives of old new E buffer count served h);
      }

  pub drains_none : ((one : L) → of.same_origin one one) → (link : L) (seq taken : ℕ) (skim : Skimmed) → Skims seq 67108864 [] skim → fault_of skim ≡ None → Drains of (link_at link taken seq) (skimmer_at link skim taken)
  drains_none begins link seq taken skim skims right = record {
    tells = (λ t. t, λ t. t);
    later = omega arith;
    fed = [];
    skims = skims;
    right = right;
    taken = omega arith;
    sent = λ t. refl;
    stream = λ t. refl;
    stays = stays_begin of begins link;
    gives = λ serving. record { alive = serving.alive; state = refl; waits = refl };
  }

  module _ (start link : L) (seq taken_first taken : ℕ) (skim : Skimmed) (drains : Drains of (link_at start taken_first seq) (skimmer_at link skim taken)) where
    pub drains_more : ((one next last : L) → of.same_origin one next → of.same_origin next last → of.same_origin one last) → (next : L) (now : Skimmed) (taken_now : ℕ) → (of.tells link ↔ of.tells next) → of.faults link ≤ of.faults next → (of.tells link → (of.told next).sent ≡ (of.told link).sent) → Stays of link next → SkimsPiece of (skimmer_at link skim taken) (skimmer_at next now taken_now) → Drains of (link_at start taken_first seq) (skimmer_at next now taken_now)
    drains_more joins next now taken_now tells later sent stays step =
        let all = length-append drains.fed step.piece in
        let before = drains.taken in
        let after = step.taken in
        let once = drains.later in
        record {
          tells = (λ t. tells.0 (drains.tells.0 t), λ t. drains.tells.1 (tells.1 t));
          later = omega arith;
          fed = drains.fed ++ step.piece;
          skims = step.follows seq 67108864 drains.fed drains.skims;
          right = step.right;
          taken = omega arith;
          sent = λ t. sent (drains.tells.0 t) ∙ drains.sent t;
          stream = λ t. append_assoc drains.fed step.piece (stream (of.told next)) ∙ ap (λ (l : List ℕ). drains.fed ++ l) (sym (step.stream (drains.tells.0 t))) ∙ drains.stream t;
          stays = stays_on of joins start link next drains.stays stays;
          gives = λ serving.
              let first_gives = drains.gives serving in
              let piece_gives = step.gives (drains.stays.honest.0 serving.honest) in
              record {
                alive = piece_gives.alive;
                state = piece_gives.state ∙ first_gives.state;
                waits = first_gives.waits ∙ ap (λ (l : List ℕ). drains.fed ++ l) piece_gives.waits ∙ sym (append_assoc drains.fed step.piece (of.served next).waiting);
              };
        }

    -- where a whole message waited at the start, some of it waits as long as it isn't whole
    pub drained_waits : (wants : ℕ) → (IsServing of start → MessageWaits seq (of.served start).waiting) → 0 < wants → Wants 67108864 seq drains.fed wants → IsServing of link → (of.served link).waiting ≢ []
    drained_waits wants waits some wanted serving none =
        let before : IsServing of start = record { honest = drains.stays.honest.1 serving.honest; alive = drains.stays.back (drains.stays.honest.1 serving.honest) serving.alive } in
        let message = waits before in
        part_is_not_all 67108864 seq wants message.message drains.fed message.after
        (sym (append-nil drains.fed) ∙ ap (λ (l : List ℕ). drains.fed ++ l) (sym none) ∙ sym (drains.gives before).waits ∙ message.waits)
        (wanted.part some)

    module _ (inside : taken ≤ 2 ^ 62) where
      module _ (wants : wanted skim ≡ 0) where
        read : IsReadWhole seq 67108864 drains.fed skim
        read = read_at seq 67108864 drains.fed skim skim.stage drains.skims.at wants drains.right

        fed_is : drains.fed ≡ packets seq read.message
        fed_is = read.whole.bytes_are ∙ append-nil (packets seq read.message)

        fed_size : length drains.fed ≡ length read.message + 4 * packet_count (length read.message)
        fed_size = ap (λ (l : List ℕ). length l) fed_is ∙ packets_length seq read.message

        pub drained_size : 4 ≤ taken - taken_first
        drained_size = let size = fed_size in let all = drains.taken in omega arith

        pub drained_hears : of.tells start → Skimming skim (wire_at of (link_at start taken_first seq)) (wire_at of (link_at link taken (id_after (packets_within (taken - taken_first)) seq)))
        drained_hears t =
            let size = fed_size in
            let all = drains.taken in
            let counts : packets_within (taken - taken_first) ≡ packet_count (length read.message) = counted_by (length read.message) (packet_count (length read.message)) (taken - taken_first) refl (omega arith) in
            record {
              message = read.message;
              heard = record {
                short = read.whole.short;
                stream = sym (drains.stream t) ∙ ap (λ (l : List ℕ). l ++ stream (of.told link)) fed_is;
                place = omega arith;
                within = inside;
                id = ap (λ (n : ℕ). id_after n seq) counts;
                sent = drains.sent t;
              };
              skims = subst (λ (l : List ℕ). Skims seq 67108864 l skim) fed_is drains.skims;
            }

        pub drained_delivers : IsServing of start → DeliversFront of skim start seq link (id_after (packets_within (taken - taken_first)) seq)
        drained_delivers serving =
            let size = fed_size in
            let all = drains.taken in
            let gives = drains.gives serving in
            let counts : packets_within (taken - taken_first) ≡ packet_count (length read.message) = counted_by (length read.message) (packet_count (length read.message)) (taken - taken_first) refl (omega arith) in
            record {
              message = read.message;
              delivers = record {
                gives = record { alive = gives.alive; state = gives.state; waits = gives.waits ∙ ap (λ (l : List ℕ). l ++ (of.served link).waiting) fed_is };
                id = ap (λ (n : ℕ). id_after n seq) counts;
              };
              skims = subst (λ (l : List ℕ). Skims seq 67108864 l skim) fed_is drains.skims;
            }

        pub drained_to : SkimsTo of skim (link_at start taken_first seq) link taken
        drained_to = record { delivers = drained_delivers; heard = drained_hears }

      spoilt_here : (next : L) (fault : FrameFault) → Spoils of (skimmer_at link skim taken) next fault → of.tells start → IsWrong 67108864 seq (within (wire_at of (link_at start taken_first seq))) fault
      spoilt_here next fault spoils t =
          let all = length-append drains.fed spoils.piece in
          let before = drains.taken in
          let fits = spoils.within in
          wrong_within seq (2 ^ 62 - taken_first) (drains.fed ++ spoils.piece) (stream (of.told next)) (stream (of.told start)) fault (omega arith)
          (append_assoc drains.fed spoils.piece (stream (of.told next)) ∙ ap (λ (l : List ℕ). drains.fed ++ l) (sym (spoils.stream (drains.tells.0 t))) ∙ drains.stream t)
          (spoils.wrong seq 67108864 drains.fed drains.skims)

      pub drained_not : (next : L) (fault : SessionFault) (wants taken_now id : ℕ) → 0 < wants → Wants 67108864 seq drains.fed wants → (of.tells link → (of.told next).sent ≡ (of.told link).sent) → Unskimmed of (skimmer_at link skim taken) next taken_first fault
          → of.tells start → Misheard (wire_at of (link_at start taken_first seq)) fault (wire_at of (link_at next taken_now id))
      drained_not next Link wants taken_now id some wanted sent why t = sent (drains.tells.0 t) ∙ drains.sent t
      drained_not next (Refused form refusal) wants taken_now id some wanted sent why t = absurd why
      drained_not next (Garbled place) wants taken_now id some wanted sent why t = record {
        place_is = why.place_is;
        order = record { found = why.found; wanted = why.wanted; wrong = spoilt_here next (BadSequence why.found why.wanted) why.spoils t };
        silent = sent (drains.tells.0 t) ∙ drains.sent t;
      }
      drained_not next (NotProtocol10 version) wants taken_now id some wanted sent why t = absurd why
      drained_not next (PluginUnsupported name) wants taken_now id some wanted sent why t = absurd why
      drained_not next (TooLong size) wants taken_now id some wanted sent why t = (spoilt_here next (FrameTooLong size) why t, sent (drains.tells.0 t) ∙ drains.sent t)
      drained_not next StreamTooLong wants taken_now id some wanted sent why t =
          let all = drains.taken in
          let whole : drains.fed ≡ take (2 ^ 62 - taken_first) (stream (of.told start)) = full_within (2 ^ 62 - taken_first) drains.fed (stream (of.told link)) (stream (of.told start)) (omega arith) (drains.stream t) in
          let size : length (take (2 ^ 62 - taken_first) (stream (of.told start))) ≡ length drains.fed = ap (λ (l : List ℕ). length l) (sym whole) in (
            record {
              more = wants;
              part = subst (λ (l : List ℕ). IsPart 67108864 seq wants l) whole (wanted.part some);
              full = omega arith;
            },
            sent (drains.tells.0 t) ∙ drains.sent t,
          )
      drained_not next OutOfMemory wants taken_now id some wanted sent why t = absurd why

      unskimmed_kind : (next : L) (fault : SessionFault) → Unskimmed of (skimmer_at link skim taken) next taken_first fault → IsOfChannel fault
      unskimmed_kind next Link why = tt
      unskimmed_kind next (Refused form refusal) why = absurd why
      unskimmed_kind next (Garbled place) why = tt
      unskimmed_kind next (NotProtocol10 version) why = absurd why
      unskimmed_kind next (PluginUnsupported name) why = absurd why
      unskimmed_kind next (TooLong size) why = tt
      unskimmed_kind next StreamTooLong why = tt
      unskimmed_kind next OutOfMemory why = absurd why

      -- what the skim was fed and then a piece is the front of what waited
      spoilt_front : (next : L) (fault : FrameFault) (spoils : Spoils of (skimmer_at link skim taken) next fault) (message after : List ℕ) → IsServing of start → (of.served start).waiting ≡ packets seq message ++ after → (drains.fed ++ spoils.piece) ++ (of.served next).waiting ≡ packets seq message ++ after
      spoilt_front next fault spoils message after serving waits =
          append_assoc drains.fed spoils.piece (of.served next).waiting ∙ ap (λ (l : List ℕ). drains.fed ++ l) (sym (spoils.gives (drains.stays.honest.0 serving.honest)).waits) ∙ sym (drains.gives serving).waits ∙ waits

      unskimmed_why : (next : L) (fault : SessionFault) (wants : ℕ) (message after : List ℕ) → IsServing of start → IsPart 67108864 seq wants drains.fed → Unskimmed of (skimmer_at link skim taken) next taken_first fault → (of.served start).waiting ≡ packets seq message ++ after → IsUnheard message taken_first fault
      unskimmed_why next Link wants message after serving part why waits = tt
      unskimmed_why next (Refused form refusal) wants message after serving part why waits = absurd why
      unskimmed_why next (Garbled place) wants message after serving part why waits =
          in_order seq why.found why.wanted message after (drains.fed ++ why.spoils.piece) (of.served next).waiting (spoilt_front next (BadSequence why.found why.wanted) why.spoils message after serving waits) (why.spoils.wrong seq 67108864 drains.fed drains.skims)
      unskimmed_why next (NotProtocol10 version) wants message after serving part why waits = absurd why
      unskimmed_why next (PluginUnsupported name) wants message after serving part why waits = absurd why
      unskimmed_why next (TooLong size) wants message after serving part why waits =
          longer seq size message after (drains.fed ++ why.piece) (of.served next).waiting (spoilt_front next (FrameTooLong size) why message after serving waits) (why.wrong seq 67108864 drains.fed drains.skims)
      unskimmed_why next StreamTooLong wants message after serving part why waits =
          let all = drains.taken in
          let less = unended 67108864 seq wants message after drains.fed (of.served link).waiting (sym (drains.gives serving).waits ∙ waits) part in
          omega arith
      unskimmed_why next OutOfMemory wants message after serving part why waits = absurd why

      pub drained_none : (next : L) (fault : SessionFault) (wants taken_now id : ℕ) → 0 < wants → Wants 67108864 seq drains.fed wants → SaysNothing of link next → Unskimmed of (skimmer_at link skim taken) next taken_first fault
          → HearsNone of (link_at start taken_first seq) (link_at next taken_now id) fault
      drained_none next fault wants taken_now id some wanted says why = record {
        kind = unskimmed_kind next fault why;
        served = λ serving. record {
          state = says.state (drains.stays.honest.0 serving.honest) ∙ (drains.gives serving).state;
          unheard = λ message after waits. unskimmed_why next fault wants message after serving (wanted.part some) why waits;
        };
        misheard = drained_not next fault wants taken_now id some wanted says.sent why;
      }
