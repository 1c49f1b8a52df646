-- What the calls of a link do, where its server is honest.
use Rattle.std.proofs.Common.{◌≡◌, ℕ, Bool, true, false, List, ◌++◌, length, take, refl, sym, ◌∙◌, ap, subst, arith, append_assoc, Result, Ok, Err}
use Rattle.std.proofs.lemmas.Bool.{false≢true}
use Rattle.honest_server.specs.Exchange.{Replies, packets_from}
use Rattle.honest_server.specs.Link.{ServedLink, SendsTo, Receives, IsExchanged, TellsNoMore}
use Rattle.honest_server.specs.Moves.{Way}
use Rattle.link_traits.specs.Link.{ReceivesAsTold as TakesTold, StaysLink, stream, concatenation}
use Rattle.link_traits.specs.declared.link.Link.{Ghosts}
use Rattle.wire_forms.specs.Packet.{packets, packet_count, id_after}
use Rattle.my_session.proofs.Effects.{exchanges_terms, breaks_terms}
use Rattle.my_session.proofs.Payloads.{one_payload}
use Rattle.my_session.specs.Served.{IsSeenBy}
use Rattle.my_session.specs.Serving.{Stays, Gives, Replied}

by_failed : {P : Type 0} (failed : Bool) → (failed ≡ false → P) → (failed ≡ true → P) → P
by_failed true alive dead = dead refl
by_failed false alive dead = alive refl

received_terms : {E : Type 0} (old new : ServedLink) (buffer : List ℕ) (result : Result ℕ E) → Receives old buffer result new → new.state.terms ≡ old.state.terms
received_terms old new buffer (Ok count) receives = ap (λ s. s.terms) receives.ok.1.state
received_terms old new buffer (Err fault) receives = ap (λ (s : ServedLink). s.state.terms) receives.err

received_back : {E : Type 0} (old new : ServedLink) (buffer : List ℕ) (result : Result ℕ E) → Receives old buffer result new → new.failed ≡ false → old.failed ≡ false
received_back old new buffer (Ok count) receives alive = receives.ok.0
received_back old new buffer (Err fault) receives alive = absurd (false≢true (sym alive ∙ ap (λ (s : ServedLink). s.failed) receives.err))

received_wide : {E : Type 0} (old new : ServedLink) (buffer : List ℕ) (result : Result ℕ E) → Receives old buffer result new → new.keeps_wide ≡ old.keeps_wide
received_wide old new buffer (Ok count) receives = receives.ok.1.wide
received_wide old new buffer (Err fault) receives = ap (λ (s : ServedLink). s.keeps_wide) receives.err

sent_terms : {T E : Type 0} (way : Way) (old new : ServedLink) (message : List ℕ) (result : Result T E) → SendsTo way old message result new → new.state.terms ≡ old.state.terms
sent_terms way old new message (Ok sent) sends = exchanges_terms way old.state message sends.ok.1.reply new.state sends.ok.1.exchanges
sent_terms way old new message (Err fault) sends = by_failed old.failed (λ alive. breaks_terms way old new message (sends.err alive)) (λ failed. ap (λ (s : ServedLink). s.state.terms) (sends.dead failed))

sent_back : {T E : Type 0} (way : Way) (old new : ServedLink) (message : List ℕ) (result : Result T E) → SendsTo way old message result new → new.failed ≡ false → old.failed ≡ false
sent_back way old new message (Ok sent) sends alive = sends.ok.0
sent_back way old new message (Err fault) sends alive = by_failed old.failed (λ e. e) (λ failed. ap (λ (s : ServedLink). s.failed) (sym (sends.dead failed)) ∙ alive)

sent_wide : {T E : Type 0} (way : Way) (old new : ServedLink) (message : List ℕ) (result : Result T E) → SendsTo way old message result new → TellsNoMore old.keeps_wide new.keeps_wide
sent_wide way old new message (Ok sent) sends tells = sends.ok.1.wide tells
sent_wide way old new message (Err fault) sends tells = by_failed old.failed (λ alive. (sends.err alive).wide tells) (λ failed. ap (λ (s : ServedLink). s.keeps_wide) (sym (sends.dead failed)) ∙ tells)

module _ {L : Type 0} (of : Ghosts L) where
  -- a piece that was taken off a link
  pub taken_off : (old new : L) (E : Type 0) (count : ℕ) (buffer : List ℕ) → (of.tells old → TakesTold {E = E} (of.told old) buffer (Ok count) (of.told new)) → of.tells old → stream (of.told old) ≡ take count buffer ++ stream (of.told new)
  taken_off old new E count buffer received t =
      let off = (received t).ok in
      ap (λ (l : List ℕ). l ++ concatenation (of.told old).coming) off.bytes ∙ append_assoc (take count buffer) (of.told new).waiting (concatenation (of.told old).coming) ∙ ap (λ (c : List (List ℕ)). take count buffer ++ ((of.told new).waiting ++ concatenation c)) (sym off.coming)

module _ {L : Type 0} (of : Ghosts L) (old new : L) where
  module _ (E : Type 0) (buffer : List ℕ) where
    pub recv_stays : (result : Result ℕ E) → StaysLink of.honest of.tells of.same_origin old new → (of.honest old → Receives (of.served old) buffer result (of.served new)) → Stays of old new
    recv_stays result stays served = record {
      honest = stays.still_honest;
      origin = stays.origin;
      terms = λ h. received_terms (of.served old) (of.served new) buffer result (served h);
      back = λ h. received_back (of.served old) (of.served new) buffer result (served h);
      wide = λ h tells. sym (received_wide (of.served old) (of.served new) buffer result (served h)) ∙ tells;
    }

    module _ (count : ℕ) (served : of.honest old → Receives {E = E} (of.served old) buffer (Ok count) (of.served new)) where
      pub recv_alive : of.honest old → (of.served old).failed ≡ false
      recv_alive h = (served h).ok.0

      pub recv_gives : of.honest old → Gives of (take count buffer) old new
      recv_gives h =
          let off = (served h).ok.1 in
          record { alive = off.alive; state = off.state; waits = sym off.bytes }

  module _ (T E : Type 0) (message : List ℕ) where
    pub send_stays : (way : Way) (result : Result T E) → StaysLink of.honest of.tells of.same_origin old new → (of.honest old → SendsTo way (of.served old) message result (of.served new)) → Stays of old new
    send_stays way result stays served = record {
      honest = stays.still_honest;
      origin = stays.origin;
      terms = λ h. sent_terms way (of.served old) (of.served new) message result (served h);
      back = λ h. sent_back way (of.served old) (of.served new) message result (served h);
      wide = λ h. sent_wide way (of.served old) (of.served new) message result (served h);
    }

  -- what is answered to the packets of a payload
  module _ (way : Way) (id : ℕ) (payload : List ℕ) (answered : IsExchanged way (of.served old) (packets id payload) (of.served new)) where
    pub replied : (of.served old).failed ≡ false → IsSeenBy way (of.served old).state → Replied of way payload old new (id_after (packet_count (length payload)) id)
    replied alive before =
        let exchanges = answered.exchanges in
        let same = one_payload id exchanges.is_message.id payload exchanges.payload exchanges.is_message.message_is in
        let ids = same.ids in
        let size : length payload ≡ length exchanges.payload = ap (λ (l : List ℕ). length l) same.payload in
        let after : id_after (packet_count (length exchanges.payload)) exchanges.is_message.id ≡ id_after (packet_count (length payload)) id = omega arith in
        record {
          messages = exchanges.messages;
          replies = subst (λ (l : List ℕ). Replies way (of.served old).state l exchanges.messages (of.served new).state) (sym same.payload) exchanges.replies;
          before = before;
          was_alive = alive;
          alive = answered.alive;
          waits = answered.waits ∙ ap (λ (l : List ℕ). (of.served old).waiting ++ l) (exchanges.reply_is ∙ ap (λ (n : ℕ). packets_from n exchanges.messages) after);
        }
