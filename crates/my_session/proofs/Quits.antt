-- What COM_QUIT does over an honest server.
use Rattle.std.proofs.Common.{◌≡◌, ℕ, false, List, [], ◌∷◌, sym, ◌∙◌, subst, arith, inl, inr, None, Result, Ok, Err, OnOk, IfErr}
use Rattle.honest_server.specs.Exchange.{Replies, accepted, switched, turned_away, quits, served, unknown, ignored, Exchanges, CommitsAlone, IsLoggingIn, query_payload}
use Rattle.honest_server.specs.Link.{ServedLink, Breaks}
use Rattle.honest_server.specs.Moves.{plainly}
use Rattle.honest_server.specs.State.{State, Phase, in_session, closed_state}
use Rattle.link_traits.specs.declared.link.Link.{Ghosts}
use Rattle.wire_forms.specs.Packet.{packets}
use Rattle.my_session.proofs.Payloads.{one_payload}
use Rattle.my_session.proofs.Sending.{short_is_sent}
use Rattle.my_session.specs.Channel.{IsOfLink, SendsNone, SendsPackets, outgoing}
use Rattle.my_session.specs.Served.{ClosesServed, quits as is_closed, unsent, LeavesUnsaid}
use Rattle.my_session.specs.Fault.{session_result}
use Rattle.my_session.specs.declared.fault.ChannelFault.{ChannelFault}
use Rattle.my_session.specs.declared.fault.SessionFault.{SessionFault}

-- COM_QUIT as it is sent
abbrev quit : List ℕ
quit = 1 ∷ 0 ∷ 0 ∷ 0 ∷ 1 ∷ []

quit_is_sent : packets 0 (1 ∷ []) ≡ quit
quit_is_sent = short_is_sent 0 (1 ∷ []) (omega arith) (omega arith)

same_payload : (id : ℕ) (payload : List ℕ) → quit ≡ packets id payload → 1 ∷ [] ≡ payload
same_payload id payload is = (one_payload 0 id (1 ∷ []) payload (quit_is_sent ∙ is)).payload

replied_closes : (state : State) (payload : List ℕ) (messages : List (List ℕ)) (new : State) → state.phase ≡ in_session → 1 ∷ [] ≡ payload → Replies plainly state payload messages new → new ≡ closed_state state
replied_closes state payload messages new here is (accepted logging says new_is) = absurd (subst (λ (p : Phase). IsLoggingIn p) here logging)
replied_closes state payload messages new here is (switched message phase asks lean messages_are new_is) = absurd (cc)
replied_closes state payload messages new here is (turned_away refusal logging unwilling says new_is) = absurd (subst (λ (p : Phase). IsLoggingIn p) here logging)
replied_closes state payload messages new here is (quits phase payload_is messages_are new_is) = new_is
replied_closes state payload messages new here is (served text statement reply phase payload_is read serves spells) = absurd (cc)
replied_closes state payload messages new here is (unknown refusal more phase nothing gives says) = absurd (nothing.no_quit (sym is))
replied_closes state payload messages new here is (ignored phase messages_are new_is) = absurd (cc)

exchanged_closes : (state : State) (reply : List ℕ) (new : State) → state.phase ≡ in_session → Exchanges plainly state quit reply new → new ≡ closed_state state
exchanged_closes state reply new here exchanges = replied_closes state exchanges.payload exchanges.messages new here (same_payload exchanges.is_message.id exchanges.payload exchanges.is_message.message_is) exchanges.replies

-- it commits nothing alone
quits_alone : (state new : State) → CommitsAlone state quit new → ⊥
quits_alone state new alone =
    let same = same_payload alone.is_message.id (query_payload alone.text) alone.is_message.message_is in
    cc

broken_closes : (old new : ServedLink) → old.state.phase ≡ in_session → Breaks plainly old quit new → ClosesServed old.state new.state
broken_closes old new here breaks = elim breaks.left [
  | inl whole ↦ is_closed (exchanged_closes old.state whole.0 new.state here whole.1)
  | inr part ↦ elim part [
    | inl alone ↦ absurd (quits_alone old.state new.state alone)
    | inr same ↦ unsent same
  ]
]

-- the link of an open session is over after it, or as it was
module _ {L : Type 0} (of : Ghosts L) (old new : L) where
  pub closes_served : (result : Result (Unit {0}) ChannelFault) → of.honest old → (of.served old).failed ≡ false → (of.served old).state.phase ≡ in_session → OnOk result (SendsPackets of (outgoing quit None) old new) → IfErr (session_result result) (SendsNone of IsOfLink (outgoing quit None) old new) → ClosesServed (of.served old).state (of.served new).state
  closes_served (Ok sent) h alive here sends none =
      let exchanged = sends.answered h in
      is_closed (exchanged_closes (of.served old).state exchanged.reply (of.served new).state here exchanged.exchanges)
  closes_served (Err fault) h alive here sends none =
      let left = subst (λ (f : SessionFault). LeavesUnsaid plainly quit (of.served old) f (of.served new)) none.kind (none.left h) in
      broken_closes (of.served old) (of.served new) here (left alive)
