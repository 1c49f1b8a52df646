-- What a login is answered by, and a command that is no statement.
use Rattle.std.proofs.Common.{◌≡◌, ◌≢◌, ◌<◌, ◌+◌, ◌*◌, ℕ, false, List, [], ◌∷◌, ◌++◌, Some, None, refl, ap, sym, ◌∙◌, subst, arith, length, append-nil, drop, ◌⊎◌, inl, inr}
use Rattle.std.proofs.lemmas.Bool.{true≢false}
use Rattle.wire_forms.specs.Packet.{id_after, packet_count, packets}
use Rattle.my_packets.proofs.Fronts.{same_packets}
use Rattle.my_packets.proofs.Packets.{packets_length, short_packets}
use Rattle.wire_forms.specs.KeptText.{short_text}
use Rattle.wire_forms.specs.Reply.{reply_of}
use Rattle.wire_forms.specs.declared.refusal.Refusal.{Refusal}
use Rattle.wire_forms.specs.declared.reply.Reply.TheVariants.{Done, Refused}
use Rattle.honest_server.specs.Exchange.{AsksFor, Exchanges, IsLoggingIn, packets_from, Replies, accepted, ignored, quits, served, switched, turned_away, unknown}
use Rattle.honest_server.specs.Moves.{plainly}
use Rattle.honest_server.specs.State.{State, greeted, over, switching}
use Rattle.honest_examples.specs.Effects.{worked}
use Rattle.honest_examples.specs.Exchanges.{AnUnknownCommandIsAnsweredByAnErr, err, logging_in, ok, ping, refusal}
use Rattle.honest_examples.specs.Logins.{ALoginIsTurnedAway, AnotherPluginIsAskedForOnce, native, request, unwilling_login}
use Rattle.honest_examples.specs.Worked.{history, schema}
use Rattle.honest_examples.proofs.Commanding.{free}
use Rattle.honest_examples.proofs.Exchanging.{one_message}

-- the only message of a short reply stands after a header
pub only_message : (id : ℕ) (message whole : List ℕ) → id < 256 → length whole < 16777215 → whole ≡ packets id message ++ [] → message ≡ drop 4 whole
only_message id message whole byte short is = sym (ap (λ (bytes : List ℕ). drop 4 bytes) (bare ∙ short_packets id message byte (omega (arith, size, short))))
  where
    bare : whole ≡ packets id message
    bare = is ∙ append-nil (packets id message)

    size : length whole ≡ length message + 4 * packet_count (length message)
    size = ap (λ (bytes : List ℕ). length bytes) bare ∙ packets_length id message

-- the messages of an exchange are one, and it is this
pub of_exchange : {state new : State} {message reply : List ℕ} → (exchange : Exchanges plainly state message reply new) → (one : List ℕ) → length reply < 16777215 → exchange.messages ≡ one ∷ [] → one ≡ drop 4 reply
of_exchange {state} {new} {message} {reply} exchange one short are = only_message id one reply (omega arith) short (exchange.reply_is ∙ ap (λ (messages : List (List ℕ)). packets_from id messages) are)
  where
    id : ℕ
    id = id_after (packet_count (length exchange.payload)) exchange.is_message.id

-- a login is taken, or the plugin is asked for, or it is turned away
record IsTurnedAway (state : State) (message : List ℕ) (new : State) : Type 0 where
  said : Refusal
  says : reply_of message ≡ Some (Refused said)
  unwilling : state.terms.server.willing ≡ false
  closes : new.phase ≡ over

abbrev IsLoginAnswer : State → List ℕ → State → Type 0
IsLoginAnswer state message new = (reply_of message ≡ Some Done) ⊎ (((state.phase ≡ greeted) × AsksFor state.terms.server.plugin message) ⊎ IsTurnedAway state message new)

answers_login : (state new : State) (payload message : List ℕ) (messages : List (List ℕ)) → IsLoggingIn state.phase → ((one : List ℕ) → messages ≡ one ∷ [] → one ≡ message) → Replies plainly state payload messages new → IsLoginAnswer state message new
answers_login state new payload message messages logging only (accepted in_login spells new_is) = inl (subst (λ (message : List ℕ). reply_of message ≡ Some Done) (only spells.message spells.messages_are) spells.says)
answers_login state new payload message messages logging only (switched one phase asks lean messages_are new_is) = inr (inl (phase, subst (λ (message : List ℕ). AsksFor state.terms.server.plugin message) (only one messages_are) asks))
answers_login state new payload message messages logging only (turned_away said in_login unwilling spells new_is) = inr (inr (record { said = said; says = subst (λ (message : List ℕ). reply_of message ≡ Some (Refused said)) (only spells.message spells.messages_are) spells.says; unwilling = unwilling; closes = ap (λ (state : State). state.phase) new_is }))
answers_login state new payload message messages logging only (quits phase payload_is messages_are new_is) = absurd (subst IsLoggingIn phase logging)
answers_login state new payload message messages logging only (served text statement reply phase payload_is read_as serves spells) = absurd (subst IsLoggingIn phase logging)
answers_login state new payload message messages logging only (unknown said more phase nothing gives spells) = absurd (subst IsLoggingIn phase logging)
answers_login state new payload message messages logging only (ignored phase messages_are new_is) = absurd (subst IsLoggingIn phase logging)

pub plugin : AnotherPluginIsAskedForOnce
unfolding packets
plugin = record {
  allowed = record { payload = 0 ∷ []; is_message = record { id = 1; begins = tt; message_is = refl }; messages = request ∷ []; replies = switched request refl (inl (refl, _, refl)) (λ p. omega arith) refl refl; reply_is = refl };
  taken = record { payload = 0 ∷ []; is_message = record { id = 3; begins = tt; message_is = refl }; messages = ok ∷ []; replies = accepted tt (record { message = ok; messages_are = refl; says = refl; lean = λ p. omega arith }) refl; reply_is = refl };
  again = λ new exchange. not_again new (answers_login (native switching) new exchange.payload request exchange.messages tt (λ one are. of_exchange exchange one (omega arith) are) exchange.replies);
  refused = λ new exchange. not_other new (answers_login logging_in new exchange.payload request exchange.messages tt (λ one are. of_exchange exchange one (omega arith) are) exchange.replies);
}
  where
    not_again : (new : State) → IsLoginAnswer (native switching) request new → ⊥
    not_again new (inl taken) = absurd (cc (taken))
    not_again new (inr (inl (phase, asks))) = absurd (cc (phase))
    not_again new (inr (inr turned)) = true≢false turned.unwilling

    asks_not : AsksFor [] request → ⊥
    asks_not (inl (is_native, found, asked)) = absurd (cc (is_native))
    asks_not (inr (other, unsupported)) = absurd (cc (unsupported))

    not_other : (new : State) → IsLoginAnswer logging_in request new → ⊥
    not_other new (inl taken) = absurd (cc (taken))
    not_other new (inr (inl (phase, asks))) = asks_not asks
    not_other new (inr (inr turned)) = true≢false turned.unwilling

-- an ERR asks for no plugin
err_asks_not : AsksFor [] err → ⊥
err_asks_not (inl (is_native, found, asked)) = absurd (cc (is_native))
err_asks_not (inr (other, unsupported)) = absurd (cc (unsupported))

pub away : ALoginIsTurnedAway
unfolding packets short_text
away = record {
  allowed = record { payload = 0 ∷ []; is_message = record { id = 1; begins = tt; message_is = refl }; messages = err ∷ []; replies = turned_away refusal tt refl (record { message = err; messages_are = refl; says = refl; lean = λ p. omega arith }) refl; reply_is = refl };
  closes = λ new exchange. closed new (answers_login unwilling_login new exchange.payload err exchange.messages tt (λ one are. of_exchange exchange one (omega arith) are) exchange.replies);
  refused = λ new exchange. never new (answers_login logging_in new exchange.payload err exchange.messages tt (λ one are. of_exchange exchange one (omega arith) are) exchange.replies);
}
  where
    closed : (new : State) → IsLoginAnswer unwilling_login err new → new.phase ≡ over
    closed new (inl taken) = absurd (cc (taken))
    closed new (inr (inl (phase, asks))) = absurd (err_asks_not asks)
    closed new (inr (inr turned)) = turned.closes

    never : (new : State) → IsLoginAnswer logging_in err new → ⊥
    never new (inl taken) = absurd (cc (taken))
    never new (inr (inl (phase, asks))) = err_asks_not asks
    never new (inr (inr turned)) = true≢false turned.unwilling

-- COM_PING

abbrev ping_payload : List ℕ
ping_payload = 14 ∷ []

no_ok : (payload : List ℕ) (messages : List (List ℕ)) (new : State) → payload ≡ ping_payload → ((one : List ℕ) → messages ≡ one ∷ [] → one ≡ ok) → messages ≢ [] → Replies plainly worked payload messages new → ⊥
unfolding short_text
no_ok payload messages new is only some (accepted logging spells new_is) = logging
no_ok payload messages new is only some (switched message phase asks lean messages_are new_is) = cc (phase)
no_ok payload messages new is only some (turned_away said logging unwilling spells new_is) = logging
no_ok payload messages new is only some (quits phase payload_is messages_are new_is) = some messages_are
no_ok payload messages new is only some (served text statement reply phase payload_is read_as serves spells) = cc (sym is ∙ payload_is)
no_ok payload messages new is only some (unknown said more phase nothing gives spells) = cc (subst (λ (message : List ℕ). reply_of message ≡ Some (Refused said)) (only spells.message spells.messages_are) spells.says)
no_ok payload messages new is only some (ignored phase messages_are new_is) = some messages_are

pub pinged : AnUnknownCommandIsAnsweredByAnErr
unfolding packets
pinged = record {
  allowed = record {
    payload = ping_payload;
    is_message = record { id = 0; begins = refl; message_is = refl };
    messages = err ∷ [];
    replies = unknown refusal [] refl (record { no_quit = λ is. cc (is); no_statement = λ text statement is text_of. cc (is) })
        (record { sees = (free history (Some schema) false None None refl).nothing; pending = None; lost = inl refl; new_is = refl }) one_message.err_allowed;
    reply_is = refl;
  };
  refused = never;
}
  where
    never : (new : State) → Exchanges plainly worked ping (7 ∷ 0 ∷ 0 ∷ 1 ∷ ok) new → ⊥
    never new exchange = no_ok exchange.payload exchange.messages new payload (λ one are. of_exchange exchange one (omega arith) are) some exchange.replies
      where
        payload : exchange.payload ≡ ping_payload
        payload = sym (same_packets 0 ping_payload exchange.payload [] [] (ap (λ (bytes : List ℕ). bytes ++ []) (exchange.is_message.message_is ∙ ap (λ (id : ℕ). packets id exchange.payload) exchange.is_message.begins))).0

        some : exchange.messages ≢ []
        some none = cc (exchange.reply_is ∙ ap (λ (messages : List (List ℕ)). packets_from (id_after (packet_count (length exchange.payload)) exchange.is_message.id) messages) none)
