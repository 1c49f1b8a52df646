-- What bytes spell replies, and what messages are answered by.
use Rattle.std.proofs.Common.{◌≡◌, ◌≤◌, ℕ, false, List, [], ◌∷◌, ◌++◌, Some, None, refl, ap, sym, ◌∙◌, subst, arith, codes, length, append-nil, append_assoc, IsTrue, inr, map, drop, get_or, replicate, ◌+◌, ◌*◌, length-append}
use Rattle.std.proofs.lemmas.Bool.{false≢true}
use Rattle.std.proofs.lemmas.List.Elements.{All-cons, All-nil}
use Rattle.wire_forms.specs.Packet.{id_after, packet_count, packets}
use Rattle.my_packets.proofs.Fronts.{same_packets}
use Rattle.my_packets.proofs.Packets.{packets_length, short_packets}
use Rattle.wire_forms.specs.KeptText.{short_text}
use Rattle.wire_forms.specs.Reading.{Further, columns_counted, definition as turn_definition, end, garbled, is_end_packet, row}
use Rattle.wire_forms.specs.Reply.{reply_of}
use Rattle.wire_forms.specs.ResultSet.{IsResultSet, IsTaken, turns_of}
use Rattle.plain_data.specs.Cell.{Cell as SentCell}
use Rattle.wire_forms.specs.declared.ends.Ends.{Ends}
use Rattle.wire_forms.specs.declared.ends.Ends.TheVariants.{Eof, Ok}
use Rattle.wire_forms.specs.declared.reply.Reply.TheVariants.{Columns, Done}
use Rattle.result_rows.proofs.ResultSets.{set-taken}
use Rattle.server_data.specs.declared.data.Transaction.{Transaction}
use Rattle.statement_forms.specs.Statement.{IsReadAs}
use Rattle.statement_forms.specs.declared.command.Command.TheVariants.{Commit}
use Rattle.statement_forms.specs.declared.query.Query.TheVariants.{Schemas}
use Rattle.statement_forms.specs.declared.statement.Statement.{Statement}
use Rattle.statement_forms.specs.declared.statement.Statement.TheVariants.{Command as SomeCommand}
use Rattle.honest_server.specs.Exchange.{BeginsAt, Exchanges, IsLoggingIn, packets_from, Replies, accepted, ignored, query_payload, quits, quit_payload, served, switched, turned_away, unknown}
use Rattle.honest_server.specs.Moves.{Way, plainly}
use Rattle.honest_server.specs.Serve.{Reply, Serves, done, rows, refused}
use Rattle.honest_server.specs.Spelled.{IsLeanFront, IsLeanSet, SpellsReply}
use Rattle.honest_server.specs.State.{Phase, Server, State, in_session, with_others}
use Rattle.honest_examples.specs.Effects.{worked}
use Rattle.honest_examples.specs.Exchanges.{ACommandIsAnsweredByOneMessage, ACommitIsAnsweredByAnOk, ALoginIsTaken, AnOkEndsAResultSet, AQueryIsAnsweredByItsRows, AQuitIsntAnswered, AreOk, commit, definition, eof_packet, err, ending_ok_packet, logging_in, ok, only, set_before, short_set}
use Rattle.honest_examples.specs.Worked.{history, schema, server}
use Rattle.honest_examples.proofs.Reading.{read}
use Rattle.honest_examples.proofs.Texts.{one_statement}
use Rattle.honest_examples.proofs.Commanding.{free}

-- a result set is no single message
no_single : (ends : Ends) (columns : ℕ) (found : List (List SentCell)) (message : List ℕ) → IsResultSet ends columns found (message ∷ []) → ⊥
no_single ends columns found message set = omega (arith, ap (λ (messages : List (List ℕ)). length messages) set.messages_are, length-append set.definitions (set.between ++ (set.row_messages ++ set.last ∷ [])), length-append set.between (set.row_messages ++ set.last ∷ []), length-append set.row_messages (set.last ∷ []))

pub one_message : ACommandIsAnsweredByOneMessage
unfolding short_text
one_message = record {
  allowed = record { message = ok; messages_are = refl; says = refl; lean = λ p. omega arith };
  err_allowed = record { message = err; messages_are = refl; says = refl; lean = λ p. omega arith };
  err_is_no_ok = λ spells. absurd (cc (ap reply_of (ap (λ (messages : List (List ℕ)). get_or messages 0 []) spells.messages_are) ∙ spells.says));
  refused = never;
}
  where
    never : (of : Server) (reply : Reply) (columns : ℕ) (found : List (List SentCell)) (messages : List (List ℕ)) → IsResultSet of.ends columns found messages → SpellsReply of (SomeCommand Commit) reply messages → ⊥
    never of done columns found messages set spells = no_single of.ends columns found spells.message (subst (λ (messages : List (List ℕ)). IsResultSet of.ends columns found messages) spells.messages_are set)
    never of (rows others) columns found messages set spells = spells
    never of (refused others said) columns found messages set spells = no_single of.ends columns found spells.message (subst (λ (messages : List (List ℕ)). IsResultSet of.ends columns found messages) spells.messages_are set)

lean : (last : List ℕ) → length last ≤ 16777216 → IsLeanSet Schemas (only schema) (set_before last)
lean last short = record {
  front = (1 ∷ []) ∷ definition ∷ eof_packet ∷ [];
  row_messages = (1 ∷ codes "s") ∷ [];
  last = last;
  messages_are = refl;
  front_lean = All-cons (IsLeanFront Schemas) (1 ∷ []) (definition ∷ eof_packet ∷ []) (omega arith) (All-cons (IsLeanFront Schemas) definition (eof_packet ∷ []) (omega arith) (All-cons (IsLeanFront Schemas) eof_packet [] (omega arith) (All-nil _)));
  rows_lean = (omega arith, tt);
  last_lean = short;
}

set : IsResultSet Eof 1 ((Some schema ∷ []) ∷ []) (set_before eof_packet)
set = record {
  count = 1 ∷ [];
  definitions = definition ∷ [];
  between = eof_packet ∷ [];
  row_messages = (1 ∷ codes "s") ∷ [];
  last = eof_packet;
  messages_are = refl;
  count_is = refl;
  definitions_are = (refl, tt);
  as_many = refl;
  between_is = refl;
  rows_are = (record { begins = refl; cells_are = refl }, tt);
  last_is = refl;
}

pub its_rows : AQueryIsAnsweredByItsRows
unfolding short_text
its_rows = record {
  allowed = record { columns = 1; is_set = set; lean = λ p. lean eof_packet (omega arith) };
  broken_off = inr (record { columns = 1; first = 1 ∷ []; others = definition ∷ eof_packet ∷ (1 ∷ codes "s") ∷ err ∷ []; messages_are = refl; counts = refl; turns = refl; lean = λ p. lean err (omega arith) });
  other_rows = λ spells. other (set-taken _ _ _ _ spells.is_set);
  refused = λ found spells. no_single _ _ _ ok spells.is_set;
}
  where
    turned : (columns : ℕ) (first : List ℕ) (others : List (List ℕ)) → columns ≡ 1 → others ≡ definition ∷ eof_packet ∷ (1 ∷ codes "s") ∷ eof_packet ∷ [] → turns_of (columns_counted Eof columns) others ≡ replicate (columns + 1) turn_definition ++ (map row ((Some (codes "ss") ∷ []) ∷ []) ++ end ∷ []) → ⊥
    turned columns first others is_one are turns = absurd (cc (subst (λ (others : List (List ℕ)). turns_of (columns_counted Eof 1) others ≡ replicate 2 turn_definition ++ (map row ((Some (codes "ss") ∷ []) ∷ []) ++ end ∷ [])) are (subst (λ (columns : ℕ). turns_of (columns_counted Eof columns) others ≡ replicate (columns + 1) turn_definition ++ (map row ((Some (codes "ss") ∷ []) ∷ []) ++ end ∷ [])) is_one turns)))

    other : {columns : ℕ} → IsTaken Eof columns ((Some (codes "ss") ∷ []) ∷ []) (set_before eof_packet) → ⊥
    other {columns} is_taken = turned columns is_taken.first is_taken.others one_column (sym (ap (λ (messages : List (List ℕ)). drop 1 messages) is_taken.messages_are)) is_taken.turns
      where
        counts : Some (Columns 1) ≡ Some (Columns columns)
        counts = ap reply_of (ap (λ (messages : List (List ℕ)). get_or messages 0 []) is_taken.messages_are) ∙ is_taken.reply

        one_column : columns ≡ 1
        one_column = cc

-- result sets under the other ending

-- the last of messages
final : List (List ℕ) → List ℕ
final [] = []
final (message ∷ []) = message
final (message ∷ next ∷ messages) = final (next ∷ messages)

final_is : (messages : List (List ℕ)) (last : List ℕ) → final (messages ++ last ∷ []) ≡ last
unfolding final
final_is [] last = refl
final_is (message ∷ []) last = refl
final_is (message ∷ next ∷ messages) last = final_is (next ∷ messages) last

-- a result set's last message ends it
last_of : (ends : Ends) (columns : ℕ) (found : List (List SentCell)) (messages : List (List ℕ)) → IsResultSet ends columns found messages → IsTrue (is_end_packet ends (final messages))
last_of ends columns found messages whole = subst (λ (message : List ℕ). IsTrue (is_end_packet ends message)) (sym is) whole.last_is
  where
    is : final messages ≡ whole.last
    is = ap final (whole.messages_are ∙ (ap (λ (messages : List (List ℕ)). whole.count ∷ (whole.definitions ++ messages)) (sym (append_assoc whole.between whole.row_messages (whole.last ∷ [])))
        ∙ ap (λ (messages : List (List ℕ)). whole.count ∷ messages) (sym (append_assoc whole.definitions (whole.between ++ whole.row_messages) (whole.last ∷ []))))) ∙ final_is (whole.count ∷ (whole.definitions ++ (whole.between ++ whole.row_messages))) whole.last

-- a message that is none of a result set's isn't the first of its rows or its end
no_garbled : (found : List (List SentCell)) (others : List Further) → garbled ∷ others ≡ map row found ++ end ∷ [] → ⊥
no_garbled [] others is = cc
no_garbled (cells ∷ found) others is = cc

set_ok : IsResultSet Ok 1 ((Some schema ∷ []) ∷ []) (short_set ending_ok_packet)
set_ok = record {
  count = 1 ∷ [];
  definitions = definition ∷ [];
  between = [];
  row_messages = (1 ∷ codes "s") ∷ [];
  last = ending_ok_packet;
  messages_are = refl;
  count_is = refl;
  definitions_are = (refl, tt);
  as_many = refl;
  between_is = tt;
  rows_are = (record { begins = refl; cells_are = refl }, tt);
  last_is = refl;
}

lean_ok : (last : List ℕ) → length last ≤ 16777216 → IsLeanSet Schemas (only schema) (short_set last)
lean_ok last short = record {
  front = (1 ∷ []) ∷ definition ∷ [];
  row_messages = (1 ∷ codes "s") ∷ [];
  last = last;
  messages_are = refl;
  front_lean = All-cons (IsLeanFront Schemas) (1 ∷ []) (definition ∷ []) (omega arith) (All-cons (IsLeanFront Schemas) definition [] (omega arith) (All-nil _));
  rows_lean = (omega arith, tt);
  last_lean = short;
}

pub ok_ends : AnOkEndsAResultSet
unfolding short_text final
ok_ends = record {
  allowed = record { columns = 1; is_set = set_ok; lean = λ p. lean_ok ending_ok_packet (omega arith) };
  broken_off = inr (record { columns = 1; first = 1 ∷ []; others = definition ∷ (1 ∷ codes "s") ∷ err ∷ []; messages_are = refl; counts = refl; turns = refl; lean = λ p. lean_ok err (omega arith) });
  eof_at_the_end = λ found spells. false≢true (last_of _ _ _ _ spells.is_set);
  eof_between = λ found spells. between (set-taken _ _ _ _ spells.is_set);
  ok_under_eof = λ found spells. false≢true (last_of _ _ _ _ spells.is_set);
}
  where
    between : {columns : ℕ} {found : List (List SentCell)} → IsTaken Ok columns found (set_before ending_ok_packet) → ⊥
    between {columns} {found} is_taken = no_garbled found _ (ap (λ (list : List Further). drop 1 list) turns)
      where
        counts : Some (Columns 1) ≡ Some (Columns columns)
        counts = ap reply_of (ap (λ (messages : List (List ℕ)). get_or messages 0 []) is_taken.messages_are) ∙ is_taken.reply

        one_column : columns ≡ 1
        one_column = cc

        turns : turns_of (columns_counted Ok 1) (definition ∷ eof_packet ∷ (1 ∷ codes "s") ∷ ending_ok_packet ∷ []) ≡ replicate 1 turn_definition ++ (map row found ++ end ∷ [])
        turns = subst (λ (others : List (List ℕ)). turns_of (columns_counted Ok 1) others ≡ replicate 1 turn_definition ++ (map row found ++ end ∷ [])) (sym (ap (λ (messages : List (List ℕ)). drop 1 messages) is_taken.messages_are)) (subst (λ (columns : ℕ). turns_of (columns_counted Ok columns) is_taken.others ≡ replicate columns turn_definition ++ (map row found ++ end ∷ [])) one_column is_taken.turns)

-- a reply of one message that is an OK
record IsOkAlone (messages : List (List ℕ)) : Type 0 where
  message : List ℕ
  says : reply_of message ≡ Some Done
  messages_are : messages ≡ message ∷ []

-- a reply to the statement that the state allows, and that the messages spell
pub record IsServedTo (way : Way) (statement : Statement) (state : State) (messages : List (List ℕ)) (new : State) : Type 0 where
  pub reply : Reply
  pub serves : Serves way state statement reply new
  pub spells : SpellsReply state.terms.server statement reply messages

-- in a session COM_QUERY with a text is answered so
of_text : (way : Way) (text : List ℕ) (wanted : Statement) → IsReadAs text wanted → (state : State) (payload : List ℕ) (messages : List (List ℕ)) (new : State) → state.phase ≡ in_session → payload ≡ query_payload text → Replies way state payload messages new → IsServedTo way wanted state messages new
of_text way text wanted is_read state payload messages new in_phase is (accepted logging spells new_is) = absurd (subst IsLoggingIn in_phase logging)
of_text way text wanted is_read state payload messages new in_phase is (switched message phase asks lean messages_are new_is) = absurd (cc (sym in_phase ∙ phase))
of_text way text wanted is_read state payload messages new in_phase is (turned_away said logging unwilling spells new_is) = absurd (subst IsLoggingIn in_phase logging)
of_text way text wanted is_read state payload messages new in_phase is (quits phase payload_is messages_are new_is) = absurd (cc (sym is ∙ payload_is))
of_text way text wanted is_read state payload messages new in_phase is (served other statement reply phase payload_is read_as serves spells) = record {
  reply = reply;
  serves = subst (λ (statement : Statement). Serves way state statement reply new) statement_is serves;
  spells = subst (λ (statement : Statement). SpellsReply state.terms.server statement reply messages) statement_is spells;
}
  where
    text_is : other ≡ text
    text_is = ap (λ (bytes : List ℕ). drop 1 bytes) (sym payload_is ∙ is)

    statement_is : statement ≡ wanted
    statement_is = one_statement text wanted statement is_read (subst (λ (text : List ℕ). IsReadAs text statement) text_is read_as)
of_text way text wanted is_read state payload messages new in_phase is (unknown said more phase nothing gives spells) = absurd (nothing.no_statement text wanted is is_read.text_of)
of_text way text wanted is_read state payload messages new in_phase is (ignored phase messages_are new_is) = absurd (cc (sym in_phase ∙ phase))

-- a message of COM_QUERY with a text has no other payload
pub payload_of : (text message payload : List ℕ) (id : ℕ) → message ≡ packets 0 (query_payload text) → id ≡ 0 → message ≡ packets id payload → payload ≡ query_payload text
payload_of text message payload id spelled begins is = sym (same_packets 0 (query_payload text) payload [] [] (ap (λ (bytes : List ℕ). bytes ++ []) (sym spelled ∙ (is ∙ ap (λ (id : ℕ). packets id payload) begins)))).0

pub of_message : (way : Way) (text message : List ℕ) (wanted : Statement) → IsReadAs text wanted → message ≡ packets 0 (query_payload text) → (state : State) (reply : List ℕ) (new : State) → (exchanges : Exchanges way state message reply new) → state.phase ≡ in_session → IsServedTo way wanted state exchanges.messages new
of_message way text message wanted is_read spelled state reply new exchanges in_phase =
    of_text way text wanted is_read state exchanges.payload exchanges.messages new in_phase (payload_of text message exchanges.payload exchanges.is_message.id spelled (subst (λ (phase : Phase). BeginsAt phase exchanges.is_message.id) in_phase exchanges.is_message.begins) exchanges.is_message.message_is) exchanges.replies

pub commit_is : commit ≡ packets 0 (query_payload (codes "COMMIT"))
unfolding packets
commit_is = refl

pub of_commit : (state : State) (reply : List ℕ) (new : State) → (exchanges : Exchanges plainly state commit reply new) → state.phase ≡ in_session → IsServedTo plainly (SomeCommand Commit) state exchanges.messages new
of_commit state reply new exchanges in_phase = of_message plainly (codes "COMMIT") commit (SomeCommand Commit) read commit_is state reply new exchanges in_phase

-- where no transaction is open, that is an OK
by_reply : (reply : Reply) (messages : List (List ℕ)) (new : State) → Serves plainly worked (SomeCommand Commit) reply new → SpellsReply server (SomeCommand Commit) reply messages → IsOkAlone messages × (new ≡ worked)
by_reply done messages new serves spells = (record { message = spells.message; says = spells.says; messages_are = spells.messages_are }, serves.handles ∙ ap (λ (more : List Transaction). with_others worked more) (serves.sees.sole refl refl))
by_reply (rows found) messages new serves spells = absurd spells
by_reply (refused found said) messages new serves spells = absurd (serves.must refl done (with_others worked serves.more) refl)

-- the id of an OK of eleven bytes
id_of : (message : List ℕ) → 7 ∷ 0 ∷ 0 ∷ 0 ∷ ok ≡ packets 1 message → ⊥
id_of message is = omega (arith, ap (λ (bytes : List ℕ). get_or bytes 3 0) (is ∙ short_packets 1 message (omega arith) (omega (arith, size))))
  where
    size : length message + 4 * packet_count (length message) ≡ 11
    size = sym (packets_length 1 message) ∙ sym (ap (λ (bytes : List ℕ). length bytes) is)

pub commits : ACommitIsAnsweredByAnOk
unfolding packets
commits = record {
  allowed = record {
    payload = query_payload (codes "COMMIT");
    is_message = record { id = 0; begins = refl; message_is = refl };
    messages = ok ∷ [];
    replies = served (codes "COMMIT") (SomeCommand Commit) done refl refl read (record { more = []; sees = (free history (Some schema) false None None refl).nothing; handles = refl; ends = tt }) one_message.allowed;
    reply_is = refl;
  };
  nothing_else = nothing_else;
  refused = λ new exchanges. let answer = nothing_else _ new exchanges in id_of answer.0.message answer.0.bytes_are;
}
  where
    nothing_else : (reply : List ℕ) (new : State) → Exchanges plainly worked commit reply new → AreOk 1 reply × (new ≡ worked)
    nothing_else reply new exchanges = (record { message = answer.0.message; says = answer.0.says; bytes_are = bytes_are }, answer.1)
      where
        told : IsServedTo plainly (SomeCommand Commit) worked exchanges.messages new
        told = of_commit worked reply new exchanges refl

        payload : exchanges.payload ≡ query_payload (codes "COMMIT")
        payload = payload_of (codes "COMMIT") commit exchanges.payload exchanges.is_message.id commit_is exchanges.is_message.begins exchanges.is_message.message_is

        answer : IsOkAlone exchanges.messages × (new ≡ worked)
        answer = by_reply told.reply exchanges.messages new told.serves told.spells

        bytes_are : reply ≡ packets 1 answer.0.message
        bytes_are = exchanges.reply_is ∙ (ap (λ (id : ℕ). packets_from (id_after (packet_count (length exchanges.payload)) id) exchanges.messages) exchanges.is_message.begins
            ∙ (ap (λ (payload : List ℕ). packets_from (id_after (packet_count (length payload)) 0) exchanges.messages) payload
            ∙ (ap (λ (messages : List (List ℕ)). packets_from 1 messages) answer.0.messages_are ∙ append-nil (packets 1 answer.0.message))))

-- COM_QUIT

of_quit : (payload : List ℕ) (messages : List (List ℕ)) (new : State) → payload ≡ quit_payload → Replies plainly worked payload messages new → messages ≡ []
of_quit payload messages new is (accepted logging spells new_is) = absurd logging
of_quit payload messages new is (switched message phase asks lean messages_are new_is) = absurd (cc (phase))
of_quit payload messages new is (turned_away said logging unwilling spells new_is) = absurd logging
of_quit payload messages new is (quits phase payload_is messages_are new_is) = messages_are
of_quit payload messages new is (served text statement reply phase payload_is read_as serves spells) = absurd (cc (sym is ∙ payload_is))
of_quit payload messages new is (unknown said more phase nothing gives spells) = absurd (nothing.no_quit is)
of_quit payload messages new is (ignored phase messages_are new_is) = messages_are

pub quit : AQuitIsntAnswered
unfolding packets
quit = record {
  allowed = record { payload = quit_payload; is_message = record { id = 0; begins = refl; message_is = refl }; messages = []; replies = quits refl refl refl refl; reply_is = refl };
  refused = never;
}
  where
    never : (new : State) → Exchanges plainly worked (1 ∷ 0 ∷ 0 ∷ 0 ∷ 1 ∷ []) (7 ∷ 0 ∷ 0 ∷ 1 ∷ ok) new → ⊥
    never new exchanges = absurd (cc (exchanges.reply_is ∙ ap (λ (messages : List (List ℕ)). packets_from (id_after (packet_count (length exchanges.payload)) exchanges.is_message.id) messages) none))
      where
        same : packets 0 quit_payload ++ [] ≡ packets 0 exchanges.payload ++ []
        same = ap (λ (bytes : List ℕ). bytes ++ []) (exchanges.is_message.message_is ∙ ap (λ (id : ℕ). packets id exchanges.payload) exchanges.is_message.begins)

        none : exchanges.messages ≡ []
        none = of_quit exchanges.payload exchanges.messages new (sym (same_packets 0 quit_payload exchanges.payload [] [] same).0) exchanges.replies

-- the login

record IsOneMessage (messages : List (List ℕ)) : Type 0 where
  message : List ℕ
  messages_are : messages ≡ message ∷ []

of_login : (payload : List ℕ) (messages : List (List ℕ)) (new : State) → Replies plainly logging_in payload messages new → IsOneMessage messages
of_login payload messages new (accepted logging spells new_is) = record { message = spells.message; messages_are = spells.messages_are }
of_login payload messages new (switched message phase asks lean messages_are new_is) = record { message = message; messages_are = messages_are }
of_login payload messages new (turned_away said logging unwilling spells new_is) = record { message = spells.message; messages_are = spells.messages_are }
of_login payload messages new (quits phase payload_is messages_are new_is) = absurd (cc (phase))
of_login payload messages new (served text statement reply phase payload_is read_as serves spells) = absurd (cc (phase))
of_login payload messages new (unknown said more phase nothing gives spells) = absurd (cc (phase))
of_login payload messages new (ignored phase messages_are new_is) = absurd (cc (phase))

pub login : ALoginIsTaken
unfolding packets
login = record {
  allowed = record { payload = 0 ∷ []; is_message = record { id = 1; begins = tt; message_is = refl }; messages = ok ∷ []; replies = accepted tt one_message.allowed refl; reply_is = refl };
  silent = never;
}
  where
    never : (new : State) → Exchanges plainly logging_in (1 ∷ 0 ∷ 0 ∷ 1 ∷ 0 ∷ []) [] new → ⊥
    never new exchanges = omega (arith, ap (λ (bytes : List ℕ). length bytes) (exchanges.reply_is ∙ ap (λ (messages : List (List ℕ)). packets_from id messages) one.messages_are), length-append (packets id one.message) [], packets_length id one.message)
      where
        one : IsOneMessage exchanges.messages
        one = of_login exchanges.payload exchanges.messages new exchanges.replies

        id : ℕ
        id = id_after (packet_count (length exchanges.payload)) exchanges.is_message.id
