-- What an honest server's further messages of a result set say, and what is still to come of them.
use Rattle.std.proofs.Common.{◌≡◌, ◌<◌, ◌-◌, ℕ, zero, suc, Bool, true, false, List, [], ◌∷◌, ◌++◌, length, map, replicate, refl, sym, ◌∙◌, ap, subst, inl, inr, ◌⊎◌, arith, Option, Some, None, Result, Ok, Err, length-append}
use Rattle.honest_server.specs.Exchange.{CommitsAlone, Exchanges, Replies, packets_from, query_payload}
use Rattle.honest_server.specs.Link.{ServedLink}
use Rattle.honest_server.specs.Moves.{plainly}
use Rattle.honest_server.specs.Serve.{Reply, done, rows, refused as refused_by, Serves}
use Rattle.honest_server.specs.Spelled.{SpellsReply, sent_rows}
use Rattle.honest_server.specs.State.{Server, State, in_session}
use Rattle.link_traits.specs.declared.link.Link.{Ghosts}
use Rattle.my_packets.proofs.Fronts.{same_packets}
use Rattle.my_packets.proofs.Packets.{packets_length}
use Rattle.result_rows.proofs.ResultSets.{set-taken}
use Rattle.result_rows.specs.RowCells.{row_cells}
use Rattle.result_rows.specs.declared.row.Row.{Row}
use Rattle.plain_data.specs.Cell.{Cell as SentCell}
use Rattle.sql_cells.specs.Cell.{bytes_of}
use Rattle.sql_cells.specs.declared.cell.Cell.{Cell}
use Rattle.wire_forms.specs.Row.{cells_of}
use Rattle.wire_forms.specs.Packet.{packets, packet_count, id_after}
use Rattle.wire_forms.specs.Reading.{Reading, Further, definition, row, end, refused, garbled, awaited_count, columns_counted, further_of, reading_after}
use Rattle.wire_forms.specs.Reply.{reply_of}
use Rattle.wire_forms.specs.ResultSet.{turns_of}
use Rattle.wire_forms.specs.declared.refusal.Refusal.{Refusal}
use Rattle.wire_forms.specs.declared.reply.Reply.{Reply as FirstReply}
use Rattle.wire_forms.specs.declared.reply.Reply.TheVariants.{Done, Refused as IsRefused, Columns}
use Rattle.wire_forms.specs.declared.ends.Ends.{Ends}
use Rattle.statement_forms.specs.Form.{query_form}
use Rattle.statement_forms.specs.Statement.{QueryHasText, InRange, IsReadAs}
use Rattle.statement_forms.specs.Text.{query_text}
use Rattle.statement_forms.specs.declared.command.Command.{Command}
use Rattle.statement_forms.specs.declared.form.Form.{Form}
use Rattle.statement_forms.specs.declared.query.Query.{Query}
use Rattle.statement_forms.specs.declared.statement.Statement.{Statement}
use Rattle.statement_forms.specs.declared.statement.Statement.TheVariants.{Command as SomeCommand, Query as SomeQuery}
use Rattle.statement_laws.specs.Readings.{read_query}
use Rattle.my_session.proofs.OneText.{IsServed, same_statement, text_served}
use Rattle.my_session.proofs.Payloads.{one_payload}
use Rattle.my_session.proofs.ReadAs.{failure_kept, query_reading, query_keeps_form, serves_kept}
use Rattle.my_session.specs.Asked.{Leads, OpensRows}
use Rattle.my_session.specs.Awaited.{count_fault, further_fault}
use Rattle.my_session.specs.Channel.{ChannelView, HearsNothing, SaysNone, link_of, outgoing}
use Rattle.my_session.specs.Coming.{IsOver, NextServed, Reached, Rest, StillComes, TakesFirst, TakesNext, WaitsTurns, TakesTurn, reply_of_rest, turns_left}
use Rattle.my_session.specs.Heard.{IsAfterRow, Judges}
use Rattle.my_session.specs.InStep.{AnswersFurther, DescribesServed, FailsReply, IsMissed, IsQuiet, ServesFurther, ServesNext, ServesReply, reached_on}
use Rattle.my_session.specs.Served.{FailsStatement, IsLeft, untouched, handled, LeavesUnsaid}
use Rattle.my_session.specs.Serving.{IsServing, IsUnheard, Delivers, DeliversReply, Replied}
use Rattle.my_session.specs.Session.{rows_awaited}
use Rattle.my_session.specs.declared.fault.SessionFault.{SessionFault}
use Rattle.my_session.specs.declared.fault.SessionFault.TheVariants.{Link, Refused, Garbled, NotProtocol10, PluginUnsupported, TooLong, StreamTooLong, OutOfMemory}

-- the packets of a message are some bytes
no_packets : (id : ℕ) (message after : List ℕ) → packets id message ++ after ≡ [] → ⊥
no_packets id message after is =
    let size = packets_length id message in
    let both = length-append (packets id message) after in
    let none : length (packets id message ++ after) ≡ 0 = ap (λ (l : List ℕ). length l) is in
    omega arith

-- a message that waits and isn't heard is missed
unheard_missed : (message : List ℕ) (place : ℕ) (fault : SessionFault) → IsUnheard message place fault → IsMissed fault
unheard_missed message place Link is = tt
unheard_missed message place (Refused form refusal) is = is
unheard_missed message place (Garbled at) is = is
unheard_missed message place (NotProtocol10 version) is = is
unheard_missed message place (PluginUnsupported name) is = is
unheard_missed message place (TooLong size) is = tt
unheard_missed message place StreamTooLong is = tt
unheard_missed message place OutOfMemory is = tt

-- so many turns begin with one of them
one_more : (left : ℕ) (turn : Further) (turns : List Further) → 0 < left → replicate left turn ++ turns ≡ turn ∷ (replicate (left - 1) turn ++ turns)
one_more zero turn turns some = absurd (omega arith)
one_more (suc left) turn turns some =
    let same : left ≡ suc left - 1 = omega arith in
    ap (λ (n : ℕ). turn ∷ (replicate n turn ++ turns)) same

same_turn : (turn other : Further) (more others : List Further) → turn ∷ more ≡ other ∷ others → turn ≡ other
same_turn turn other more others is = cc

same_more : (turn other : Further) (more others : List Further) → turn ∷ more ≡ other ∷ others → more ≡ others
same_more turn other more others is = cc

module _ {L : Type 0} (of : Ghosts L) where
  module _ (old new : ChannelView L) (reading : Reading) (delivers : Delivers of new.message old.link old.id new.link new.id) where
    taken : (messages : List (List ℕ)) (turns : List Further) → turns_of reading messages ≡ turns → (of.served old.link).waiting ≡ packets_from old.id messages → TakesTurn turns reading new.message (reached_on of reading new)
    taken [] turns says waits = absurd (no_packets old.id new.message (of.served new.link).waiting (sym delivers.gives.waits ∙ waits))
    taken (first ∷ others) turns says waits =
        let parts = same_packets old.id new.message first (of.served new.link).waiting (packets_from (id_after (packet_count (length first)) old.id) others) (sym delivers.gives.waits ∙ waits) in
        let said : further_of reading first ≡ further_of reading new.message = ap (λ (l : List ℕ). further_of reading l) (sym parts.0) in
        record {
          turn = further_of reading new.message;
          more = turns_of (reading_after reading (further_of reading new.message)) others;
          turns_are = sym says ∙ ap (λ (f : Further). f ∷ turns_of (reading_after reading f) others) said;
          says = refl;
          waits = record {
            messages = others;
            says = refl;
            waits =
                parts.1
                ∙ ap (λ (l : List ℕ). packets_from (id_after (packet_count (length l)) old.id) others) (sym parts.0)
                ∙ ap (λ (n : ℕ). packets_from n others) (sym delivers.id);
          };
        }

    -- the message that was heard is the first of those that waited
    pub serves_further : ServesFurther of reading old new
    serves_further = record {
      state = delivers.gives.state;
      takes = λ turns waits. taken waits.messages turns waits.says waits.waits;
    }

    pub answers_garbled : (form : Form) (place : ℕ) (payload : List ℕ) → place ≡ old.place → payload ≡ new.message → further_of reading payload ≡ garbled → AnswersFurther of form reading old new (Garbled place)
    answers_garbled form place payload place_is payload_is says = record {
      serves = serves_further;
      fault_is =
          ap (λ (f : Further). further_fault form old.place f) (ap (λ (l : List ℕ). further_of reading l) (sym payload_is) ∙ says)
          ∙ ap (λ (n : ℕ). Some (Garbled n)) (sym place_is);
    }

  -- what is answered to a message in the place of a row
  pub judged : (old new : ChannelView L) (reading next : Reading) (ending : Ends) (form : Form) (payload : List ℕ) (place : ℕ) (result : Result Bool SessionFault) → (IsServing of old.link → Delivers of new.message old.link old.id new.link new.id) → place ≡ old.place → payload ≡ new.message → Judges ending reading form payload place result next → ServesNext of form reading old result new
  judged old new reading next ending form payload place (Ok is_row) delivers place_is payload_is judges = λ serving. serves_further old new reading (delivers serving)
  judged old new reading next ending form payload place (Err fault) delivers place_is payload_is judges = λ serving.
      let so : (n : ℕ) (l : List ℕ) → n ≡ place → payload ≡ l → further_fault form n (further_of reading l) ≡ Some fault = λ n l n_is l_is. ap (λ (m : ℕ). further_fault form m (further_of reading l)) n_is ∙ ap (λ (k : List ℕ). further_fault form place (further_of reading k)) (sym l_is) ∙ judges.0 in
      inl (record { serves = serves_further old new reading (delivers serving); fault_is = so old.place new.message (sym place_is) payload_is })

  -- some of the messages before the rows were heard, and so many of them are left
  pub record PassesSome (ending : Ends) (columns left : ℕ) (old now : Reached) : Type 0 where
    pub state : now.served.state ≡ old.served.state
    pub passes : (turns : List Further) → WaitsTurns (replicate (awaited_count ending columns) definition ++ turns) old → WaitsTurns (replicate left definition ++ turns) now

  pub passes_none : (ending : Ends) (columns : ℕ) (old : Reached) → PassesSome ending columns (awaited_count ending columns) old old
  passes_none ending columns old = record { state = refl; passes = λ turns waits. waits }

  module _ (ending : Ends) (columns left : ℕ) (old : Reached) (middle new : ChannelView L) (reading : Reading) (some : 0 < left) (so_far : PassesSome ending columns left old (reached_on of reading middle)) where
    first_turn : (turns : List Further) → WaitsTurns (replicate (awaited_count ending columns) definition ++ turns) old → WaitsTurns (definition ∷ (replicate (left - 1) definition ++ turns)) (reached_on of reading middle)
    first_turn turns waits = subst (λ (l : List Further). WaitsTurns l (reached_on of reading middle)) (one_more left definition turns some) (so_far.passes turns waits)

    pub passes_one : (next : Reading) → next ≡ record reading { awaited = reading.awaited - 1 } → ServesFurther of reading middle new → PassesSome ending columns (left - 1) old (reached_on of next new)
    passes_one next next_is serves = record {
      state = serves.state ∙ so_far.state;
      passes = λ turns waits.
          let takes = serves.takes (definition ∷ (replicate (left - 1) definition ++ turns)) (first_turn turns waits) in
          let turn_is : takes.turn ≡ definition = same_turn takes.turn definition takes.more (replicate (left - 1) definition ++ turns) (sym takes.turns_are) in
          let more_are : takes.more ≡ replicate (left - 1) definition ++ turns = same_more takes.turn definition takes.more (replicate (left - 1) definition ++ turns) (sym takes.turns_are) in
          subst (λ (r : Reading). WaitsTurns (replicate (left - 1) definition ++ turns) (reached_on of r new)) (sym next_is)
          (subst (λ (f : Further). WaitsTurns (replicate (left - 1) definition ++ turns) (reached_on of (reading_after reading f) new)) turn_is
          (subst (λ (l : List Further). WaitsTurns l (reached_on of (reading_after reading takes.turn) new)) more_are takes.waits));
    }

    missed : (form : Form) (fault : SessionFault) → AnswersFurther of form reading middle new fault ⊎ HearsNothing of (link_of middle) (link_of new) fault → (turns : List Further) → WaitsTurns (definition ∷ turns) (reached_on of reading middle) → IsMissed fault
    missed form fault (inl answers) turns waits =
        let takes = answers.serves.takes (definition ∷ turns) waits in
        let says : further_of reading new.message ≡ definition = takes.says ∙ same_turn takes.turn definition takes.more turns (sym takes.turns_are) in
        let none : further_fault form middle.place (further_of reading new.message) ≡ None = ap (λ (f : Further). further_fault form middle.place f) says in
        let found = answers.fault_is in
        absurd (cc)
    missed form fault (inr nothing) turns waits = of_first waits.messages waits.says waits.waits
      where
        of_first : (messages : List (List ℕ)) → turns_of reading messages ≡ definition ∷ turns → (of.served middle.link).waiting ≡ packets_from middle.id messages → IsMissed fault
        of_first [] says comes = absurd (cc)
        of_first (first ∷ others) says comes = unheard_missed first middle.place fault (nothing.unheard first (packets_from (id_after (packet_count (length first)) middle.id) others) comes)

    left_state : (form : Form) (fault : SessionFault) → AnswersFurther of form reading middle new fault ⊎ HearsNothing of (link_of middle) (link_of new) fault → (of.served new.link).state ≡ (of.served middle.link).state
    left_state form fault (inl answers) = answers.serves.state
    left_state form fault (inr nothing) = nothing.state

    pub passes_not : (start : ChannelView L) (form : Form) (fault : SessionFault) → old ≡ reached_on of (columns_counted ending columns) start → AnswersFurther of form reading middle new fault ⊎ HearsNothing of (link_of middle) (link_of new) fault → DescribesServed of ending columns start (Err fault) new
    passes_not start form fault old_is fails = record {
      state = left_state form fault fails ∙ so_far.state ∙ ap (λ (r : Reached). r.served.state) old_is;
      passes = λ turns waits. missed form fault fails (replicate (left - 1) definition ++ turns) (first_turn turns (subst (λ (r : Reached). WaitsTurns (replicate (awaited_count ending columns) definition ++ turns) r) (sym old_is) waits));
    }

  pub passes_all : (ending : Ends) (columns left : ℕ) (start new : ChannelView L) (reading : Reading) → left ≡ 0 → reading ≡ rows_awaited ending columns → PassesSome ending columns left (reached_on of (columns_counted ending columns) start) (reached_on of reading new) → DescribesServed of ending columns start (Ok tt) new
  passes_all ending columns left start new reading none reading_is so_far = record {
    state = so_far.state;
    passes = λ turns waits.
        subst (λ (r : Reading). WaitsTurns turns (reached_on of r new)) reading_is
        (subst (λ (n : ℕ). WaitsTurns (replicate n definition ++ turns) (reached_on of reading new)) none (so_far.passes turns waits));
  }

-- ---- a query

-- the query that a query's text is read as
abbrev as_asked : Query → Statement
as_asked query = SomeQuery (read_query query)

-- the payload of a query
abbrev asked_payload : Query → List ℕ
asked_payload query = query_payload (query_text query)

-- a command is no query
no_command : (command : Command) (query : Query) → SomeCommand command ≡ SomeQuery query → ⊥
no_command command query is = cc

module _ (query : Query) (has : QueryHasText query) (range : InRange query) where
  -- a query at which the link failed
  broken_query : (old new : State) → old.phase ≡ in_session → ((reply : List ℕ) × Exchanges plainly old (packets 0 (asked_payload query)) reply new) ⊎ (CommitsAlone old (packets 0 (asked_payload query)) new ⊎ (new ≡ old)) → IsLeft plainly old (as_asked query) new
  broken_query old new here (inl whole) =
      let exchanges = whole.1 in
      let same = (one_payload 0 exchanges.is_message.id (asked_payload query) exchanges.payload exchanges.is_message.message_is).payload in
      let replies = subst (λ (l : List ℕ). Replies plainly old l exchanges.messages new) (sym same) exchanges.replies in
      let is_served = text_served plainly old (query_text query) (asked_payload query) (as_asked query) exchanges.messages new here refl (query_reading query has range) replies in
      handled is_served.reply is_served.serves
  broken_query old new here (inr (inl alone)) =
      let same : asked_payload query ≡ query_payload alone.text = (one_payload 0 alone.is_message.id (asked_payload query) (query_payload alone.text) alone.is_message.message_is).payload in
      let texts : alone.text ≡ query_text query = cc in
      absurd (no_command alone.command (read_query query) (same_statement (query_text query) (SomeCommand alone.command) (as_asked query) (subst (λ (l : List ℕ). IsReadAs l (SomeCommand alone.command)) texts alone.read) (query_reading query has range)))
  broken_query old new here (inr (inr same)) = untouched same

  -- a query that wasn't sent
  unsaid_query : (old new : ServedLink) (fault : SessionFault) → old.state.phase ≡ in_session → old.failed ≡ false → LeavesUnsaid plainly (packets 0 (asked_payload query)) old fault new → FailsStatement plainly old.state (as_asked query) fault new.state
  unsaid_query old new Link here alive left = broken_query old.state new.state here (left alive).left
  unsaid_query old new (Refused form refusal) here alive left = absurd left
  unsaid_query old new (Garbled place) here alive left = absurd left
  unsaid_query old new (NotProtocol10 version) here alive left = absurd left
  unsaid_query old new (PluginUnsupported name) here alive left = absurd left
  unsaid_query old new (TooLong size) here alive left = untouched (ap (λ (s : ServedLink). s.state) left)
  unsaid_query old new StreamTooLong here alive left = absurd left
  unsaid_query old new OutOfMemory here alive left = untouched (ap (λ (s : ServedLink). s.state) left)

-- ---- a reply to a query

-- the messages are the front of a result set, and what is still to come of it
record OpensTurns (ending : Ends) (rest : Rest) (first : List ℕ) (others : List (List ℕ)) : Type 0 where
  columns : ℕ
  counts : reply_of first ≡ Some (Columns columns)
  turns : turns_of (columns_counted ending columns) others ≡ replicate (awaited_count ending columns) definition ++ turns_left rest

-- a reply of which the rest is still to come, or an ERR alone
data BeginsReply (server : Server) (reply : Reply) (first : List ℕ) (others : List (List ℕ)) : Type 0 where
  comes : (rest : Rest) → reply ≡ reply_of_rest rest → OpensTurns server.ends rest first others → BeginsReply server reply first others
  errs : (refusal : Refusal) → reply ≡ refused_by [] refusal → reply_of first ≡ Some (IsRefused refusal) → BeginsReply server reply first others

record HasFirst (server : Server) (reply : Reply) (messages : List (List ℕ)) : Type 0 where
  first : List ℕ
  others : List (List ℕ)
  messages_are : messages ≡ first ∷ others
  begins : BeginsReply server reply first others

first_of_reply : (server : Server) (query : Query) (reply : Reply) (messages : List (List ℕ)) → SpellsReply server (SomeQuery query) reply messages → HasFirst server reply messages
first_of_reply server query done messages spells = absurd spells
first_of_reply server query (rows found) messages spells =
    let is_taken = set-taken server.ends spells.columns (sent_rows found) messages spells.is_set in
    record {
      first = is_taken.first;
      others = is_taken.others;
      messages_are = is_taken.messages_are;
      begins = comes (record { rows = found; broken = None }) refl record { columns = spells.columns; counts = is_taken.reply; turns = is_taken.turns };
    }
first_of_reply server query (refused_by found refusal) messages (inl spells) = record {
  first = spells.1.message;
  others = [];
  messages_are = spells.1.messages_are;
  begins = errs refusal (ap (λ (f : List (List Cell)). refused_by f refusal) spells.0) spells.1.says;
}
first_of_reply server query (refused_by found refusal) messages (inr breaks) = record {
  first = breaks.first;
  others = breaks.others;
  messages_are = breaks.messages_are;
  begins = comes (record { rows = found; broken = Some refusal }) refl record { columns = breaks.columns; counts = breaks.counts; turns = breaks.turns };
}

-- a message of which the fault isn't heard
missed_handled : (query : Query) (old new : State) (reply : Reply) (fault : SessionFault) → Serves plainly old (as_asked query) reply new → IsMissed fault → FailsStatement plainly old (as_asked query) fault new
missed_handled query old new reply Link serves is = handled reply serves
missed_handled query old new reply (Refused form refusal) serves is = absurd is
missed_handled query old new reply (Garbled place) serves is = absurd is
missed_handled query old new reply (NotProtocol10 version) serves is = absurd is
missed_handled query old new reply (PluginUnsupported name) serves is = absurd is
missed_handled query old new reply (TooLong size) serves is = handled reply serves
missed_handled query old new reply StreamTooLong serves is = handled reply serves
missed_handled query old new reply OutOfMemory serves is = handled reply serves

same_columns : (reply : Option FirstReply) (columns other : ℕ) → reply ≡ Some (Columns columns) → reply ≡ Some (Columns other) → columns ≡ other
same_columns reply columns other is also = cc

no_columns : (reply : Option FirstReply) (refusal : Refusal) (columns : ℕ) → reply ≡ Some (IsRefused refusal) → reply ≡ Some (Columns columns) → ⊥
no_columns reply refusal columns is also = cc

same_refusal : (reply : Option FirstReply) (refusal other : Refusal) → reply ≡ Some (IsRefused refusal) → reply ≡ Some (IsRefused other) → refusal ≡ other
same_refusal reply refusal other is also = cc

-- what is answered to the first message of a reply to a query is an ERR that is all of it
module _ (server : Server) (reply : Reply) (first : List ℕ) (others : List (List ℕ)) (form : Form) (place : ℕ) where
  record IsErrOnly (fault : SessionFault) : Type 0 where
    refusal : Refusal
    reply_is : reply ≡ refused_by [] refusal
    fault_is : fault ≡ Refused form refusal

  first_fault : (heard : Option FirstReply) (fault : SessionFault) → BeginsReply server reply first others → reply_of first ≡ heard → count_fault form place heard ≡ Some fault → IsErrOnly fault
  first_fault None fault (comes rest reply_is turns) is told = let counts = turns.counts in absurd (cc)
  first_fault None fault (errs refusal reply_is says) is told = absurd (cc)
  first_fault (Some Done) fault (comes rest reply_is turns) is told = let counts = turns.counts in absurd (cc)
  first_fault (Some Done) fault (errs refusal reply_is says) is told = absurd (cc)
  first_fault (Some (IsRefused other)) fault (comes rest reply_is turns) is told = absurd (no_columns (reply_of first) other turns.columns is turns.counts)
  first_fault (Some (IsRefused other)) fault (errs refusal reply_is says) is told =
      let same = same_refusal (reply_of first) refusal other says is in
      let told_is : fault ≡ Refused form other = cc in
      record { refusal = refusal; reply_is = reply_is; fault_is = told_is ∙ ap (λ (r : Refusal). Refused form r) (sym same) }
  first_fault (Some (Columns columns)) fault begins is told = absurd (cc)

module _ {L : Type 0} (of : Ghosts L) (query : Query) (has : QueryHasText query) (range : InRange query) where
  -- the number of columns was heard, and the messages before the rows and all rows are still to come
  pub record CountsRest (ending : Ends) (columns : ℕ) (old : State) (new : ChannelView L) : Type 0 where
    pub rest : Rest
    pub serves : Serves plainly old (as_asked query) (reply_of_rest rest) (of.served new.link).state
    pub waits : WaitsTurns (replicate (awaited_count ending columns) definition ++ turns_left rest) (reached_on of (columns_counted ending columns) new)

  -- a query that wasn't sent
  pub asked_unsaid : (old new : ChannelView L) (fault : SessionFault) → of.honest old.link → IsQuiet of in_session old.link → SaysNone of 0 (outgoing (asked_payload query) None) old new fault → FailsStatement plainly (of.served old.link).state (SomeQuery query) fault (of.served new.link).state
  asked_unsaid old new fault h quiet none = failure_kept plainly (of.served old.link).state (SomeQuery query) fault (of.served new.link).state (unsaid_query query has range (of.served old.link) (of.served new.link) fault quiet.phase_is quiet.alive (none.left h))

  module _ (old middle new : ChannelView L) (quiet : IsQuiet of in_session old.link) (honest : of.honest middle.link) (replied : Replied of plainly (asked_payload query) old.link middle.link middle.id) where
    serving : IsServing of middle.link
    serving = record { honest = honest; alive = replied.alive }

    is_served : IsServed plainly (of.served old.link).state (as_asked query) replied.messages (of.served middle.link).state
    is_served = text_served plainly (of.served old.link).state (query_text query) (asked_payload query) (as_asked query) replied.messages (of.served middle.link).state quiet.phase_is refl (query_reading query has range) replied.replies

    whole : HasFirst (of.served old.link).state.terms.server is_served.reply replied.messages
    whole = first_of_reply (of.served old.link).state.terms.server (read_query query) is_served.reply replied.messages is_served.spells

    waits : (of.served middle.link).waiting ≡ packets middle.id whole.first ++ packets_from (id_after (packet_count (length whole.first)) middle.id) whole.others
    waits = replied.waits ∙ ap (λ (l : List ℕ). l ++ packets_from middle.id replied.messages) quiet.none ∙ ap (λ (l : List (List ℕ)). packets_from middle.id l) whole.messages_are

    serves_still : (of.served new.link).state ≡ (of.served middle.link).state → Serves plainly (of.served old.link).state (as_asked query) is_served.reply (of.served new.link).state
    serves_still is = subst (λ (s : State). Serves plainly (of.served old.link).state (as_asked query) is_served.reply s) (sym is) is_served.serves

    -- the first message is heard, and the others wait
    module _ (reply : Option FirstReply) (delivers : DeliversReply of reply middle.link middle.id new.link new.id) where
      parts : (delivers.message ≡ whole.first) × ((of.served new.link).waiting ≡ packets_from (id_after (packet_count (length whole.first)) middle.id) whole.others)
      parts = same_packets middle.id delivers.message whole.first (of.served new.link).waiting (packets_from (id_after (packet_count (length whole.first)) middle.id) whole.others) (sym delivers.delivers.gives.waits ∙ waits)

      first_heard : reply_of whole.first ≡ reply
      first_heard = ap (λ (l : List ℕ). reply_of l) (sym parts.0) ∙ delivers.reply_is

      others_wait : (of.served new.link).waiting ≡ packets_from new.id whole.others
      others_wait =
          parts.1
          ∙ ap (λ (l : List ℕ). packets_from (id_after (packet_count (length l)) middle.id) whole.others) (sym parts.0)
          ∙ ap (λ (n : ℕ). packets_from n whole.others) (sym delivers.delivers.id)

    counted_by : (ending : Ends) (columns : ℕ) → ending ≡ (of.served old.link).state.terms.server.ends → DeliversReply of (Some (Columns columns)) middle.link middle.id new.link new.id → BeginsReply (of.served old.link).state.terms.server is_served.reply whole.first whole.others → CountsRest ending columns (of.served old.link).state new
    counted_by ending columns ending_is delivers (comes rest reply_is turns) =
        let told = first_heard (Some (Columns columns)) delivers in
        let same : turns.columns ≡ columns = same_columns (reply_of whole.first) turns.columns columns turns.counts told in
        record {
          rest = rest;
          serves = subst (λ (r : Reply). Serves plainly (of.served old.link).state (as_asked query) r (of.served new.link).state) reply_is (serves_still delivers.delivers.gives.state);
          waits = record {
            messages = whole.others;
            says =
                subst (λ (e : Ends). turns_of (columns_counted e columns) whole.others ≡ replicate (awaited_count e columns) definition ++ turns_left rest) (sym ending_is)
                (subst (λ (n : ℕ). turns_of (columns_counted (of.served old.link).state.terms.server.ends n) whole.others ≡ replicate (awaited_count (of.served old.link).state.terms.server.ends n) definition ++ turns_left rest) same turns.turns);
            waits = others_wait (Some (Columns columns)) delivers;
          };
        }
    counted_by ending columns ending_is delivers (errs refusal reply_is says) = absurd (no_columns (reply_of whole.first) refusal columns says (first_heard (Some (Columns columns)) delivers))

    -- the number of columns was heard
    pub asked_counted : (ending : Ends) (columns : ℕ) → ending ≡ (of.served old.link).state.terms.server.ends → ServesReply of (Some (Columns columns)) middle new → CountsRest ending columns (of.served old.link).state new
    asked_counted ending columns ending_is serves = counted_by ending columns ending_is (serves serving) whole.begins

    refusal_given : (form : Form) (fault : SessionFault) → form ≡ query_form query → (of.served new.link).state ≡ (of.served middle.link).state → IsErrOnly (of.served old.link).state.terms.server is_served.reply whole.first whole.others form middle.place fault → FailsStatement plainly (of.served old.link).state (as_asked query) fault (of.served new.link).state
    refusal_given form fault form_is state is =
        subst (λ (f : SessionFault). FailsStatement plainly (of.served old.link).state (as_asked query) f (of.served new.link).state) (sym is.fault_is) record {
          form_is = ap (λ (f : Form). Some f) (form_is ∙ sym (query_keeps_form query));
          before = tt;
          serves = subst (λ (r : Reply). Serves plainly (of.served old.link).state (as_asked query) r (of.served new.link).state) is.reply_is (serves_still state);
        }

    -- it wasn't
    pub asked_uncounted : (form : Form) (fault : SessionFault) → form ≡ query_form query → (IsServing of middle.link → FailsReply of (count_fault form) middle new fault) → FailsStatement plainly (of.served old.link).state (SomeQuery query) fault (of.served new.link).state
    asked_uncounted form fault form_is fails = failure_kept plainly (of.served old.link).state (SomeQuery query) fault (of.served new.link).state (elim (fails serving) [
      | inl answers ↦ refusal_given form fault form_is answers.delivers.delivers.gives.state (first_fault (of.served old.link).state.terms.server is_served.reply whole.first whole.others form middle.place answers.reply fault whole.begins (first_heard answers.reply answers.delivers) answers.fault_is)
      | inr nothing ↦ missed_handled query (of.served old.link).state (of.served new.link).state is_served.reply fault (serves_still nothing.state) (unheard_missed whole.first middle.place fault (nothing.unheard whole.first (packets_from (id_after (packet_count (length whole.first)) middle.id) whole.others) waits))
    ])

  -- the messages before the rows were heard, or they weren't
  module _ (ending : Ends) (columns : ℕ) (old : State) (counted new : ChannelView L) (rest : CountsRest ending columns old counted) where
    serves_after : (of.served new.link).state ≡ (of.served counted.link).state → Serves plainly old (as_asked query) (reply_of_rest rest.rest) (of.served new.link).state
    serves_after is = subst (λ (s : State). Serves plainly old (as_asked query) (reply_of_rest rest.rest) s) (sym is) rest.serves

    pub asked_described : (start : State) (reading : Reading) → Leads query start old → reading ≡ rows_awaited ending columns → DescribesServed of ending columns counted (Ok tt) new → OpensRows query start (reached_on of reading new)
    asked_described start reading leads reading_is describes = record {
      middle = old;
      leads = leads;
      rest = rest.rest;
      serves = serves_kept plainly old (SomeQuery query) (reply_of_rest rest.rest) (of.served new.link).state (serves_after describes.state);
      comes = subst (λ (r : Reading). StillComes rest.rest (reached_on of r new)) (sym reading_is) (describes.passes (turns_left rest.rest) rest.waits);
    }

    pub asked_undescribed : (fault : SessionFault) → DescribesServed of ending columns counted (Err fault) new → FailsStatement plainly old (SomeQuery query) fault (of.served new.link).state
    asked_undescribed fault describes = failure_kept plainly old (SomeQuery query) fault (of.served new.link).state (missed_handled query old (of.served new.link).state (reply_of_rest rest.rest) fault (serves_after describes.state) (describes.passes (turns_left rest.rest) rest.waits))

-- ---- the next row

-- the first of the rows that are left, as they are sent, and the turns after it
record StartsWith (rest : Rest) (cells : List SentCell) (more : List Further) : Type 0 where
  found : List Cell
  others : List (List Cell)
  rows_are : rest.rows ≡ found ∷ others
  cells_are : cells ≡ map bytes_of found
  more_are : more ≡ turns_left (record rest { rows = others })

-- what is left where this turn is first
abbrev FirstLeft : Rest → List Further → Further → Type 0
FirstLeft rest more definition = ⊥
FirstLeft rest more (row cells) = StartsWith rest cells more
FirstLeft rest more end = IsOver rest None
FirstLeft rest more (refused refusal) = IsOver rest (Some refusal)
FirstLeft rest more garbled = ⊥

first_left : (found : List (List Cell)) (broken : Option Refusal) (turn : Further) (more : List Further) → turns_left (record { rows = found; broken = broken }) ≡ turn ∷ more → FirstLeft (record { rows = found; broken = broken }) more turn
first_left [] None turn more is = subst (λ (f : Further). FirstLeft (record { rows = []; broken = None }) more f) (same_turn end turn [] more is) record { none_left = refl; ended = refl }
first_left [] (Some refusal) turn more is = subst (λ (f : Further). FirstLeft (record { rows = []; broken = Some refusal }) more f) (same_turn (refused refusal) turn [] more is) record { none_left = refl; ended = refl }
first_left (cells ∷ others) broken turn more is =
    let later : List Further = turns_left (record { rows = others; broken = broken }) in
    subst (λ (f : Further). FirstLeft (record { rows = cells ∷ others; broken = broken }) more f) (same_turn (row (map bytes_of cells)) turn later more is)
    record { found = cells; others = others; rows_are = refl; cells_are = refl; more_are = sym (same_more (row (map bytes_of cells)) turn later more is) }

some_cells : (message : List ℕ) (columns : ℕ) (cells found : List SentCell) → cells_of columns message ≡ Some cells → cells_of columns message ≡ Some found → found ≡ cells
some_cells message columns cells found is also = cc

-- a fault at a message that is left is the ERR that breaks the rows off
faulty : (rest : Rest) (more : List Further) (asked : Form) (place : ℕ) (turn : Further) (fault : SessionFault) (at : Reached) → FirstLeft rest more turn → further_fault asked place turn ≡ Some fault → TakesNext rest asked (Err fault) at
faulty rest more asked place definition fault at first is = absurd first
faulty rest more asked place (row cells) fault at first is = absurd (cc)
faulty rest more asked place end fault at first is = absurd (cc)
faulty rest more asked place (refused refusal) fault at first is =
    let fault_is : Refused asked refusal ≡ fault = cc in
    subst (λ (f : SessionFault). TakesNext rest asked (Err f) at) fault_is record { at_end = first; form_is = refl }
faulty rest more asked place garbled fault at first is = absurd first

-- a fault at which the message isn't heard
takes_none : (rest : Rest) (asked : Form) (fault : SessionFault) (at : Reached) → IsMissed fault → TakesNext rest asked (Err fault) at
takes_none rest asked Link at is = tt
takes_none rest asked (Refused form refusal) at is = absurd is
takes_none rest asked (Garbled place) at is = absurd is
takes_none rest asked (NotProtocol10 version) at is = absurd is
takes_none rest asked (PluginUnsupported name) at is = absurd is
takes_none rest asked (TooLong size) at is = tt
takes_none rest asked StreamTooLong at is = tt
takes_none rest asked OutOfMemory at is = tt

-- some turn is left
some_left : (found : List (List Cell)) (broken : Option Refusal) → turns_left (record { rows = found; broken = broken }) ≡ [] → ⊥
some_left [] broken is = cc
some_left (cells ∷ found) broken is = cc

module _ {L : Type 0} (of : Ghosts L) (asked : Form) (old new : ChannelView L) (reading next : Reading) where
  module _ (serves : ServesFurther of reading old new) (rest : Rest) (comes : StillComes rest (reached_on of reading old)) where
    first_taken : TakesTurn (turns_left rest) reading new.message (reached_on of reading new)
    first_taken = serves.takes (turns_left rest) comes

    is_first : (turn : Further) → further_of reading new.message ≡ turn → FirstLeft rest first_taken.more turn
    is_first turn is = subst (λ (f : Further). FirstLeft rest first_taken.more f) (sym first_taken.says ∙ is) (first_left rest.rows rest.broken first_taken.turn first_taken.more first_taken.turns_are)

    first_row : (found : Row) (cells : List SentCell) → next ≡ reading → further_of reading new.message ≡ row cells → row_cells found ≡ cells → TakesFirst rest found (reached_on of next new)
    first_row found cells next_is is cells_are =
        let starts : StartsWith rest cells first_taken.more = is_first (row cells) is in
        record {
          cells = starts.found;
          more = starts.others;
          rows_are = starts.rows_are;
          found_is = cells_are ∙ starts.cells_are;
          comes =
              subst (λ (r : Reading). WaitsTurns (turns_left (record rest { rows = starts.others })) (reached_on of r new)) (sym next_is)
              (subst (λ (f : Further). WaitsTurns (turns_left (record rest { rows = starts.others })) (reached_on of (reading_after reading f) new)) (sym first_taken.says ∙ is)
              (subst (λ (l : List Further). WaitsTurns l (reached_on of (reading_after reading first_taken.turn) new)) starts.more_are first_taken.waits));
        }

  -- a row was read
  pub next_found : (ending : Ends) (found : Row) → IsAfterRow ending reading new.message true next → cells_of next.columns new.message ≡ Some (row_cells found) → ServesFurther of reading old new → NextServed asked (reached_on of reading old) (Ok (Some found)) (reached_on of next new)
  next_found ending found after found_is serves = record {
    state = serves.state;
    takes = λ rest comes. first_row serves rest comes found after.0.cells after.1 after.0.is (some_cells new.message reading.columns after.0.cells (row_cells found) after.0.cells_are (subst (λ (r : Reading). cells_of r.columns new.message ≡ Some (row_cells found)) after.1 found_is));
  }

  -- the end of the rows was
  pub next_ended : (ending : Ends) → IsAfterRow ending reading new.message false next → ServesFurther of reading old new → NextServed asked (reached_on of reading old) (Ok None) (reached_on of next new)
  next_ended ending after serves = record {
    state = serves.state;
    takes = λ rest comes. is_first serves rest comes end after.0;
  }

  -- neither was
  pub next_failed : (fault : SessionFault) → AnswersFurther of asked reading old new fault ⊎ HearsNothing of (link_of old) (link_of new) fault → NextServed asked (reached_on of reading old) (Err fault) (reached_on of next new)
  next_failed fault (inl answers) = record {
    state = answers.serves.state;
    takes = λ rest comes. faulty rest (first_taken answers.serves rest comes).more asked old.place (further_of reading new.message) fault (reached_on of next new) (is_first answers.serves rest comes (further_of reading new.message) refl) answers.fault_is;
  }
  next_failed fault (inr nothing) = record {
    state = nothing.state;
    takes = λ rest comes. takes_none rest asked fault (reached_on of next new) (unheard rest comes.messages comes.says comes.waits);
  }
    where
      unheard : (rest : Rest) (messages : List (List ℕ)) → turns_of reading messages ≡ turns_left rest → (of.served old.link).waiting ≡ packets_from old.id messages → IsMissed fault
      unheard rest [] says wait = absurd (some_left rest.rows rest.broken (sym says))
      unheard rest (first ∷ others) says wait = unheard_missed first old.place fault (nothing.unheard first (packets_from (id_after (packet_count (length first)) old.id) others) wait)
