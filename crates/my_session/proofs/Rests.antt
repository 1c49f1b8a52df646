-- What an honest server's reply begins with, and what follows it.
use Rattle.std.proofs.Common.{None, ◌≡◌, ℕ, zero, suc, List, [], ◌∷◌, ◌++◌, map, replicate, refl, sym, ◌∙◌, ap, subst, inl, inr, Option, Some}
use Rattle.honest_server.specs.Exchange.{Replies, accepted, switched, turned_away, quits, served, unknown, ignored, query_payload, IsLoggingIn}
use Rattle.honest_server.specs.Serve.{Reply, done, rows, refused}
use Rattle.honest_server.specs.Spelled.{SpellsReply, SpellsErr, BreaksOff, SpellsRowsOf, sent_rows}
use Rattle.honest_server.specs.Moves.{Way}
use Rattle.honest_server.specs.State.{Server, State, Terms, Phase, in_session}
use Rattle.result_rows.proofs.ResultSets.{set-taken}
use Rattle.wire_forms.specs.Reading.{Reading, Further, definition, row, end, refused as refused_turn, garbled, awaited_count, columns_counted, further_of, reading_after}
use Rattle.wire_forms.specs.Reply.{reply_of}
use Rattle.wire_forms.specs.ResultSet.{turns_of}
use Rattle.plain_data.specs.Cell.{Cell}
use Rattle.wire_forms.specs.declared.ends.Ends.{Ends}
use Rattle.wire_forms.specs.declared.refusal.Refusal.{Refusal}
use Rattle.wire_forms.specs.declared.reply.Reply.{Reply as FirstReply}
use Rattle.sql_cells.specs.declared.cell.Cell.{Cell as FoundCell}
use Rattle.statement_forms.specs.declared.query.Query.{Query}
use Rattle.statement_forms.specs.declared.statement.Statement.{Statement}
use Rattle.statement_forms.specs.declared.statement.Statement.TheVariants.{Command as SomeCommand, Query as SomeQuery}
use Rattle.my_session.proofs.Effects.{serves_keeps, unknown_keeps}
use Rattle.my_session.specs.InStep.{Completes, ends, breaks_off, defines, has_row, Follows, IsReply}

-- ---- the rest of a result set, by what a reader takes its messages for

abbrev EndsRows : Further → Type 0
EndsRows definition = ⊥
EndsRows (row cells) = ⊥
EndsRows end = Unit {0}
EndsRows (refused_turn refusal) = Unit {0}
EndsRows garbled = ⊥

completes_last : (reading : Reading) (last : Further) (message : List ℕ) → EndsRows last → further_of reading message ≡ last → Completes reading (message ∷ [])
completes_last reading definition message ending is = absurd ending
completes_last reading (row cells) message ending is = absurd ending
completes_last reading end message ending is = ends is
completes_last reading (refused_turn refusal) message ending is = breaks_off is
completes_last reading garbled message ending is = absurd ending

completes_rows : (reading : Reading) (found : List (List Cell)) (last : Further) (messages : List (List ℕ)) → EndsRows last → turns_of reading messages ≡ map row found ++ last ∷ [] → Completes reading messages
completes_rows reading [] last [] ending turns = absurd (cc)
completes_rows reading [] last (message ∷ []) ending turns = completes_last reading last message ending (let first : further_of reading message ≡ last = cc in first)
completes_rows reading [] last (message ∷ other ∷ messages) ending turns = absurd (cc)
completes_rows reading (cells ∷ found) last [] ending turns = absurd (cc)
completes_rows reading (cells ∷ found) last (message ∷ messages) ending turns =
    let first : further_of reading message ≡ row cells = cc in
    let others : turns_of (reading_after reading (further_of reading message)) messages ≡ map row found ++ last ∷ [] = cc in
    has_row first (completes_rows reading found last messages ending (ap (λ (f : Further). turns_of (reading_after reading f) messages) (sym first) ∙ others))

completes_turns : (count : ℕ) (reading : Reading) (found : List (List Cell)) (last : Further) (messages : List (List ℕ)) → EndsRows last → turns_of reading messages ≡ replicate count definition ++ (map row found ++ last ∷ []) → Completes reading messages
completes_turns zero reading found last messages ending turns = completes_rows reading found last messages ending turns
completes_turns (suc count) reading found last [] ending turns = absurd (cc)
completes_turns (suc count) reading found last (message ∷ messages) ending turns =
    let first : further_of reading message ≡ definition = cc in
    let others : turns_of (reading_after reading (further_of reading message)) messages ≡ replicate count definition ++ (map row found ++ last ∷ []) = cc in
    defines first (completes_turns count (reading_after reading definition) found last messages ending (ap (λ (f : Further). turns_of (reading_after reading f) messages) (sym first) ∙ others))

-- ---- a reply in a session

reply_alone : (ending : Ends) (message : List ℕ) (messages : List (List ℕ)) (reply : FirstReply) → messages ≡ message ∷ [] → reply_of message ≡ Some reply → Follows ending (Some reply) [] → IsReply ending messages
reply_alone ending message messages reply messages_are says follows = record {
  first = message;
  others = [];
  messages_are = messages_are;
  follows = subst (λ (r : Option FirstReply). Follows ending r []) (sym says) follows;
}

err_reply : (server : Server) (refusal : Refusal) (messages : List (List ℕ)) → SpellsErr server refusal messages → IsReply server.ends messages
err_reply server refusal messages spells = reply_alone server.ends spells.message messages _ spells.messages_are spells.says refl

rows_reply : (server : Server) (query : Query) (found : List (List FoundCell)) (messages : List (List ℕ)) → SpellsRowsOf server query found messages → IsReply server.ends messages
rows_reply server query found messages spells =
    let is_taken = set-taken server.ends spells.columns (sent_rows found) messages spells.is_set in
    record {
      first = is_taken.first;
      others = is_taken.others;
      messages_are = is_taken.messages_are;
      follows = subst (λ (r : Option FirstReply). Follows server.ends r is_taken.others) (sym is_taken.reply) (completes_turns (awaited_count server.ends spells.columns) (columns_counted server.ends spells.columns) (sent_rows found) end is_taken.others tt is_taken.turns);
    }

broken_reply : (server : Server) (query : Query) (found : List (List FoundCell)) (refusal : Refusal) (messages : List (List ℕ)) → BreaksOff server query found refusal messages → IsReply server.ends messages
broken_reply server query found refusal messages breaks = record {
  first = breaks.first;
  others = breaks.others;
  messages_are = breaks.messages_are;
  follows = subst (λ (r : Option FirstReply). Follows server.ends r breaks.others) (sym breaks.counts) (completes_turns (awaited_count server.ends breaks.columns) (columns_counted server.ends breaks.columns) (sent_rows found) (refused_turn refusal) breaks.others tt breaks.turns);
}

spelled_reply : (server : Server) (statement : Statement) (reply : Reply) (messages : List (List ℕ)) → SpellsReply server statement reply messages → IsReply server.ends messages
spelled_reply server (SomeCommand command) done messages spells = reply_alone server.ends spells.message messages _ spells.messages_are spells.says refl
spelled_reply server (SomeCommand command) (rows found) messages spells = absurd spells
spelled_reply server (SomeCommand command) (refused found refusal) messages spells = err_reply server refusal messages spells
spelled_reply server (SomeQuery query) done messages spells = absurd spells
spelled_reply server (SomeQuery query) (rows found) messages spells = rows_reply server query found messages spells
spelled_reply server (SomeQuery query) (refused found refusal) messages (inl spells) = err_reply server refusal messages spells.1
spelled_reply server (SomeQuery query) (refused found refusal) messages (inr breaks) = broken_reply server query found refusal messages breaks

pub record InSession (messages : List (List ℕ)) (new : State) : Type 0 where
  pub is_reply : IsReply new.terms.server.ends messages
  pub phase : new.phase ≡ in_session

-- in a session a text is answered by a whole reply, and the session stays open
pub session_reply : (way : Way) (state : State) (text payload : List ℕ) (messages : List (List ℕ)) (new : State) → state.phase ≡ in_session → payload ≡ query_payload text → Replies way state payload messages new → InSession messages new
session_reply way state text payload messages new here is (accepted logging says new_is) = absurd (subst (λ (p : Phase). IsLoggingIn p) here logging)
session_reply way state text payload messages new here is (switched message phase asks lean messages_are new_is) = absurd (cc)
session_reply way state text payload messages new here is (turned_away refusal logging unwilling says new_is) = absurd (subst (λ (p : Phase). IsLoggingIn p) here logging)
session_reply way state text payload messages new here is (quits phase payload_is messages_are new_is) = absurd (cc)
session_reply way state text payload messages new here is (served also statement reply phase payload_is read serves spells) = record {
  is_reply = subst (λ (t : Terms). IsReply t.server.ends messages) (sym (serves_keeps way state statement reply new serves).terms) (spelled_reply state.terms.server statement reply messages spells);
  phase = (serves_keeps way state statement reply new serves).phase ∙ here;
}
session_reply way state text payload messages new here is (unknown refusal more phase nothing gives says) = record {
  is_reply = subst (λ (t : Terms). IsReply t.server.ends messages) (sym (unknown_keeps state more None refusal new gives).terms) (err_reply state.terms.server refusal messages says);
  phase = (unknown_keeps state more None refusal new gives).phase ∙ here;
}
session_reply way state text payload messages new here is (ignored phase messages_are new_is) = absurd (cc)
