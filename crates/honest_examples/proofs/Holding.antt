-- What becomes of a snapshot that is taken beside a holder of the read lock.
use Rattle.std.proofs.Common.{◌≡◌, ◌<◌, ℕ, List, [], ◌∷◌, ◌++◌, Some, refl, ap, sym, ◌∙◌, subst, arith, codes, length, length-append, ◌⊎◌, inl, inr}
use Rattle.std.proofs.lemmas.Bool.{false≢true}
use Rattle.wire_forms.specs.Packet.{packets}
use Rattle.object_forms.specs.Head.{HasHead}
use Rattle.object_forms.specs.Token.{tokens}
use Rattle.server_data.specs.Fold.{change_db, has_object, may_make}
use Rattle.server_data.specs.declared.data.Transaction.{Transaction}
use Rattle.sql_cells.specs.declared.cell.Cell.{Cell}
use Rattle.sql_cells.specs.declared.cell.Cell.TheVariants.{Null}
use Rattle.statement_forms.specs.Statement.{CommandHasText, IsReadAs, IsTextOf, command_row, list_row}
use Rattle.statement_forms.specs.Text.{command_text}
use Rattle.statement_forms.specs.declared.command.Command.{Command}
use Rattle.statement_forms.specs.declared.command.Command.TheVariants.{Commit, Create, CreateProgress, CreateProgressDump, CreateProgressFiles, Insert, InsertProgressDump, InsertProgressFile, Rollback, Start, StartSnapshot, Use}
use Rattle.statement_forms.specs.declared.statement.Statement.{Statement}
use Rattle.statement_forms.specs.declared.statement.Statement.TheVariants.{Command as SomeCommand, Query as SomeQuery}
use Rattle.honest_server.specs.Exchange.{CommitsAlone, Exchanges, query_payload, served}
use Rattle.honest_server.specs.Moves.{beside}
use Rattle.honest_server.specs.Serve.{IsHandled, Reply, Serves, done, rows, refused}
use Rattle.honest_server.specs.Spelled.{SpellsReply}
use Rattle.honest_server.specs.State.{State, in_session, with_own}
use Rattle.honest_server.specs.WellFormed.{IsSound}
use Rattle.honest_examples.specs.Exchanges.{ok}
use Rattle.honest_examples.specs.Links.{ok_packet}
use Rattle.honest_examples.specs.Sends.{ASnapshotShowsWhatTheHolderHasSeen, NothingIsCommittedBesideAHolder, b_opened, start_snapshot}
use Rattle.honest_examples.specs.Sites.{a_holds, b_sees, one_of_two, puts_five, puts_three}
use Rattle.honest_examples.specs.Worked.{database, history, one, put, row, server, two}
use Rattle.honest_examples.proofs.Changes.{keeps_nothing, keeps_row, keeps_three}
use Rattle.honest_examples.proofs.Exchanging.{IsServedTo, of_message, one_message}
use Rattle.honest_examples.proofs.Soundness.{good_marks_with, sound_with}
use Rattle.honest_examples.proofs.Texts.{first, insert_first, no_query, third}
use Rattle.honest_examples.proofs.Worked.{stands}
use Rattle.plain_data.proofs.Options.{same_some}

-- START TRANSACTION WITH CONSISTENT SNAPSHOT is read as the command, and as nothing else

abbrev text : List ℕ
text = codes "START TRANSACTION WITH CONSISTENT SNAPSHOT"

abbrev snapshot : Statement
snapshot = SomeCommand StartSnapshot

makes_nothing : HasHead text → ⊥
unfolding HasHead tokens
makes_nothing head = cc (head.1)

of_command : (command : Command) → CommandHasText command → text ≡ command_text command → (command_row command < 15) ⊎ (SomeCommand command ≡ snapshot)
unfolding command_text first
of_command StartSnapshot has is = inr refl
of_command Start has is = absurd (omega (arith, ap (λ (bytes : List ℕ). length bytes) is))
of_command Commit has is = absurd (omega (arith, ap first is))
of_command Rollback has is = absurd (omega (arith, ap first is))
of_command (Use in_schema) has is = absurd (omega (arith, ap first is))
of_command (Create other) has is = absurd (makes_nothing (subst HasHead (sym is) has))
of_command CreateProgress has is = absurd (omega (arith, ap first is))
of_command CreateProgressFiles has is = absurd (omega (arith, ap first is))
of_command CreateProgressDump has is = absurd (omega (arith, ap first is))
of_command (Insert other) has is = absurd (omega (arith, ap first is, insert_first other has))
of_command (InsertProgressFile name) has is = absurd (omega (arith, ap first is))
of_command (InsertProgressDump digest) has is = absurd (omega (arith, ap first is))
of_command command has is = inl (omega arith)

latest : (other : Statement) → IsTextOf other text → (list_row other < 15) ⊎ (other ≡ snapshot)
unfolding third
latest (SomeCommand command) is = of_command command is.0 is.1
latest (SomeQuery query) is = absurd (no_query text query is.2 refl)

read : IsReadAs text snapshot
unfolding command_text
read = record { text_of = (tt, refl); latest = latest }

of_snapshot : (state : State) (reply : List ℕ) (new : State) → (exchanges : Exchanges (beside a_holds) state start_snapshot reply new) → state.phase ≡ in_session → IsServedTo (beside a_holds) snapshot state exchanges.messages new
unfolding packets
of_snapshot state reply new exchanges in_phase = of_message (beside a_holds) text start_snapshot snapshot read refl state reply new exchanges in_phase

-- B's snapshot beside A

abbrev b_views : State
b_views = record b_sees { view = Some a_holds.seen }

taken : IsHandled (beside a_holds) one_of_two snapshot done b_views
taken = record {
  more = puts_three ∷ [];
  sees = record {
    follows = record { frozen = λ p. absurd (false≢true p); guarded = λ p. absurd (false≢true p); catalogue = λ p q. keeps_three };
    joined = refl;
    alone = λ p q. absurd (false≢true q);
  };
  handles = record { middle = b_sees; ended = refl; new_is = refl };
  ends = refl;
}

exchanged : Exchanges (beside a_holds) one_of_two start_snapshot ok_packet b_views
unfolding packets
exchanged = record { payload = query_payload text; is_message = record { id = 0; begins = refl; message_is = refl }; messages = ok ∷ []; replies = served text snapshot done refl refl read taken one_message.allowed; reply_is = refl }

shows : (reply : Reply) (messages : List (List ℕ)) (new : State) → Serves (beside a_holds) one_of_two snapshot reply new → SpellsReply server snapshot reply messages → new.view ≡ Some a_holds.seen
shows done messages new serves spells = ap (λ (state : State). state.view) serves.handles.new_is ∙ (ap (λ (state : State). Some (state.seen)) serves.handles.ended ∙ ap (λ (seen : List Transaction). Some seen) serves.sees.joined)
shows (rows found) messages new serves spells = absurd spells
shows (refused found said) messages new serves spells = absurd (serves.must refl done b_views taken)

pub shown : ASnapshotShowsWhatTheHolderHasSeen
shown = record {
  allowed = record { sends = record { ok = (refl, record { reply = ok_packet; exchanges = exchanged; waits = refl; alive = refl; wide = λ told. told }); err = tt; dead = λ failed. absurd (false≢true failed) }; after = record { rest = puts_three ∷ []; joined = refl } };
  nothing_else = λ new sends. of_new new.state sends.sends.ok.1.reply sends.sends.ok.1.exchanges;
  older = λ new view sends. omega (arith, ap (λ (list : List Transaction). length list) (same_some (sym view ∙ of_new new.state sends.sends.ok.1.reply sends.sends.ok.1.exchanges)));
}
  where
    of_new : (new : State) (reply : List ℕ) → Exchanges (beside a_holds) one_of_two start_snapshot reply new → new.view ≡ Some a_holds.seen
    of_new new reply exchanges = let told = of_snapshot one_of_two reply new exchanges refl in shows told.reply exchanges.messages new told.serves told.spells

-- B's open transaction

abbrev five : List Cell
five = row (codes "5") Null

sound_five : IsSound server (history ++ puts_five ∷ [])
unfolding change_db has_object may_make
sound_five = sound_with (history ++ puts_five ∷ []) (one ∷ two ∷ five ∷ []) (1 ∷ 2 ∷ 5 ∷ []) refl (good_marks_with ((put five ∷ []) ∷ [])) refl refl refl

alone : CommitsAlone b_opened start_snapshot (with_own b_opened puts_five)
unfolding packets
alone = record {
  text = text;
  command = StartSnapshot;
  is_open = refl;
  is_message = record { id = 0; begins = refl; message_is = refl };
  read = read;
  ends = tt;
  more = [];
  sees = record {
    follows = record { frozen = λ p. refl; guarded = λ p. keeps_nothing history database stands; catalogue = λ p q. keeps_nothing history database stands };
    sole = λ p q. refl;
    willing = λ p q. refl;
  };
  ended = record {
    one = puts_five;
    changes_are = refl;
    follows = record { frozen = λ p. absurd (false≢true p); guarded = λ p. absurd (false≢true p); catalogue = λ p q. keeps_row history (one ∷ two ∷ []) (codes "5") Null stands };
    sound = sound_five;
    new_is = refl;
  };
}

none_of_own : (reply : Reply) (messages : List (List ℕ)) (new : State) → Serves (beside a_holds) b_opened snapshot reply new → SpellsReply server snapshot reply messages → new.mine ≡ []
none_of_own done messages new serves spells = absurd (omega (arith, ap (λ (list : List Transaction). length list) too_long, length-append (history ++ serves.more) (serves.handles.ended.one ∷ [])))
  where
    too_long : (history ++ serves.more) ++ serves.handles.ended.one ∷ [] ≡ history ++ serves.more
    too_long = sym (ap (λ (state : State). state.seen) serves.handles.new_is ∙ ap (λ (state : State). state.seen) serves.handles.ended.new_is) ∙ (serves.ends ∙ sym serves.sees.joined)
none_of_own (rows found) messages new serves spells = absurd spells
none_of_own (refused found said) messages new serves spells = ap (λ (state : State). state.mine) serves.gives.new_is

pub kept : NothingIsCommittedBesideAHolder
kept = record {
  plainly = record { ok = tt; err = λ alive. record { failed = refl; wide = λ told. told; left = inr (inl alone) }; dead = λ failed. absurd (false≢true failed) };
  allowed = record { sends = record { ok = tt; err = λ alive. record { failed = refl; wide = λ told. told; left = inr (inr refl) }; dead = λ failed. absurd (false≢true failed) }; after = tt };
  nothing_else = λ new sends. of_left new.state (sends.sends.err refl).left;
  refused = λ sends. absurd (cc (of_left (with_own b_opened puts_five) (sends.sends.err refl).left));
}
  where
    of_left : (new : State) → ((reply : List ℕ) × Exchanges (beside a_holds) b_opened start_snapshot reply new) ⊎ (⊥ ⊎ (new ≡ b_opened)) → new.mine ≡ []
    of_left new (inl exchange) = let told = of_snapshot b_opened exchange.0 new exchange.1 refl in none_of_own told.reply exchange.1.messages new told.serves told.spells
    of_left new (inr (inl nothing)) = absurd nothing
    of_left new (inr (inr same)) = ap (λ (state : State). state.mine) same
