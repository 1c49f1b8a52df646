-- What becomes of a message that is sent.
use Rattle.std.proofs.Common.{◌≡◌, ◌<◌, ℕ, false, List, [], ◌∷◌, Some, None, refl, ap, sym, ◌∙◌, subst, arith, codes, length, drop, ◌⊎◌, inl, inr}
use Rattle.std.proofs.lemmas.Bool.{false≢true}
use Rattle.wire_forms.specs.Packet.{packets}
use Rattle.my_packets.proofs.Packets.{last_packets, packets_length}
use Rattle.object_forms.specs.Head.{HasHead}
use Rattle.object_forms.specs.Token.{tokens}
use Rattle.sql_cells.specs.declared.cell.Cell.{Cell}
use Rattle.statement_forms.specs.Statement.{CommandHasText, IsReadAs, IsTextOf, command_row, list_row}
use Rattle.statement_forms.specs.Text.{command_text}
use Rattle.statement_forms.specs.declared.command.Command.{Command}
use Rattle.statement_forms.specs.declared.command.Command.TheVariants.{Commit, Create, CreateProgress, CreateProgressDump, CreateProgressFiles, Insert, InsertProgressDump, InsertProgressFile, Rollback, Start, StartSnapshot, Use}
use Rattle.statement_forms.specs.declared.statement.Statement.{Statement}
use Rattle.statement_forms.specs.declared.statement.Statement.TheVariants.{Command as SomeCommand, Query as SomeQuery}
use Rattle.honest_server.specs.Effect.{EndsTransaction}
use Rattle.honest_server.specs.Exchange.{query_payload}
use Rattle.honest_server.specs.Link.{ServedLink}
use Rattle.honest_server.specs.Moves.{plainly}
use Rattle.honest_server.specs.Serve.{Reply, Serves, done, rows, refused}
use Rattle.honest_server.specs.Spelled.{SpellsReply}
use Rattle.honest_server.specs.State.{State}
use Rattle.honest_examples.specs.Effects.{opened}
use Rattle.honest_examples.specs.Exchanges.{commit}
use Rattle.honest_examples.specs.Links.{ok_packet}
use Rattle.honest_examples.specs.Sends.{ACommitMakesNothing, AFailedLinkSendsNothing, AMessageIsSent, ATransactionIsCommittedAlone, rollback}
use Rattle.honest_examples.specs.Worked.{history, put, schema, server, table_text, three, unmarked}
use Rattle.honest_examples.proofs.Commanding.{commits, free, may_follow}
use Rattle.honest_examples.proofs.Exchanging.{of_commit, payload_of}
use Rattle.honest_examples.proofs.Linking.{committed}
use Rattle.honest_examples.proofs.Reading.{no_head}
use Rattle.honest_examples.proofs.Soundness.{sound_with_three}
use Rattle.honest_examples.proofs.Texts.{first, insert_first, no_query, third}

-- START TRANSACTION is read as the command, and as nothing else

abbrev started : List ℕ
started = codes "START TRANSACTION"

makes_nothing : HasHead started → ⊥
unfolding HasHead tokens
makes_nothing head = cc (head.1)

of_command : (command : Command) → CommandHasText command → started ≡ command_text command → (command_row command < 16) ⊎ (SomeCommand command ≡ SomeCommand Start)
unfolding command_text first
of_command Start has is = inr refl
of_command Commit has is = absurd (omega (arith, ap first is))
of_command Rollback has is = absurd (omega (arith, ap first is))
of_command (Use in_schema) has is = absurd (omega (arith, ap first is))
of_command (Create other) has is = absurd (makes_nothing (subst HasHead (sym is) has))
of_command CreateProgress has is = absurd (omega (arith, ap first is))
of_command CreateProgressFiles has is = absurd (omega (arith, ap first is))
of_command CreateProgressDump has is = absurd (omega (arith, ap first is))
of_command (Insert other) has is = absurd (omega (arith, ap first is, insert_first other has))
of_command (InsertProgressFile name) has is = absurd (omega (arith, ap first is))
of_command (InsertProgressDump digest) has is = absurd (omega (arith, ap first is))
of_command command has is = inl (omega arith)

latest : (other : Statement) → IsTextOf other started → (list_row other < 16) ⊎ (other ≡ SomeCommand Start)
unfolding third
latest (SomeCommand command) is = of_command command is.0 is.1
latest (SomeQuery query) is = absurd (no_query started query is.2 refl)

read_start : IsReadAs started (SomeCommand Start)
unfolding command_text
read_start = record { text_of = (tt, refl); latest = latest }

-- no command that commits has the text ROLLBACK

no_rollback_made : HasHead (codes "ROLLBACK") → ⊥
unfolding HasHead tokens
no_rollback_made head = cc (head.1)

no_commit : (command : Command) → EndsTransaction command → CommandHasText command → codes "ROLLBACK" ≡ command_text command → ⊥
unfolding command_text first
no_commit StartSnapshot ends has is = omega (arith, ap first is)
no_commit Start ends has is = omega (arith, ap first is)
no_commit Commit ends has is = omega (arith, ap first is)
no_commit (Create other) ends has is = no_rollback_made (subst HasHead (sym is) has)
no_commit CreateProgress ends has is = omega (arith, ap first is)
no_commit CreateProgressFiles ends has is = omega (arith, ap first is)
no_commit CreateProgressDump ends has is = omega (arith, ap first is)
no_commit command ends has is = ends

text_of_rollback : (text : List ℕ) (id : ℕ) → id ≡ 0 → rollback ≡ packets id (query_payload text) → codes "ROLLBACK" ≡ text
unfolding packets
text_of_rollback text id begins is = sym (ap (λ (bytes : List ℕ). drop 1 bytes) (payload_of (codes "ROLLBACK") rollback (query_payload text) id refl begins is))

pub alone : ATransactionIsCommittedAlone
unfolding packets
alone = record {
  allowed = record {
    text = started;
    command = Start;
    is_open = refl;
    is_message = record { id = 0; begins = refl; message_is = refl };
    read = read_start;
    ends = tt;
    more = [];
    sees = (free history (Some schema) false None (Some (put three ∷ [])) refl).nothing;
    ended = record { one = unmarked (put three ∷ []); changes_are = refl; follows = may_follow history (Some schema) (Some (put three ∷ [])) (unmarked (put three ∷ []) ∷ []); sound = sound_with_three; new_is = refl };
  };
  left_open = λ alone. absurd (cc (ap (λ (state : State). state.pending) alone.ended.new_is));
  locked = λ new alone. absurd (cc (alone.ended.follows.frozen refl));
  refused = λ new alone. no_commit alone.command alone.ends alone.read.text_of.0 (text_of_rollback alone.text alone.is_message.id alone.is_message.begins alone.is_message.message_is ∙ alone.read.text_of.1);
}

-- a COMMIT that is sent

not_moved : (reply : Reply) (messages : List (List ℕ)) → Serves plainly opened (SomeCommand Commit) reply opened → SpellsReply server (SomeCommand Commit) reply messages → ⊥
not_moved done messages serves spells = absurd (cc (ap (λ (state : State). state.pending) serves.handles.new_is))
not_moved (rows found) messages serves spells = spells
not_moved (refused found said) messages serves spells = commits.allowed.no_err said opened (subst (λ (found : List (List Cell)). Serves plainly opened (SomeCommand Commit) (refused found said) opened) serves.before serves)

pub sent : AMessageIsSent
sent = record {
  allowed = record { ok = (refl, record { reply = ok_packet; exchanges = committed; waits = refl; alive = refl; wide = λ told. told }); err = tt; dead = λ failed. absurd (false≢true failed) };
  handled = record { ok = tt; err = λ alive. record { failed = refl; wide = λ told. told; left = inl (ok_packet, committed) }; dead = λ failed. absurd (false≢true failed) };
  not_handled = record { ok = tt; err = λ alive. record { failed = refl; wide = λ told. told; left = inr (inr refl) }; dead = λ failed. absurd (false≢true failed) };
  refused = λ waiting sends. let told = of_commit opened sends.ok.1.reply opened sends.ok.1.exchanges refl in not_moved told.reply sends.ok.1.exchanges.messages told.serves told.spells;
}

pub sends_nothing : AFailedLinkSendsNothing
sends_nothing = record {
  allowed = record { ok = tt; err = λ alive. absurd (false≢true (sym alive)); dead = λ failed. refl };
  sent = λ new sends. false≢true (sym sends.ok.0);
  refused = λ sends. absurd (cc (ap (λ (link : ServedLink). link.state.pending) (sends.dead refl)));
}

-- what makes an object

text_of_commit : (text : List ℕ) (id : ℕ) → commit ≡ packets id (query_payload text) → text ≡ codes "COMMIT"
text_of_commit text id is = sym (ap (λ (bytes : List ℕ). drop 5 bytes) (is ∙ last_packets id (query_payload text) (omega (arith, packets_length id (query_payload text), ap (λ (bytes : List ℕ). length bytes) is))))

has_head : HasHead table_text
unfolding HasHead tokens
has_head = (_, refl)

pub makes : ACommitMakesNothing
makes = record {
  allowed = λ id text is head. no_head (subst HasHead (text_of_commit text id is) head);
  refused = λ none. none 0 table_text refl has_head;
}
