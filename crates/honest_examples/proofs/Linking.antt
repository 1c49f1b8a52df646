-- What sending and receiving do to a link.
use Rattle.std.proofs.Common.{◌≡◌, ℕ, false, List, [], ◌∷◌, ◌++◌, Some, None, refl, ap, sym, ◌∙◌, subst, arith, length, length-append, codes, ◌⊎◌, get_or, inl, inr, All}
use Rattle.std.proofs.lemmas.Bool.{false≢true, true≢false}
use Rattle.std.proofs.lemmas.List.{append_cancel_left}
use Rattle.std.proofs.lemmas.List.Elements.{All-cons, All-nil}
use Rattle.wire_forms.specs.Packet.{packets}
use Rattle.my_packets.proofs.Packets.{packets_length}
use Rattle.server_data.specs.Fold.{change_db, has_object, may_make}
use Rattle.server_data.specs.History.{Interleaves, here, none_left, takes, there}
use Rattle.server_data.specs.declared.data.Transaction.{Transaction}
use Rattle.sql_cells.specs.declared.cell.Cell.{Cell}
use Rattle.statement_forms.specs.declared.command.Command.TheVariants.{Commit}
use Rattle.statement_forms.specs.declared.statement.Statement.TheVariants.{Command as SomeCommand}
use Rattle.honest_server.specs.Effect.{EndsOpen}
use Rattle.honest_server.specs.Exchange.{CommitsAlone, Exchanges, query_payload, served}
use Rattle.honest_server.specs.Link.{IsShown, IsSoundState}
use Rattle.honest_server.specs.Moves.{plainly}
use Rattle.honest_server.specs.Serve.{Reply, Serves, done, rows, refused}
use Rattle.honest_server.specs.Spelled.{SpellsReply}
use Rattle.honest_server.specs.State.{State, with_others}
use Rattle.honest_server.specs.WellFormed.{IsSound}
use Rattle.honest_examples.specs.Effects.{opened, with_three, worked}
use Rattle.honest_examples.specs.Exchanges.{commit, ok}
use Rattle.honest_examples.specs.Links.{AFailureLosesNothingByHalves, ALinkHasSeenItsOwn, ALinkHoldsItsOwn, ASnapshotShowsAFront, BytesAreReceived, TheAnswerWaits, WideKeysAreToldUntilTheyArent, ok_packet}
use Rattle.honest_examples.specs.Worked.{history, marked, no_rows, one, position, put, server, three, two, unmarked}
use Rattle.honest_examples.proofs.Commanding.{commits as served_commits}
use Rattle.honest_examples.proofs.Exchanging.{commits, of_commit, one_message}
use Rattle.honest_examples.proofs.Reading.{read}
use Rattle.honest_examples.proofs.Returning.{two_empty}
use Rattle.honest_examples.proofs.Soundness.{all_of_one, good_marks_with, sound, sound_empty, sound_with_three}

pub waits : TheAnswerWaits
waits = record {
  allowed = record { reply = ok_packet; exchanges = commits.allowed; waits = refl; alive = refl; wide = λ told. told };
  after = record { reply = ok_packet; exchanges = commits.allowed; waits = refl; alive = refl; wide = λ told. told };
  refused = λ answered. let told = commits.nothing_else answered.reply worked answered.exchanges in
      omega (arith, ap (λ (bytes : List ℕ). length bytes) (answered.waits ∙ told.0.bytes_are), packets_length 1 told.0.message);
}

pub untold_again : WideKeysAreToldUntilTheyArent
untold_again = record {
  allowed = record { reply = ok_packet; exchanges = commits.allowed; waits = refl; alive = refl; wide = λ told. absurd (false≢true told) };
  stays = record { reply = ok_packet; exchanges = commits.allowed; waits = refl; alive = refl; wide = λ told. told };
  refused = λ exchanged. false≢true (exchanged.wide refl);
}

-- an open transaction isn't lost by a COMMIT that is handled
kept : (new : State) → new.pending ≡ None → new.seen ≡ history → (more : List Transaction) → EndsOpen (with_others opened more) (Some (put three ∷ [])) new → ⊥
kept new none seen more ended = omega (arith, ap (λ (list : List Transaction). length list) (sym seen ∙ ap (λ (state : State). state.seen) ended.new_is), length-append (history ++ more) (ended.one ∷ []), length-append history more)

abbrev lost : State
lost = record opened { pending = None }

not_served : (reply : Reply) (messages : List (List ℕ)) → Serves plainly opened (SomeCommand Commit) reply lost → SpellsReply server (SomeCommand Commit) reply messages → ⊥
not_served done messages serves spells = kept lost refl refl serves.more serves.handles
not_served (rows found) messages serves spells = spells
not_served (refused found said) messages serves spells = served_commits.allowed.no_err said lost (subst (λ (found : List (List Cell)). Serves plainly opened (SomeCommand Commit) (refused found said) lost) serves.before serves)

-- a COMMIT that is handled and answered
pub committed : Exchanges plainly opened commit ok_packet (with_three opened)
unfolding packets
committed = record { payload = query_payload (codes "COMMIT"); is_message = record { id = 0; begins = refl; message_is = refl }; messages = ok ∷ []; replies = served (codes "COMMIT") (SomeCommand Commit) done refl refl read served_commits.allowed.served one_message.allowed; reply_is = refl }

pub failure : AFailureLosesNothingByHalves
failure = record {
  committed = record { failed = refl; wide = λ told. told; left = inl (ok_packet, committed) };
  untouched = record { failed = refl; wide = λ told. told; left = inr (inr refl) };
  refused = λ breaks. never breaks.left;
}
  where
    never : ((reply : List ℕ) × Exchanges plainly opened commit reply lost) ⊎ (CommitsAlone opened commit lost ⊎ (lost ≡ opened)) → ⊥
    never (inl exchange) = let told = of_commit opened exchange.0 lost exchange.1 refl in not_served told.reply exchange.1.messages told.serves told.spells
    never (inr (inl alone)) = kept lost refl refl alone.more alone.ended
    never (inr (inr same)) = absurd (cc (ap (λ (state : State). state.pending) same))

pub received : BytesAreReceived
received = record {
  allowed = record { ok = (refl, record { some = omega arith; fits = omega arith; bytes = refl; state = refl; alive = refl; wide = refl }); err = tt };
  fails = record { ok = tt; err = refl };
  none = λ new receives. omega (arith, receives.ok.1.some);
  others = λ new receives. omega (arith, ap (λ (bytes : List ℕ). get_or bytes 0 0) receives.ok.1.bytes);
}

-- a list with a member is in no empty interleaving
not_among : {lists : List (List Transaction)} {whole : List Transaction} → Interleaves lists whole → (others : List Transaction) → lists ≡ (unmarked (put three ∷ []) ∷ []) ∷ others ∷ [] → whole ≡ [] → ⊥
not_among (none_left none) others is whole_is = cc ((subst (λ (lists : List (List Transaction)). All (λ (list : List Transaction). list ≡ []) lists) is none) 0 [] (omega arith))
not_among (takes head rest) others is whole_is = cc (whole_is)

-- the worked link is sound where what its snapshot shows is, or its grants are
with_view : (view : List Transaction) → IsShown worked view → IsSoundState (record worked { view = Some view })
with_view view shown = record {
  quiet = λ p. record { more = []; joined = refl; catalogue = λ q. absurd (true≢false q); alone = λ q. refl };
  own = record { more = []; joined = refl; others = []; own = none_left two_empty };
  seen = sound;
  view = record { sound = shown.sound; front = shown.front };
  grants = All-nil _;
}

abbrev with_grants : List (List Transaction) → State
with_grants grants = record worked { grants = grants }

shown_empty : (grants : List (List Transaction)) → IsShown (with_grants grants) no_rows
shown_empty grants = record { sound = sound_empty; front = record { rest = marked position (put one ∷ put two ∷ []) ∷ []; joined = refl } }

shown_whole : (grants : List (List Transaction)) → IsShown (with_grants grants) history
shown_whole grants = record { sound = sound; front = record { rest = []; joined = refl } }

granted : IsSoundState (with_grants (no_rows ∷ history ∷ []))
granted = record {
  quiet = λ p. record { more = []; joined = refl; catalogue = λ q. absurd (true≢false q); alone = λ q. refl };
  own = record { more = []; joined = refl; others = []; own = none_left two_empty };
  seen = sound;
  view = tt;
  grants = All-cons (IsShown (with_grants (no_rows ∷ history ∷ []))) no_rows (history ∷ []) (shown_empty _) (all_of_one (IsShown (with_grants (no_rows ∷ history ∷ []))) history (shown_whole _));
}

pub fronts : ASnapshotShowsAFront
fronts = record {
  allowed = with_view no_rows (record { sound = sound_empty; front = record { rest = marked position (put one ∷ put two ∷ []) ∷ []; joined = refl } });
  same = with_view history (record { sound = sound; front = record { rest = []; joined = refl } });
  granted = granted;
  refused = λ wrong. omega (arith, ap (λ (list : List Transaction). length list) wrong.view.front.joined);
  grant_refused = λ wrong. omega (arith, ap (λ (list : List Transaction). length list) (wrong.grants 0 [] (omega arith)).front.joined);
}

sound_after : IsSound (record server { quiet = false }) (history ++ unmarked [] ∷ unmarked (put three ∷ []) ∷ [])
unfolding change_db has_object may_make
sound_after = record { database = sound_with_three.database; stands = sound_with_three.stands; well_formed = sound_with_three.well_formed; printed = sound_with_three.printed; marks = good_marks_with ([] ∷ (put three ∷ []) ∷ []) }

pub holds : ALinkHoldsItsOwn
holds = record {
  allowed = record {
    quiet = λ quiet. absurd (false≢true quiet);
    own = record { more = unmarked [] ∷ unmarked (put three ∷ []) ∷ []; joined = refl; others = unmarked [] ∷ []; own = takes (there here) (takes here (none_left two_empty)) };
    seen = sound_after;
    view = tt;
    grants = All-nil _;
  };
  refused = λ wrong. not_among wrong.own.own wrong.own.others refl (append_cancel_left history wrong.own.more [] wrong.own.joined);
}

pub own : ALinkHasSeenItsOwn
own = record {
  allowed = record { quiet = λ p. record { more = unmarked (put three ∷ []) ∷ []; joined = refl; catalogue = λ q. absurd (true≢false q); alone = λ q. refl }; own = record { more = unmarked (put three ∷ []) ∷ []; joined = refl; others = []; own = takes here (none_left two_empty) }; seen = sound_with_three; view = tt; grants = All-nil _ };
  refused = λ wrong. let from = wrong.quiet refl in omega (arith, ap (λ (list : List Transaction). length list) (sym from.joined ∙ ap (λ (more : List Transaction). history ++ more) (from.alone refl)));
}
