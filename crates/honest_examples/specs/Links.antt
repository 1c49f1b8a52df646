-- What sending and receiving do to a link.
use Rattle.std.specs.Prelude.{ℕ, false, true, List, [], ◌∷◌, ◌++◌, Some, None, Ok, Err}
use Rattle.server_data.specs.declared.data.Transaction.{Transaction}
use Rattle.honest_server.specs.Link.{Breaks, IsExchanged, IsSoundState, Receives, ServedLink}
use Rattle.honest_server.specs.Moves.{plainly}
use Rattle.honest_server.specs.State.{State}
use Rattle.honest_examples.specs.Effects.{opened, viewing, with_three, worked}
use Rattle.honest_examples.specs.Exchanges.{commit, ok}
use Rattle.honest_examples.specs.Worked.{history, no_rows, put, server, three, unmarked}

-- a link on which nothing waits, and which hasn't failed
abbrev pub alive : State → ServedLink
alive state = record { waiting = []; state = state; failed = false; keeps_wide = true }

-- a link on which nothing waits, and which has failed
abbrev pub broken : State → ServedLink
broken state = record { waiting = []; state = state; failed = true; keeps_wide = true }

-- these bytes wait on the worked link
abbrev pub with_waiting : List ℕ → ServedLink
with_waiting bytes = record (alive worked) { waiting = bytes }

-- the packet of an OK after a command
abbrev pub ok_packet : List ℕ
ok_packet = 7 ∷ 0 ∷ 0 ∷ 1 ∷ ok

-- once a message is sent its answer waits after what waited before
pub record TheAnswerWaits : Type 0 where
  pub allowed : IsExchanged plainly (alive worked) commit (with_waiting ok_packet)
  pub after : IsExchanged plainly (with_waiting (1 ∷ [])) commit (with_waiting (1 ∷ ok_packet))
  pub refused : IsExchanged plainly (alive worked) commit (alive worked) → ⊥

-- the link doesn't tell any more that each wide key stands once
abbrev pub untold : ServedLink → ServedLink
untold link = record link { keeps_wide = false }

-- What a link tells of wide keys it may stop telling at a message, and doesn't tell again.
pub record WideKeysAreToldUntilTheyArent : Type 0 where
  pub allowed : IsExchanged plainly (alive worked) commit (untold (with_waiting ok_packet))
  pub stays : IsExchanged plainly (untold (alive worked)) commit (untold (with_waiting ok_packet))
  pub refused : IsExchanged plainly (untold (alive worked)) commit (with_waiting ok_packet) → ⊥

-- where a link fails at a COMMIT, the open transaction was committed, or is still open
pub record AFailureLosesNothingByHalves : Type 0 where
  pub committed : Breaks plainly (alive opened) commit (broken (with_three opened))
  pub untouched : Breaks plainly (alive opened) commit (broken opened)
  pub refused : Breaks plainly (alive opened) commit (broken (record opened { pending = None })) → ⊥

-- some of what waits is received, in its order, or the link fails
pub record BytesAreReceived : Type 0 where
  pub allowed : Receives {E = ℕ} (with_waiting ok_packet) (7 ∷ 0 ∷ 0 ∷ 9 ∷ []) (Ok 3)
      (with_waiting (1 ∷ ok))
  pub fails : Receives {E = ℕ} (with_waiting ok_packet) [] (Err 0)
      (record (with_waiting ok_packet) { failed = true })
  pub none : (new : ServedLink) → Receives {E = ℕ} (with_waiting ok_packet) [] (Ok 0) new → ⊥
  pub others : (new : ServedLink) → Receives {E = ℕ} (with_waiting ok_packet) (9 ∷ []) (Ok 1) new →
      ⊥

-- what the only link to a quiet site has seen past the site's history is its own
pub record ALinkHasSeenItsOwn : Type 0 where
  pub allowed : IsSoundState (with_three worked)
  pub refused : IsSoundState (record worked { seen = history ++ unmarked (put three ∷ []) ∷ [] }) →
      ⊥

-- a link to a site where others write too, which has committed the row (3,'c')
abbrev pub among_others : List Transaction → State
among_others seen =
    record worked {
      terms = record worked.terms { server = record server { quiet = false } };
      seen = seen;
      mine = unmarked (put three ∷ []) ∷ [];
    }

-- what a link has committed is among what it has seen, also where others write
pub record ALinkHoldsItsOwn : Type 0 where
  pub allowed : IsSoundState
      (among_others (history ++ unmarked [] ∷ unmarked (put three ∷ []) ∷ []))
  pub refused : IsSoundState (among_others history) → ⊥

-- a link's snapshot shows a front of what it has seen, and so does each grant of the read lock
pub record ASnapshotShowsAFront : Type 0 where
  pub allowed : IsSoundState viewing
  pub same : IsSoundState (record worked { view = Some history })
  pub granted : IsSoundState (record worked { grants = no_rows ∷ history ∷ [] })
  pub refused : IsSoundState
      (record worked { view = Some (history ++ unmarked (put three ∷ []) ∷ []) }) → ⊥
  pub grant_refused : IsSoundState
      (record worked { grants = (history ++ unmarked (put three ∷ []) ∷ []) ∷ [] }) → ⊥
