-- Which bytes are a whole message, and what becomes of a message that is sent: answered, handled by a link that failed, or not handled.
use Rattle.std.specs.Prelude.{ℕ, ◌≡◌, List, [], ◌∷◌, Some, Ok, Err, codes}
use Rattle.wire_forms.specs.Packet.{packets}
use Rattle.sql_cells.specs.declared.cell.Cell.TheVariants.{Null}
use Rattle.honest_server.specs.Exchange.{CommitsAlone, IsWholeMessage, query_payload}
use Rattle.honest_server.specs.Link.{IsNoCreate, Sends, SendsBeside, ServedLink}
use Rattle.honest_server.specs.State.{State, greeted, in_session, with_own}
use Rattle.honest_examples.specs.Effects.{frozen, opened, with_three}
use Rattle.honest_examples.specs.Exchanges.{commit}
use Rattle.honest_examples.specs.Links.{alive, broken, ok_packet}
use Rattle.honest_examples.specs.Sites.{a_holds, b_sees, one_of_two, puts_five}
use Rattle.honest_examples.specs.Worked.{history, put, row, table_text}

-- START TRANSACTION as a message
abbrev pub start : List ℕ
start = 18 ∷ 0 ∷ 0 ∷ 0 ∷ 3 ∷ codes "START TRANSACTION"

-- ROLLBACK as a message
abbrev pub rollback : List ℕ
rollback = 9 ∷ 0 ∷ 0 ∷ 0 ∷ 3 ∷ codes "ROLLBACK"

-- Of a START TRANSACTION only the commit of the open transaction may be done. It isn't while the link holds the read lock, nor of a
-- ROLLBACK.
pub record ATransactionIsCommittedAlone : Type 0 where
  pub allowed : CommitsAlone opened start (with_three opened)
  pub left_open : CommitsAlone opened start opened → ⊥
  pub locked : (new : State) → CommitsAlone (frozen opened) start new → ⊥
  pub refused : (new : State) → CommitsAlone opened rollback new → ⊥

-- A COMMIT that is sent is handled, and its answer waits; where sending fails it was handled or it wasn't. None is sent and not handled.
pub record AMessageIsSent : Type 0 where
  pub allowed : Sends {T = ℕ} {E = ℕ} (alive opened) commit (Ok 0)
      (record (alive (with_three opened)) { waiting = ok_packet })
  pub handled : Sends {T = ℕ} {E = ℕ} (alive opened) commit (Err 0) (broken (with_three opened))
  pub not_handled : Sends {T = ℕ} {E = ℕ} (alive opened) commit (Err 0) (broken opened)
  pub refused : (waiting : List ℕ) →
      Sends {T = ℕ} {E = ℕ} (alive opened) commit (Ok 0)
      (record (alive opened) { waiting = waiting }) → ⊥

-- On a link that has failed no message is sent, and nothing changes.
pub record AFailedLinkSendsNothing : Type 0 where
  pub allowed : Sends {T = ℕ} {E = ℕ} (broken opened) commit (Err 0) (broken opened)
  pub sent : (new : ServedLink) → Sends {T = ℕ} {E = ℕ} (broken opened) commit (Ok 0) new → ⊥
  pub refused : Sends {T = ℕ} {E = ℕ} (broken opened) commit (Err 0) (broken (with_three opened)) →
      ⊥

-- COMMIT is no object's text, and CREATE TABLE is
pub record ACommitMakesNothing : Type 0 where
  pub allowed : IsNoCreate commit
  pub refused : IsNoCreate (packets 0 (query_payload table_text)) → ⊥

-- COMMIT as a message, but with the id 1
abbrev pub commit_of_id_one : List ℕ
commit_of_id_one = 7 ∷ 0 ∷ 0 ∷ 1 ∷ 3 ∷ codes "COMMIT"

-- COMMIT as a message, but without its last byte
abbrev pub cut_commit : List ℕ
cut_commit = 7 ∷ 0 ∷ 0 ∷ 0 ∷ 3 ∷ codes "COMMI"

-- In a session a whole message is the packets of a payload from the id 0 on. In the login the id may be another.
pub record AMessageIsWhole : Type 0 where
  pub allowed : IsWholeMessage in_session commit
  pub in_the_login : IsWholeMessage greeted commit_of_id_one
  pub other_id : IsWholeMessage in_session commit_of_id_one → ⊥
  pub byte_missing : IsWholeMessage in_session cut_commit → ⊥

-- START TRANSACTION WITH CONSISTENT SNAPSHOT as a message
abbrev pub start_snapshot : List ℕ
start_snapshot = 43 ∷ 0 ∷ 0 ∷ 0 ∷ 3 ∷ codes "START TRANSACTION WITH CONSISTENT SNAPSHOT"

-- Of two links side by side, A holds the read lock after its row, which B hasn't seen. B's snapshot beside A shows what A has seen.
pub record ASnapshotShowsWhatTheHolderHasSeen : Type 0 where
  pub allowed : SendsBeside {T = ℕ} {E = ℕ} a_holds (alive one_of_two) start_snapshot (Ok 0)
      (record (alive (record b_sees { view = Some a_holds.seen })) { waiting = ok_packet })
  pub nothing_else : (new : ServedLink) →
      SendsBeside {T = ℕ} {E = ℕ} a_holds (alive one_of_two) start_snapshot (Ok 0) new →
      new.state.view ≡ Some a_holds.seen
  pub older : (new : ServedLink) → new.state.view ≡ Some history →
      SendsBeside {T = ℕ} {E = ℕ} a_holds (alive one_of_two) start_snapshot (Ok 0) new → ⊥

-- B has an open transaction, which has put the row of the key 5
abbrev pub b_opened : State
b_opened = record one_of_two { pending = Some (put (row (codes "5") Null) ∷ []) }

-- Where B fails at a snapshot that is sent plainly, its open transaction may have been committed, and beside A nothing was.
pub record NothingIsCommittedBesideAHolder : Type 0 where
  pub plainly : Sends {T = ℕ} {E = ℕ} (alive b_opened) start_snapshot (Err 0)
      (broken (with_own b_opened puts_five))
  pub allowed : SendsBeside {T = ℕ} {E = ℕ} a_holds (alive b_opened) start_snapshot (Err 0)
      (broken b_opened)
  pub nothing_else : (new : ServedLink) →
      SendsBeside {T = ℕ} {E = ℕ} a_holds (alive b_opened) start_snapshot (Err 0) new →
      new.state.mine ≡ []
  pub refused : SendsBeside {T = ℕ} {E = ℕ} a_holds (alive b_opened) start_snapshot (Err 0)
      (broken (with_own b_opened puts_five)) → ⊥
