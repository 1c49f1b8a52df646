-- What opening the workers' snapshots beside the lock session does (MySQL 8.0 Reference Manual, 15.3.7 "SET TRANSACTION Statement", 15.3.1 "START TRANSACTION, COMMIT, and ROLLBACK Statements").
use Rattle.std.specs.Prelude.{◌≡◌, ◌<◌, ℕ, List, length, slice_index_or, Option, None, Some, Ok, Err}
use Rattle.link_traits.specs.declared.link.Link.{Ghosts}
use Rattle.my_session.specs.Session.{IsFree, SessionView, reader_view}
use Rattle.my_session.specs.declared.fault.SessionFault.{SessionFault}
use Rattle.statement_forms.specs.declared.command.Command.TheVariants.{RepeatableRead, StartSnapshot}
use Rattle.snapshot_handover.specs.Handover.{MayShow, Ran, RanBy, WorkerView}
use Rattle.snapshot_handover.specs.Willing.{IsHindered, MayJoin}

-- none of the workers before this number has kept a fault
abbrev pub NoneKeptBefore : {L : Type 0} → List (WorkerView L) → ℕ → Type 0
NoneKeptBefore {L} workers number =
    (before : ℕ) (other : WorkerView L) → before < number →
    (slice_index_or workers before other).fault ≡ None

-- none of the workers has
abbrev pub NoneKept : {L : Type 0} → List (WorkerView L) → Type 0
NoneKept workers = NoneKeptBefore workers (length workers)

-- this is the fault that the worker of this number has kept, and none before it has kept one
pub record IsLeastFault {L : Type 0} (workers : List (WorkerView L)) (number : ℕ)
    (fault : SessionFault) : Type 0 where
  pub there : number < length workers
  pub kept : (other : WorkerView L) → (slice_index_or workers number other).fault ≡ Some fault
  pub least : NoneKeptBefore workers number

module _ {L : Type 0} (of : Ghosts L) where
  -- a worker may open its snapshot beside the holder: it is free, has kept no fault, and on an honest link both are of one site
  pub record MayOpen (holder : L) (worker : WorkerView L) : Type 0 where
    pub free : IsFree (reader_view of worker.session)
    pub no_fault : worker.fault ≡ None
    pub one_site : of.honest worker.session.link → of.same_origin worker.session.link holder

  -- the session was set to read repeatably, and its snapshot was opened beside the holder
  pub record OpensBoth (holder : L) (old new : SessionView L) : Type 0 where
    pub middle : SessionView L
    pub isolates : Ran of RepeatableRead old (Ok tt) middle
    pub opens : RanBy of (Some holder) StartSnapshot middle (Ok tt) new

  -- one of the two failed, and what hindered it
  pub data FailsToOpen (holder : L) (old : SessionView L) (fault : SessionFault)
      (new : SessionView L) : Type 0 where
    at_isolation : Ran of RepeatableRead old (Err fault) new → IsHindered of old new.link →
        FailsToOpen holder old fault new
    at_start : (middle : SessionView L) → Ran of RepeatableRead old (Ok tt) middle →
        RanBy of (Some holder) StartSnapshot middle (Err fault) new →
        (MayJoin (of.served holder).state (of.served old.link).state →
        IsHindered of middle new.link) →
        FailsToOpen holder old fault new

  -- what a session did that kept this fault, or none
  abbrev pub OpensSo : L → SessionView L → Option SessionFault → SessionView L → Type 0
  OpensSo holder old None new = OpensBoth holder old new
  OpensSo holder old (Some fault) new = FailsToOpen holder old fault new

  -- what a worker did
  abbrev pub Opens : L → WorkerView L → WorkerView L → Type 0
  Opens holder old new = OpensSo holder old.session new.fault new.session

  -- what each of the workers did
  abbrev pub AllOpen : L → List (WorkerView L) → List (WorkerView L) → Type 0
  AllOpen holder old new =
      (number : ℕ) (other : WorkerView L) → number < length old →
      Opens holder (slice_index_or old number other) (slice_index_or new number other)

  -- a worker whose snapshot was opened is free, and over an honest server it shows what the holder has seen
  pub record HasSnapshot (holder : L) (worker : WorkerView L) : Type 0 where
    pub free : IsFree (reader_view of worker.session)
    pub no_fault : worker.fault ≡ None
    pub may : of.honest worker.session.link → MayShow (of.served worker.session.link).state
    pub shows : of.honest worker.session.link →
        (of.served worker.session.link).state.view ≡ Some (of.served holder).state.seen

  -- each of the workers that have kept no fault
  abbrev pub OthersHaveSnapshots : L → List (WorkerView L) → Type 0
  OthersHaveSnapshots holder workers =
      (number : ℕ) (other : WorkerView L) → number < length workers →
      (slice_index_or workers number other).fault ≡ None →
      HasSnapshot holder (slice_index_or workers number other)
