-- What the lock session's steps are, and what each leaves of the state that an honest server keeps.
use Rattle.std.specs.Prelude.{◌≡◌, true, false, List, [], ◌∷◌, ◌++◌, Option, None, Result, Some, OnOk}
use Rattle.honest_server.specs.State.{State}
use Rattle.link_traits.specs.declared.link.Link.{Ghosts}
use Rattle.my_session.specs.InStep.{ServesRun}
use Rattle.my_session.specs.Session.{KeepsSession, RunFaults, SessionView, place_of}
use Rattle.my_session.specs.declared.fault.SessionFault.{SessionFault}
use Rattle.server_data.specs.History.{IsPrefix}
use Rattle.server_data.specs.declared.data.Transaction.{Transaction}
use Rattle.statement_forms.specs.declared.command.Command.{Command}
use Rattle.wire_forms.specs.Reading.{idle}

-- no view, and no open transaction
pub record HasNothingOpen (state : State) : Type 0 where
  pub view : state.view ≡ None
  pub pending : state.pending ≡ None

-- an idle link that holds the backup lock
pub record IsGuarded (state : State) : Type 0 where
  pub guarded : state.guarded ≡ true
  pub is_idle : HasNothingOpen state

-- one that holds the read lock too, which was granted last at the history that is seen
pub record IsFrozen (state : State) : Type 0 where
  pub is_guarded : IsGuarded state
  pub frozen : state.frozen ≡ true
  pub before : List (List Transaction)
  pub grants : state.grants ≡ before ++ state.seen ∷ []

-- the read lock was granted at the history that is seen now
pub record IsGranted (old new : State) : Type 0 where
  pub seen : IsPrefix old.seen new.seen
  pub grants : new.grants ≡ old.grants ++ new.seen ∷ []

-- the read lock was given up, and nothing more is seen than at its grant
pub record IsThawed (old new : State) : Type 0 where
  pub frozen : new.frozen ≡ false
  pub seen : new.seen ≡ old.seen
  pub grants : new.grants ≡ old.grants

-- the backup lock was given up by an idle link
pub record IsReleased (state : State) : Type 0 where
  pub guarded : state.guarded ≡ false
  pub is_idle : HasNothingOpen state

-- a link that has no transactions of its own, and none open
pub record MayShow (state : State) : Type 0 where
  pub mine : state.mine ≡ []
  pub pending : state.pending ≡ None

-- a worker: its session, and the fault that it has kept
pub record WorkerView (L : Type 0) : Type 0 where
  pub session : SessionView L
  pub fault : Option SessionFault

module _ {L : Type 0} (of : Ghosts L) where
  -- a command was run on a session, beside the holder of the read lock where one is lent
  pub record RanBy (holder : Option L) (command : Command) (old : SessionView L)
      (result : Result (Unit {0}) SessionFault) (new : SessionView L) : Type 0 where
    pub keeps : KeepsSession of old new result
    pub pending : new.pending.reading ≡ idle new.peer.ends
    pub fault : RunFaults command result
    pub served : of.honest old.link →
        ServesRun of holder command (place_of of old) result new.link

  -- a command was run plainly
  abbrev pub Ran : Command → SessionView L → Result (Unit {0}) SessionFault → SessionView L → Type 0
  Ran command old result new = RanBy None command old result new

  -- at Ok the view of the worker's link is what the holder's has seen
  abbrev pub ShowsSeen : L → Result (Unit {0}) SessionFault → L → Type 0
  ShowsSeen holder result worker =
      OnOk result ((of.served worker).state.view ≡ Some (of.served holder).state.seen)
