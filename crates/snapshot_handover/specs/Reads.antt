-- From which history a frozen session and a worker are answered, and what asking leaves of them.
use Rattle.std.specs.Prelude.{ℕ, ◌≡◌, List, Some, Result}
use Rattle.honest_server.specs.State.{State}
use Rattle.my_session.specs.Asked.{AsksServed, OpensRows}
use Rattle.my_session.specs.Coming.{Reached}
use Rattle.my_session.specs.Shown.{ComesFrom}
use Rattle.my_session.specs.declared.fault.SessionFault.{SessionFault}
use Rattle.server_data.specs.declared.data.Transaction.{Transaction}
use Rattle.statement_forms.specs.Form.{query_form}
use Rattle.statement_forms.specs.declared.form.Form.TheVariants.{Select}
use Rattle.statement_forms.specs.declared.query.Query.{Query}
use Rattle.snapshot_handover.specs.Handover.{IsFrozen, MayShow}

-- a query was asked while the read lock was held: it still is, nothing more is seen, and the rows are an answer at what is seen
pub record ReadsSeen (query : Query) (old : State) (new : Reached) : Type 0 where
  pub frozen : IsFrozen new.served.state
  pub seen : new.served.state.seen ≡ old.seen
  pub rows : (opens : OpensRows query old new) → ComesFrom old.seen query opens.rest

-- so does every query of a frozen session, whatever comes of it
abbrev pub FrozenReadsSeen : Type 0
FrozenReadsSeen =
    (query : Query) (old : State) (result : Result ℕ SessionFault) (new : Reached) →
    AsksServed query old result new → IsFrozen old → ReadsSeen query old new

-- a query was asked by a worker: its view stands, and the rows of a SELECT are an answer at it
pub record ReadsView (history : List Transaction) (query : Query) (old : State)
    (new : Reached) : Type 0 where
  pub may : MayShow new.served.state
  pub view : new.served.state.view ≡ Some history
  pub rows : query_form query ≡ Select → (opens : OpensRows query old new) →
      ComesFrom history query opens.rest

-- so does every query of a worker whose view is this history, whatever comes of it
abbrev pub WorkersReadTheirViews : Type 0
WorkersReadTheirViews =
    (history : List Transaction) (query : Query) (old : State) (result : Result ℕ SessionFault)
    (new : Reached) → AsksServed query old result new → MayShow old → old.view ≡ Some history →
    ReadsView history query old new
