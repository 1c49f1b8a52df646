-- Which statements an honest server serves, and how (MySQL 8.0 Reference Manual, 17.7.2.3 "Consistent Nonlocking Reads", 15.3.1 "START TRANSACTION, COMMIT, and ROLLBACK Statements").
use Rattle.std.specs.Prelude.{◌≡◌, ◌⊎◌, Bool, true, List, [], Option, Some, None}
use Rattle.wire_forms.specs.declared.refusal.Refusal.{Refusal}
use Rattle.server_data.specs.Fold.{db, mark}
use Rattle.server_data.specs.History.{IsPrefix}
use Rattle.server_data.specs.declared.data.Change.{Change}
use Rattle.server_data.specs.declared.data.Database.{Database}
use Rattle.server_data.specs.declared.data.Transaction.{Transaction}
use Rattle.sql_cells.specs.declared.cell.Cell.{Cell}
use Rattle.statement_forms.specs.Form.{form_of, query_form}
use Rattle.statement_forms.specs.declared.form.Form.{Form}
use Rattle.statement_forms.specs.declared.form.Form.TheVariants.{Select}
use Rattle.statement_forms.specs.declared.query.Query.{Query}
use Rattle.statement_forms.specs.declared.query.Query.TheVariants.{MasterStatus, BinaryLogStatus}
use Rattle.statement_forms.specs.declared.statement.Statement.{Statement}
use Rattle.statement_forms.specs.declared.statement.Statement.TheVariants.{Command as SomeCommand, Query as SomeQuery}
use Rattle.honest_server.specs.Answer.{Answers, ShowsMark, tells_text}
use Rattle.honest_server.specs.Effect.{Effect}
use Rattle.honest_server.specs.Moves.{Way, plainly, beside, Sees, SeesOthers, SeesAfter}
use Rattle.honest_server.specs.State.{State, has_master_status, with_others, with_error}

-- a reply: OK, rows, or an ERR, after some rows or none
pub data Reply : Type 0 where
  done : Reply
  rows : List (List Cell) → Reply
  refused : List (List Cell) → Refusal → Reply

-- the history that a query is answered by: that of the view for a SELECT, where one is set
abbrev pub shown_history : State → Form → Option (List Transaction) → List Transaction
shown_history state form None = state.seen
shown_history state Select (Some view) = view
shown_history state form (Some view) = state.seen

-- these rows answer the query over the database after the history that it is shown; a willing server withholds no text
pub record IsAnswered (state : State) (query : Query) (found : List (List Cell)) : Type 0 where
  pub database : Database
  pub stands : db (shown_history state (query_form query) state.view) ≡ Some database
  pub answers : Answers database query found
  pub texts : state.terms.server.willing ≡ true → tells_text query found ≡ true

-- a status query that the server has is answered by the position of what was seen
pub record ShowsStatus (has : Bool) (state : State) (found : List (List Cell)) : Type 0 where
  pub is_there : has ≡ true
  pub shows : ShowsMark (mark state.seen) found

-- every query but the two for the position is answered over a database; `Answers` lists them all
abbrev pub QueryServed : State → Query → List (List Cell) → Type 0
QueryServed state MasterStatus found =
    ShowsStatus (has_master_status state.terms.server) state found
QueryServed state BinaryLogStatus found = ShowsStatus state.terms.server.newer state found
QueryServed state query found = IsAnswered state query found

-- a statement is handled without an ERR, once the link has seen what it comes to see
abbrev pub Handles : State → Statement → Reply → State → Type 0
Handles state (SomeCommand command) done new = Effect state command new
Handles state (SomeCommand command) (rows found) new = ⊥
Handles state (SomeCommand command) (refused found refusal) new = ⊥
Handles state (SomeQuery query) done new = ⊥
Handles state (SomeQuery query) (rows found) new = QueryServed state query found × (new ≡ state)
Handles state (SomeQuery query) (refused found refusal) new = ⊥

-- an open transaction may be lost at an ERR
abbrev pub MayLose : Option (List Change) → Option (List Change) → Type 0
MayLose old new = (new ≡ old) ⊎ (new ≡ None)

-- the statement is handled, once the link has seen what it comes to see
pub record IsHandled (way : Way) (state : State) (statement : Statement) (reply : Reply)
    (new : State) : Type 0 where
  pub more : List Transaction
  pub sees : Sees way state more
  pub handles : Handles (with_others state more) statement reply new
  pub ends : SeesAfter way new

-- no reply but an ERR can be given to the statement: plainly at this state, and beside a holder at what the holder has seen
abbrev pub FitsNowhere : Way → State → Statement → List Transaction → Type 0
FitsNowhere plainly state statement more =
    (reply : Reply) (new : State) → Handles (with_others state more) statement reply new → ⊥
FitsNowhere (beside holder) state statement more =
    (reply : Reply) (new : State) → IsHandled (beside holder) state statement reply new → ⊥

-- the rows that came before an ERR are the first of an answer to the query, and none of any other statement
abbrev pub CameBefore : State → Statement → List (List Cell) → Type 0
CameBefore state (SomeCommand command) found = found ≡ []
CameBefore state (SomeQuery query) found =
    (found ≡ []) ⊎ ((whole : List (List Cell)) × QueryServed state query whole
    × IsPrefix found whole)

-- An ERR is given. It changes nothing else, but an open transaction may be lost.
pub record GivesErr (state : State) (more : List Transaction) (form : Option Form)
    (refusal : Refusal) (new : State) : Type 0 where
  pub sees : SeesOthers state more
  pub pending : Option (List Change)
  pub lost : MayLose state.pending pending
  pub new_is : new ≡ record (with_error (with_others state more) form refusal) { pending = pending }

-- an ERR, and the rows that came before it
pub record ErrAfter : Type 0 where
  pub found : List (List Cell)
  pub refusal : Refusal

-- A statement is answered by ERR. A willing server does so only where it can't be handled.
pub record Refuses (way : Way) (state : State) (statement : Statement) (err : ErrAfter)
    (new : State) : Type 0 where
  pub more : List Transaction
  pub gives : GivesErr state more (Some (form_of statement)) err.refusal new
  pub before : CameBefore (with_others state more) statement err.found
  pub must : state.terms.server.willing ≡ true → FitsNowhere way state statement more

-- The server may answer the statement on a link in one state by this reply, and the link is then in the other.
abbrev pub Serves : Way → State → Statement → Reply → State → Type 0
Serves way state statement (refused found refusal) new =
    Refuses way state statement (record { found = found; refusal = refusal }) new
Serves way state statement done new = IsHandled way state statement done new
Serves way state statement (rows found) new = IsHandled way state statement (rows found) new
