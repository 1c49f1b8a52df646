-- From which history the queries of a session are answered, where that is fixed, and what they leave as it was.
use Rattle.std.specs.Prelude.{ℕ, ◌≡◌, true, List, [], Some, None, Result}
use Rattle.honest_server.specs.Answer.{Answers, ShowsMark}
use Rattle.honest_server.specs.State.{State}
use Rattle.server_data.specs.Fold.{db, mark}
use Rattle.server_data.specs.History.{IsPrefix}
use Rattle.server_data.specs.declared.data.Database.{Database}
use Rattle.server_data.specs.declared.data.Transaction.{Transaction}
use Rattle.sql_cells.specs.declared.cell.Cell.{Cell}
use Rattle.statement_forms.specs.Form.{query_form}
use Rattle.statement_forms.specs.declared.form.Form.{Form}
use Rattle.statement_forms.specs.declared.form.Form.TheVariants.{Select}
use Rattle.statement_forms.specs.declared.query.Query.{Query}
use Rattle.statement_forms.specs.declared.query.Query.TheVariants.{MasterStatus, BinaryLogStatus}
use Rattle.wire_forms.specs.declared.refusal.Refusal.{Refusal}
use Rattle.my_session.specs.Asked.{AsksServed, OpensRows}
use Rattle.my_session.specs.Coming.{Reached, Rest}
use Rattle.my_session.specs.declared.fault.SessionFault.{SessionFault}

-- Queries of this form are answered from this history for good: a SELECT from that of a view, where one is set; and where none is, all from
-- what is seen by a link that holds the read lock, or that is alone on a site where nobody else writes.
pub data IsShownAt (form : Form) (history : List Transaction) (state : State) : Type 0 where
  by_view : form ≡ Select → state.view ≡ Some history → IsShownAt form history state
  by_lock : state.view ≡ None → state.frozen ≡ true → state.seen ≡ history →
      IsShownAt form history state
  alone : state.view ≡ None → state.terms.server.quiet ≡ true → state.terms.sole ≡ true →
      state.seen ≡ history → IsShownAt form history state

-- the rows answer a query over the database after a history
pub record AnswersOver (history : List Transaction) (query : Query)
    (found : List (List Cell)) : Type 0 where
  pub database : Database
  pub stands : db history ≡ Some database
  pub answers : Answers database query found

-- the rows answer a query at a history: the two for the position by its mark, and all others over its database
abbrev pub AnswersAt : List Transaction → Query → List (List Cell) → Type 0
AnswersAt history MasterStatus found = ShowsMark (mark history) found
AnswersAt history BinaryLogStatus found = ShowsMark (mark history) found
AnswersAt history query found = AnswersOver history query found

-- the rows to come are an answer at a history, or the first of one, or none at all, where an ERR breaks them off
pub data ComesFrom (history : List Transaction) (query : Query) (rest : Rest) : Type 0 where
  all_rows : rest.broken ≡ None → AnswersAt history query rest.rows → ComesFrom history query rest
  first_rows : (refusal : Refusal) (found : List (List Cell)) → rest.broken ≡ Some refusal →
      IsPrefix rest.rows found → AnswersAt history query found → ComesFrom history query rest
  no_rows : (refusal : Refusal) → rest.broken ≡ Some refusal → rest.rows ≡ [] →
      ComesFrom history query rest

-- what a query leaves as it was: the link's transactions, its locks, their grants and its view; it opens no transaction
pub record KeepsOwn (old new : State) : Type 0 where
  pub mine : new.mine ≡ old.mine
  pub guarded : new.guarded ≡ old.guarded
  pub frozen : new.frozen ≡ old.frozen
  pub grants : new.grants ≡ old.grants
  pub view : new.view ≡ old.view
  pub pending : old.pending ≡ None → new.pending ≡ None
  pub seen : IsPrefix old.seen new.seen
  pub errors : IsPrefix old.errors new.errors

-- asking a query leaves these as they were, whatever comes of it
abbrev pub AskingKeepsOwn : Type 0
AskingKeepsOwn =
    (query : Query) (old : State) (result : Result ℕ SessionFault) (new : Reached) →
    AsksServed query old result new → KeepsOwn old new.served.state

-- where the history is fixed from which a query is answered, it stays so
abbrev pub AskingKeepsWhatIsShown : Type 0
AskingKeepsWhatIsShown =
    (query : Query) (old : State) (result : Result ℕ SessionFault) (new : Reached) (form : Form)
    (history : List Transaction) → AsksServed query old result new → IsShownAt form history old →
    IsShownAt form history new.served.state

-- and the rows are an answer at it
abbrev pub RowsComeFromWhatIsShown : Type 0
RowsComeFromWhatIsShown =
    (query : Query) (old : State) (new : Reached) (history : List Transaction)
    (opens : OpensRows query old new) → IsShownAt (query_form query) history old →
    ComesFrom history query opens.rest
