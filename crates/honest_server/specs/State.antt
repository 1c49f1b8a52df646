-- The state of a link, as an honest server keeps it (MySQL 8.0 Reference Manual, 15.3 "Transactional and Locking Statements", 7.1.9 "Using System Variables").
use Rattle.std.specs.Prelude.{ℕ, Bool, false, ◌||◌, not, List, [], ◌++◌, ◌∷◌, Option, Some, None, option_and_then}
use Rattle.wire_forms.specs.declared.ends.Ends.{Ends}
use Rattle.wire_forms.specs.declared.refusal.Refusal.{Refusal}
use Rattle.server_data.specs.Fold.{db, changes_db}
use Rattle.server_data.specs.declared.data.Change.{Change}
use Rattle.server_data.specs.declared.data.Database.{Database}
use Rattle.server_data.specs.declared.data.Settings.{Settings}
use Rattle.server_data.specs.declared.data.Transaction.{Transaction}
use Rattle.statement_forms.specs.declared.form.Form.{Form}

-- where a link is: the server has greeted, it has asked for another plugin, a session is open, or it is over
pub data Phase : Type 0 where
  greeted : Phase
  switching : Phase
  in_session : Phase
  over : Phase

-- an ERR that was given, and the form of what it answered: none where that spells no statement
pub record Given : Type 0 where
  pub form : Option Form
  pub refusal : Refusal

-- What is fixed of a server: whether nobody but the links of one site writes, whether it answers ERR only where it must, the plugin of its
-- accounts, whether it is of version 8.2 or newer, how its result sets end, whether a newer one still has SHOW MASTER STATUS, and which texts
-- it prints as JSON.
pub record Server : Type 0 where
  pub quiet : Bool
  pub willing : Bool
  pub plugin : List ℕ
  pub newer : Bool
  pub ends : Ends
  pub old_status : Bool
  pub prints : List ℕ → Bool

-- SHOW MASTER STATUS is there before version 8.2, and may be there after it (MySQL 8.4 removed it)
abbrev pub has_master_status : Server → Bool
has_master_status server = not server.newer || server.old_status

-- what is the same for a link's whole life: its server, the site's history when it was made, and whether it is the only link
pub record Terms : Type 0 where
  pub server : Server
  pub base : List Transaction
  pub sole : Bool

-- `seen` is the history at its last answer; it is `guarded` while it holds the backup lock, and `frozen` while it holds the read lock;
-- `view` is the history that its snapshot shows, `pending` the changes of its open transaction, `mine` its own transactions;
-- then the current schema, the settings of the next object that is made, the ERR answers, and the history at each grant of the read lock
pub record State : Type 0 where
  pub terms : Terms
  pub phase : Phase
  pub seen : List Transaction
  pub guarded : Bool
  pub frozen : Bool
  pub view : Option (List Transaction)
  pub pending : Option (List Change)
  pub mine : List Transaction
  pub schema : Option (List ℕ)
  pub settings : Settings
  pub errors : List Given
  pub grants : List (List Transaction)

-- no setting was made
abbrev pub no_settings : Settings
no_settings = record { sql_mode = []; client = []; collation = []; zone = [] }

-- the changes of the open transaction
abbrev pub open_changes : Option (List Change) → List Change
open_changes None = []
open_changes (Some changes) = changes

-- the database as the link's own statements find it: after what it has seen, and its open transaction
abbrev pub database_found_by : State → Option Database
database_found_by state =
    option_and_then (λ (database : Database). changes_db database (open_changes state.pending))
    (db state.seen)

-- the link has seen these transactions of others
abbrev pub with_others : State → List Transaction → State
with_others state more = record state { seen = state.seen ++ more }

-- it has committed this one
abbrev pub with_own : State → Transaction → State
with_own state one =
    record state { seen = state.seen ++ one ∷ []; mine = state.mine ++ one ∷ []; pending = None }

-- the link was answered by this ERR, to a statement of this form, or to what is no statement
abbrev pub with_error : State → Option Form → Refusal → State
with_error state form refusal =
    record state { errors = state.errors ++ record { form = form; refusal = refusal } ∷ [] }

-- the locks and the open transaction are gone
abbrev pub closed_state : State → State
closed_state state = record state { phase = over; guarded = false; frozen = false; pending = None }
