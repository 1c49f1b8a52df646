-- What statements do on a link in a session, and where they can't be handled.
use Rattle.std.specs.Prelude.{ℕ, ◌≡◌, false, true, List, [], ◌∷◌, ◌++◌, Option, Some, None, codes}
use Rattle.wire_forms.specs.declared.refusal.Refusal.{Refusal}
use Rattle.server_data.specs.declared.data.Change.TheVariants.{Make}
use Rattle.server_data.specs.declared.data.Transaction.{Transaction}
use Rattle.statement_forms.specs.Form.{form_of}
use Rattle.statement_forms.specs.declared.command.Command.TheVariants.{Commit, Create, Insert, Rollback, Start, StartSnapshot, Use}
use Rattle.statement_forms.specs.declared.form.Form.TheVariants.{Select}
use Rattle.statement_forms.specs.declared.query.Query.TheVariants.{Rows}
use Rattle.statement_forms.specs.declared.statement.Statement.{Statement}
use Rattle.statement_forms.specs.declared.statement.Statement.TheVariants.{Command as SomeCommand, Query as SomeQuery}
use Rattle.honest_server.specs.Laws.{IsNoErr}
use Rattle.honest_server.specs.Moves.{plainly}
use Rattle.honest_server.specs.Serve.{Reply, done, rows, refused, Serves}
use Rattle.honest_server.specs.State.{State, in_session, no_settings, with_error, with_own}
use Rattle.honest_examples.specs.Answered.{columns, no_table_err}
use Rattle.honest_examples.specs.Worked.{history, no_rows, one, put, schema, schema_alone, server, table, table_text, the_table, three, two, unmarked}

-- The only link to a quiet site of a willing server, so that all that happens there is its own doing. It is in a session, has seen this
-- history, which was the site's when it was made, and this is its current schema.
abbrev pub link : List Transaction → Option (List ℕ) → State
link seen current = record {
  terms = record { server = server; base = seen; sole = true };
  phase = in_session;
  seen = seen;
  guarded = false;
  frozen = false;
  view = None;
  pending = None;
  mine = [];
  schema = current;
  settings = no_settings;
  errors = [];
  grants = [];
}

-- the same after the worked history
abbrev pub worked : State
worked = link history (Some schema)

-- the statement may be answered so, and by no ERR
pub record IsServed (state : State) (statement : Statement) (reply : Reply)
    (new : State) : Type 0 where
  pub served : Serves plainly state statement reply new
  pub no_err : (refusal : Refusal) (other : State) →
      Serves plainly state statement (refused [] refusal) other → ⊥

-- it may be answered by any ERR, and by nothing else
pub record IsRefused (state : State) (statement : Statement) : Type 0 where
  pub err : (refusal : Refusal) →
      Serves plainly state statement (refused [] refusal)
      (with_error state (Some (form_of statement)) refusal)
  pub nothing_else : (reply : Reply) (new : State) → IsNoErr reply →
      Serves plainly state statement reply new → ⊥

-- an INSERT into the worked table, with these rows
abbrev pub insert : List ℕ → Statement
insert spelled = SomeCommand (Insert (codes "INSERT INTO `t` (`id`,`a`) VALUES\n" ++ spelled))

-- the row (3,'c') is a transaction of its own
abbrev pub with_three : State → State
with_three state = with_own state (unmarked (put three ∷ []))

-- a row of a new key is committed at once, and one of a key that is there can't be put
pub record AnInsertIsCommittedAtOnce : Type 0 where
  pub allowed : IsServed worked (insert (codes "(3,'c')")) done (with_three worked)
  pub refused : IsRefused worked (insert (codes "(1,'b')"))

-- a transaction is open, and has put the row (3,'c')
abbrev pub opened : State
opened = record worked { pending = Some (put three ∷ []) }

-- the same link while it holds the read lock
abbrev pub frozen : State → State
frozen state = record state { frozen = true }

-- while the link holds the read lock, it commits no open transaction with changes
pub record ACommitWaitsForTheReadLock : Type 0 where
  pub allowed : IsServed opened (SomeCommand Commit) done (with_three opened)
  pub none_open : IsServed (frozen worked) (SomeCommand Commit) done (frozen worked)
  pub refused : IsRefused (frozen opened) (SomeCommand Commit)

-- a transaction is open, and has no changes yet
abbrev pub open_state : State
open_state = record worked { pending = Some [] }

-- A transaction without changes ends under the read lock too, and then commits nothing. Without the lock it may be committed as one
-- without changes.
pub record AnEmptyTransactionEndsUnderTheReadLock : Type 0 where
  pub allowed : IsServed (frozen open_state) (SomeCommand Commit) done (frozen worked)
  pub nothing_else : (new : State) →
      Serves plainly (frozen open_state) (SomeCommand Commit) done new →
      new ≡ frozen worked
  pub started : IsServed (frozen open_state) (SomeCommand Start) done (frozen open_state)
  pub marked : Serves plainly open_state (SomeCommand Commit) done
      (with_own open_state (unmarked []))
  pub refused : Serves plainly (frozen open_state) (SomeCommand Commit) done
      (with_own (frozen open_state) (unmarked [])) → ⊥

-- a table is made in the current schema, where there is one, and the table isn't there yet
pub record ATableIsMadeInTheCurrentSchema : Type 0 where
  pub allowed : IsServed (link schema_alone (Some schema)) (SomeCommand (Create table_text)) done
      (with_own (link schema_alone (Some schema)) (unmarked (Make the_table ∷ [])))
  pub refused : IsRefused (link schema_alone None) (SomeCommand (Create table_text))
  pub there : IsRefused (link no_rows (Some schema)) (SomeCommand (Create table_text))

-- the same link while it holds the backup lock
abbrev pub guarded : State → State
guarded state = record state { guarded = true }

-- the backup lock lets rows be put, and nothing be made
pub record TheBackupLockStopsACreate : Type 0 where
  pub allowed : IsServed (guarded worked) (insert (codes "(3,'c')")) done
      (with_three (guarded worked))
  pub refused : IsRefused (guarded (link schema_alone (Some schema)))
      (SomeCommand (Create table_text))

-- a schema is used where it is there
pub record ASchemaIsUsedWhereItIsThere : Type 0 where
  pub allowed : IsServed (link history None) (SomeCommand (Use schema)) done worked
  pub refused : IsRefused (link history None) (SomeCommand (Use no_table_err))

-- the link's snapshot was taken before there were rows
abbrev pub viewing : State
viewing = record worked { view = Some no_rows }

-- and it shows none
pub record ASelectShowsTheSnapshot : Type 0 where
  pub allowed : IsServed viewing (SomeQuery (Rows columns schema table)) (rows []) viewing
  pub refused : (new : State) →
      Serves plainly viewing (SomeQuery (Rows columns schema table)) (rows (one ∷ two ∷ [])) new → ⊥

-- a snapshot shows what was seen, and an open transaction is committed before
pub record ASnapshotShowsWhatWasSeen : Type 0 where
  pub allowed : IsServed worked (SomeCommand StartSnapshot) done
      (record worked { view = Some history })
  pub commits : IsServed opened (SomeCommand StartSnapshot) done
      (record (with_three opened) { view = Some (history ++ unmarked (put three ∷ []) ∷ []) })
  pub older : Serves plainly worked (SomeCommand StartSnapshot) done viewing → ⊥
  pub refused : IsRefused (frozen opened) (SomeCommand StartSnapshot)

-- an open transaction is dropped
pub record ARollbackDropsTheTransaction : Type 0 where
  pub allowed : IsServed opened (SomeCommand Rollback) done worked
  pub refused : Serves plainly opened (SomeCommand Rollback) done (with_three opened) → ⊥

-- the same link to a site of a server that answers ERR as it likes
abbrev pub unwilling : State
unwilling = record worked {
  terms =
      record worked.terms { server = record server { willing = false } };
}

-- an ERR may come after the first rows of an answer, and after no others
pub record AnErrBreaksOffAnAnswer : Type 0 where
  pub allowed : (refusal : Refusal) →
      Serves plainly unwilling (SomeQuery (Rows columns schema table)) (refused (two ∷ []) refusal)
      (with_error unwilling (Some Select) refusal)
  pub refused : (refusal : Refusal) (new : State) →
      Serves plainly unwilling (SomeQuery (Rows columns schema table))
      (refused (three ∷ []) refusal) new → ⊥
