-- What a store holds, and what its calls do to that.
use Rattle.std.specs.Prelude.{ℕ, ◌≡◌, ◌≢◌, ◌+◌, Bool, List, Option, Some, None, IfSome, is_some, option_and_then}
use Rattle.server_data.specs.Fold.{changes_db, db, rows_of}
use Rattle.server_data.specs.declared.data.Database.{Database}
use Rattle.server_data.specs.declared.data.Need.{Need}
use Rattle.server_data.specs.declared.data.Object.{Object}
use Rattle.server_data.specs.declared.data.Transaction.{Transaction}
use Rattle.version_store.specs.Read.{table_in}

-- the database at present, the database that the live snapshot of a number shows, and how many snapshots are live
pub record Held : Type 0 where
  pub present : Database
  pub shown : ℕ → Option Database
  pub live : ℕ

-- the table of a live snapshot
abbrev pub table_at : Held → ℕ → Need → Option Object
table_at held id table = option_and_then (λ database. table_in database table) (held.shown id)

-- the transaction fits the database
abbrev pub fits_in : Database → Transaction → Bool
fits_in database one = is_some (changes_db database one.changes)

-- the same objects, and in each table the same rows in the same order, in whatever lists they stand
pub record AreAlike (one other : Database) : Type 0 where
  pub objects : one.objects ≡ other.objects
  pub rows : (schema name : List ℕ) → rows_of one schema name ≡ rows_of other schema name

-- after the history the database is like this one
pub record Leaves (history : List Transaction) (database : Database) : Type 0 where
  pub last : Database
  pub stands : db history ≡ Some last
  pub alike : AreAlike last database

-- the present database is like the one that the transaction leaves, and the snapshots are as they were
pub record Applies (old : Held) (one : Transaction) (new : Held) : Type 0 where
  pub present : IfSome (changes_db old.present one.changes) (λ next. AreAlike next new.present)
  pub shown : (id : ℕ) → new.shown id ≡ old.shown id
  pub live : new.live ≡ old.live

-- the number was free, and the snapshot of that number shows the present database; nothing else has changed
pub record AddsSnapshot (old : Held) (id : ℕ) (new : Held) : Type 0 where
  pub free : old.shown id ≡ None
  pub taken : new.shown id ≡ Some old.present
  pub others : (other : ℕ) → other ≢ id → new.shown other ≡ old.shown other
  pub present : new.present ≡ old.present
  pub live : new.live ≡ old.live + 1

-- the snapshot of that number isn't live any more; nothing else has changed
pub record EndsSnapshot (old : Held) (id : ℕ) (new : Held) : Type 0 where
  pub ended : new.shown id ≡ None
  pub others : (other : ℕ) → other ≢ id → new.shown other ≡ old.shown other
  pub present : new.present ≡ old.present
  pub live : new.live + 1 ≡ old.live
