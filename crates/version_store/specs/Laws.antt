-- Laws of what a store holds, by histories. The functions of src/laws.rt are their proofs.
use Rattle.std.specs.Prelude.{◌≡◌, true, List, [], ◌∷◌, ◌++◌, is_some}
use Rattle.server_data.specs.Fold.{db}
use Rattle.server_data.specs.declared.data.Database.{Database}
use Rattle.server_data.specs.declared.data.Need.{Need}
use Rattle.server_data.specs.declared.data.Transaction.{Transaction}
use Rattle.sql_cells.specs.declared.cell.Cell.{Cell}
use Rattle.honest_server.specs.Answer.{Bounds}
use Rattle.version_store.specs.Read.{ReadsAt, ReadsTable}
use Rattle.version_store.specs.Store.{Applies, Held, Leaves, fits_in}

-- a transaction fits what a history leaves exactly where the history with it at its end has a database
abbrev pub HistoriesTellWhatFits : Type 0
HistoriesTellWhatFits =
    (history : List Transaction) (one : Transaction) (database : Database) →
    Leaves history database → fits_in database one ≡ is_some (db (history ++ one ∷ []))

-- where a history leaves what a store holds and a transaction that fits is applied, the history with it leaves what the store holds then
abbrev pub HistoriesGoOn : Type 0
HistoriesGoOn =
    (history : List Transaction) (one : Transaction) (old new : Held) →
    Leaves history old.present → fits_in old.present one ≡ true → Applies old one new →
    Leaves (history ++ one ∷ []) new.present

-- what is read of what a history leaves is read of the database after the history
abbrev pub HistoriesTellWhatIsRead : Type 0
HistoriesTellWhatIsRead =
    (history : List Transaction) (database : Database) (table : Need) (bounds : Bounds)
    (read : List (List Cell)) → Leaves history database → ReadsTable database table bounds read →
    ReadsAt (db history) table bounds read
