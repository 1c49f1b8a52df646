-- Laws of histories and of their interleavings, of which the functions of src/laws.rt are the proofs.
use Rattle.std.specs.Prelude.{ℕ, ◌≡◌, ◌≤◌, ◌&&◌, not, if◌then◌else◌, Bool, true, false, List, [], ◌∷◌, ◌++◌, length, map, filter, filter_map, flat_map, All, Option, Some, None, bytes_eq}
use Rattle.std.specs.List.{list_all}
use Rattle.object_forms.specs.declared.kind.Kind.{Kind}
use Rattle.object_forms.specs.declared.kind.Kind.TheVariants.{Schema}
use Rattle.sql_cells.specs.declared.cell.Cell.{Cell}
use Rattle.server_data.specs.Agree.{Agree}
use Rattle.server_data.specs.Bag.{IsSameBag}
use Rattle.server_data.specs.Equal.{kind_eq}
use Rattle.server_data.specs.Fold.{changes_db, db, has_schema, is_object, more_db, rows_of}
use Rattle.server_data.specs.History.{Interleaves, TakesHead}
use Rattle.server_data.specs.declared.data.Change.{Change}
use Rattle.server_data.specs.declared.data.Change.TheVariants.{Make, Drop, Put, Remove}
use Rattle.server_data.specs.declared.data.Database.{Database}
use Rattle.server_data.specs.declared.data.Object.{Object}
use Rattle.server_data.specs.declared.data.Transaction.{Transaction}

-- the change puts or removes a row of a table that the test takes
abbrev pub changes_row : (List ℕ → List ℕ → Bool) → Change → Bool
changes_row takes (Make object) = false
changes_row takes (Drop kind schema name) = false
changes_row takes (Put schema name row) = takes schema name
changes_row takes (Remove schema name row) = takes schema name

-- the transactions change nothing but rows of such tables
abbrev pub is_over : (List ℕ → List ℕ → Bool) → List Transaction → Bool
is_over takes list = list_all (λ one. list_all (changes_row takes) one.changes) list

-- a list of transactions, the tables whose rows it changes, by schema and name, and the database after it alone
pub record Share : Type 0 where
  pub list : List Transaction
  pub takes : List ℕ → List ℕ → Bool
  pub after : Database

-- from this database on the list changes rows of its tables alone, fits by itself, and then leaves the database that the share says
pub record IsShareOf (start : Database) (share : Share) : Type 0 where
  pub over : is_over share.takes share.list ≡ true
  pub fits : more_db start share.list ≡ Some share.after

-- no table's rows are changed by both
abbrev pub IsApart : Share → Share → Type 0
IsApart one other =
    (schema name : List ℕ) → one.takes schema name ≡ true → other.takes schema name ≡ false

-- no table's rows are changed by two of the lists
abbrev pub AreApart : List Share → Type 0
AreApart [] = Unit {0}
AreApart (one ∷ others) = All (IsApart one) others × AreApart others

-- the table's rows are changed by none of them
abbrev pub is_none_of : List Share → List ℕ → List ℕ → Bool
is_none_of shares schema name = list_all (λ share. not (share.takes schema name)) shares

-- the database after an interleaving: in each table are the rows that its own list leaves, in the others those from before
pub record IsAfter (start : Database) (shares : List Share) (last : Database) : Type 0 where
  pub objects : last.objects ≡ start.objects
  pub own : All (λ (share : Share). (schema name : List ℕ) → share.takes schema name ≡ true →
      rows_of last schema name ≡ rows_of share.after schema name) shares
  pub others : (schema name : List ℕ) → is_none_of shares schema name ≡ true →
      rows_of last schema name ≡ rows_of start schema name

-- every interleaving of lists over different tables fits where each of them does alone, and leaves in each table what its own list leaves there
abbrev pub ListsOverDifferentTablesCommute : Type 0
ListsOverDifferentTablesCommute =
    (start : Database) (shares : List Share) → All (IsShareOf start) shares → AreApart shares
    → (whole : List Transaction) → Interleaves (map (λ (share : Share). share.list) shares) whole →
    (last : Database) × (more_db start whole ≡ Some last) × IsAfter start shares last

-- every table is taken
abbrev pub any_table : List ℕ → List ℕ → Bool
any_table schema name = true

-- the databases after any two interleavings of lists that change nothing but rows agree, where both fit
abbrev pub InterleavingsAgree : Type 0
InterleavingsAgree =
    (start : Database) (lists : List (List Transaction)) →
    All (λ (list : List Transaction). is_over any_table list ≡ true) lists
    → (one other : List Transaction) → Interleaves lists one → Interleaves lists other →
    (last next : Database) → more_db start one ≡ Some last → more_db start other ≡ Some next →
    Agree last next

-- the change puts a row into a table
abbrev pub is_put : Change → Bool
is_put (Put schema name row) = true
is_put other = false

-- the transactions do nothing but put rows
abbrev pub only_puts : List Transaction → Bool
only_puts list = list_all (λ one. list_all is_put one.changes) list

-- such a list, which fits alone
pub record PutsRows (start : Database) (list : List Transaction) : Type 0 where
  pub only : only_puts list ≡ true
  pub last : Database
  pub fits : more_db start list ≡ Some last

-- the row that a change puts into the table
abbrev pub row_into : List ℕ → List ℕ → Change → Option (List Cell)
row_into schema name (Put other_schema other_name row) =
    if bytes_eq other_schema schema && bytes_eq other_name name then Some row else None
row_into schema name other = None

-- the rows that the transactions put into the table
abbrev pub rows_into : List ℕ → List ℕ → List Transaction → List (List Cell)
rows_into schema name list = flat_map (λ one. filter_map (row_into schema name) one.changes) list

-- the database after an interleaving of such lists: in each table stand the rows from before and those that each list puts there
pub record IsFilledBy (start : Database) (lists : List (List Transaction))
    (last : Database) : Type 0 where
  pub objects : last.objects ≡ start.objects
  pub rows : (schema name : List ℕ) →
      IsSameBag (rows_of last schema name)
      (rows_of start schema name ++ flat_map (rows_into schema name) lists)

-- every interleaving of lists that only put rows fits where each of them does alone, and leaves what each of them puts, be it in one table or in several
abbrev pub ListsThatPutRowsCommute : Type 0
ListsThatPutRowsCommute =
    (start : Database) (lists : List (List Transaction)) → All (PutsRows start) lists
    → (whole : List Transaction) → Interleaves lists whole → (last : Database)
    × (more_db start whole ≡ Some last) × IsFilledBy start lists last

-- the only interleaving of one list is the list
abbrev pub OneListIsItsInterleaving : Type 0
OneListIsItsInterleaving =
    (list whole : List Transaction) → Interleaves (list ∷ []) whole → whole ≡ list

-- of each kind, schema and name there is at most one object after a history
abbrev pub ObjectsStandOnce : Type 0
ObjectsStandOnce = (history : List Transaction) (database : Database) → db history ≡ Some database
    → (kind : Kind) (schema name : List ℕ) →
    length (filter (is_object kind schema name) database.objects) ≤ 1

-- the schema of each object that isn't one is there
abbrev pub SchemasAreThere : Type 0
SchemasAreThere = (history : List Transaction) (database : Database) → db history ≡ Some database
    → All (λ (object : Object). kind_eq object.kind Schema ≡ false →
    has_schema database object.schema ≡ true) database.objects

-- each step fits, and keeps what is said of what is left of the lists and of the database
abbrev pub FitsAndKeeps : (List (List Transaction) → Database → Type 0) → Type 0
FitsAndKeeps Holds =
    (lists fewer : List (List Transaction)) (one : Transaction) (state : Database) →
    TakesHead lists one fewer → Holds lists state
    → (next : Database) × (changes_db state one.changes ≡ Some next) × Holds fewer next

-- the whole fits, nothing is left of the lists, and what is said holds
pub record HoldsAfter (Holds : List (List Transaction) → Database → Type 0) (state : Database)
    (whole : List Transaction) : Type 0 where
  pub last : Database
  pub fits : more_db state whole ≡ Some last
  pub left : List (List Transaction)
  pub none : All (λ (list : List Transaction). list ≡ []) left
  pub held : Holds left last
