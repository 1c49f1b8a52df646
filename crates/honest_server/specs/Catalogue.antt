-- Which changes are of rows and which of the catalogue (MySQL 8.0 Reference Manual, 15.3.5 "LOCK INSTANCE FOR BACKUP and UNLOCK INSTANCE Statements"; that a counter's rise counts as a change of rows is a premise of our own).
use Rattle.std.specs.Prelude.{ℕ, ◌≡◌, ◌<◌, ◌⊎◌, true, List, [], ◌∷◌, ◌++◌, map, Contains, Some, codes}
use Rattle.object_forms.specs.Shape.{TableCounter, counter}
use Rattle.object_forms.specs.declared.kind.Kind.TheVariants.{Table}
use Rattle.server_data.specs.Bag.{IsSameBag}
use Rattle.server_data.specs.Fold.{change_db, changes_db, db, rows_of}
use Rattle.server_data.specs.declared.data.Change.{Change}
use Rattle.server_data.specs.declared.data.Change.TheVariants.{Make, Drop, Put, Remove}
use Rattle.server_data.specs.declared.data.Database.{Database}
use Rattle.server_data.specs.declared.data.Object.{Object}
use Rattle.server_data.specs.declared.data.Transaction.{Transaction}
use Rattle.sql_cells.specs.Number.{is_digits}
use Rattle.sql_cells.specs.declared.cell.Cell.{Cell}

-- what says a table's counter in its text: nothing, or the option AUTO_INCREMENT
abbrev pub IsCounterOption : List ℕ → Type 0
IsCounterOption bytes =
    (bytes ≡ []) ⊎ ((digits : List ℕ) × (is_digits digits ≡ true)
    × (bytes ≡ codes " AUTO_INCREMENT=" ++ digits))

-- two texts of a table are the same but for this option, which says a greater counter in the second
pub record RaisesCounter (old new : List ℕ) : Type 0 where
  pub front : List ℕ
  pub before : List ℕ
  pub now : List ℕ
  pub after : List ℕ
  pub old_is : old ≡ front ++ before ++ after
  pub new_is : new ≡ front ++ now ++ after
  pub before_is : IsCounterOption before
  pub now_is : IsCounterOption now
  pub without : TableCounter
  pub is_without : counter (front ++ after) ≡ Some without
  pub only_option : without.next ≡ 1
  pub old_counter : TableCounter
  pub new_counter : TableCounter
  pub is_old_counter : counter old ≡ Some old_counter
  pub is_new_counter : counter new ≡ Some new_counter
  pub column : old_counter.column ≡ new_counter.column
  pub greater : old_counter.next < new_counter.next

-- a table is dropped, made with a greater counter, and given its rows again
pub record IsRise (database : Database) (changes : List Change) : Type 0 where
  pub object : Object
  pub is_table : object.kind ≡ Table
  pub is_there : Contains database.objects object
  pub text : List ℕ
  pub raises : RaisesCounter object.text text
  pub rows : List (List Cell)
  pub same_rows : IsSameBag rows (rows_of database object.schema object.name)
  pub changes_are : changes ≡ Drop Table object.schema object.name
      ∷ Make (record object { text = text }) ∷ map (λ row. Put object.schema object.name row) rows

-- a row is put or taken out
abbrev pub IsOfRow : Change → Type 0
IsOfRow (Make object) = ⊥
IsOfRow (Drop kind schema name) = ⊥
IsOfRow (Put schema table row) = Unit {0}
IsOfRow (Remove schema table row) = Unit {0}

-- the changes lead from one database to another, and each is of a row or part of a counter's rise
pub data AreOfRows : Database → List Change → Database → Type 0 where
  no_more : {database : Database} → AreOfRows database [] database
  a_row : {old middle new : Database} {change : Change} {changes : List Change} → IsOfRow change →
      change_db old change ≡ Some middle → AreOfRows middle changes new →
      AreOfRows old (change ∷ changes) new
  a_rise : {old middle new : Database} {rise changes whole : List Change} → IsRise old rise →
      changes_db old rise ≡ Some middle → whole ≡ rise ++ changes → AreOfRows middle changes new →
      AreOfRows old whole new

-- the same of the changes of transactions
pub data KeepCatalogue : Database → List Transaction → Database → Type 0 where
  no_more : {database : Database} → KeepCatalogue database [] database
  one_more : {old middle new : Database} {one : Transaction} {others : List Transaction} →
      AreOfRows old one.changes middle → KeepCatalogue middle others new →
      KeepCatalogue old (one ∷ others) new

-- after this history no object is made or dropped by these transactions
pub record KeepsCatalogue (history more : List Transaction) : Type 0 where
  pub old : Database
  pub new : Database
  pub stands : db history ≡ Some old
  pub keeps : KeepCatalogue old more new
