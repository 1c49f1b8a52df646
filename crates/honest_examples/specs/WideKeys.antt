-- A table whose key has two columns, and what queries over it are answered.
use Rattle.std.specs.Prelude.{ℕ, ◌≡◌, Bool, false, true, List, [], ◌∷◌, ◌++◌, Some, None, codes, map, pos}
use Rattle.object_forms.specs.declared.kind.Kind.TheVariants.{Table}
use Rattle.object_forms.specs.declared.shape.Column.{Column}
use Rattle.server_data.specs.declared.data.Change.TheVariants.{Make, Put}
use Rattle.server_data.specs.declared.data.Database.{Database}
use Rattle.server_data.specs.declared.data.Object.{Object}
use Rattle.server_data.specs.declared.data.Transaction.{Transaction}
use Rattle.sql_cells.specs.declared.cell.Cell.{Cell}
use Rattle.sql_cells.specs.declared.cell.Cell.TheVariants.{Value}
use Rattle.statement_forms.specs.declared.query.Query.TheVariants.{Key, RowsAboveWide, RowsByWideKey, RowsUpToWide, WideKey, WideKeyAbove}
use Rattle.honest_server.specs.Answer.{Answers}
use Rattle.honest_server.specs.WellFormed.{IsSound}
use Rattle.honest_server.specs.Link.{IsSoundLink, ServedLink}
use Rattle.honest_server.specs.WideKey.{KeepsWideKeys, comes_first}
use Rattle.honest_examples.specs.Effects.{link}
use Rattle.honest_examples.specs.Worked.{schema, schema_alone, server, table_with, unmarked}

-- the name of the table
abbrev pub table : List ℕ
table = codes "w"

-- the text that makes it: two columns, and a primary key over both
abbrev pub table_text : List ℕ
table_text = codes
    "CREATE TABLE `w` (`a` int NOT NULL, `b` int NOT NULL, PRIMARY KEY (`a`,`b`)) ENGINE=InnoDB"

-- a column of INT with this name
abbrev pub integer : List ℕ → Column
integer name = record { name = name; data_type = codes "int"; unsigned = false; generated = false }

-- the table, as it stands in a database: it has no key of one column
abbrev pub the_table : Object
the_table = record {
  kind = Table;
  schema = schema;
  name = table;
  text = table_text;
  settings = None;
  columns = integer (codes "a") ∷ integer (codes "b") ∷ [];
  key = None;
  rank =
      0;
  needs = [];
}

-- the columns of its key, in the key's order
abbrev pub keys : List (List ℕ)
keys = codes "a" ∷ codes "b" ∷ []

-- the columns of its key, in another order
abbrev pub turned : List (List ℕ)
turned = codes "b" ∷ codes "a" ∷ []

-- the row with these two numbers, as they are spelled
abbrev pub row : List ℕ → List ℕ → List Cell
row one other = Value one ∷ Value other ∷ []

-- the row (1,1)
abbrev pub one_one : List Cell
one_one = row (codes "1") (codes "1")

-- the row (1,2)
abbrev pub one_two : List Cell
one_two = row (codes "1") (codes "2")

-- the row (2,0)
abbrev pub two_zero : List Cell
two_zero = row (codes "2") (codes "0")

-- the schema and the table, with these rows
abbrev pub with_rows : List (List Cell) → Database
with_rows = table_with the_table

-- the table with three rows, which aren't in the order of the key
abbrev pub wide : Database
wide = with_rows (two_zero ∷ one_one ∷ one_two ∷ [])

-- bounds are compared as lists: at the first place where they differ
pub record BoundsAreComparedAsLists : Type 0 where
  pub later_differs : comes_first (pos 1 ∷ pos 9 ∷ []) (pos 2 ∷ pos 0 ∷ []) ≡ true
  pub turned_round : comes_first (pos 2 ∷ pos 0 ∷ []) (pos 1 ∷ pos 9 ∷ []) ≡ false
  pub same : comes_first (pos 1 ∷ pos 9 ∷ []) (pos 1 ∷ pos 9 ∷ []) ≡ false

-- the key after one other comes, and after all three none; or that above a bound
pub record WideKeysAreSkipped : Type 0 where
  pub allowed : Answers wide (WideKey keys schema table 1) (one_two ∷ [])
  pub none_left : Answers wide (WideKey keys schema table 3) []
  pub above : Answers wide (WideKeyAbove keys schema table (pos 1 ∷ pos 9 ∷ []) 0) (two_zero ∷ [])
  pub refused : Answers wide (WideKey keys schema table 1) (one_one ∷ []) → ⊥

-- rows come in the order of the key, those inside the bounds alone
pub record RowsComeInTheOrderOfTheWideKey : Type 0 where
  pub all : Answers wide (RowsByWideKey keys schema table keys) (one_one ∷ one_two ∷ two_zero ∷ [])
  pub above : Answers wide (RowsAboveWide keys schema table keys (pos 1 ∷ pos 1 ∷ []))
      (one_two ∷ two_zero ∷ [])
  pub above_last : Answers wide (RowsAboveWide keys schema table keys (pos 1 ∷ pos 2 ∷ []))
      (two_zero ∷ [])
  pub up_to : Answers wide (RowsUpToWide keys schema table keys (pos 1 ∷ pos 9 ∷ []))
      (one_one ∷ one_two ∷ [])
  pub out_of_order : Answers wide (RowsAboveWide keys schema table keys (pos 1 ∷ pos 1 ∷ []))
      (two_zero ∷ one_two ∷ []) → ⊥
  pub refused : Answers wide (RowsAboveWide keys schema table keys (pos 1 ∷ pos 2 ∷ []))
      (one_two ∷ two_zero ∷ []) → ⊥

-- a query for the columns of the key in another order has no answer, nor has one for a part of the key
pub record AWideKeyIsNamedInItsOrder : Type 0 where
  pub refused : (rows : List (List Cell)) → Answers wide (WideKey turned schema table 0) rows → ⊥
  pub rows_refused : (rows : List (List Cell)) →
      Answers wide (RowsByWideKey keys schema table turned) rows → ⊥
  pub part : (rows : List (List Cell)) → Answers wide (Key (codes "a") schema table 0) rows → ⊥

-- the schema, the table, and these rows
abbrev pub history : List (List Cell) → List Transaction
history rows =
    schema_alone ++ unmarked (Make the_table ∷ map (λ row. Put schema table row) rows) ∷ []

-- a link that has seen them, and tells that each wide key stands once, or doesn't tell it any more
abbrev pub wide_link : Bool → List (List Cell) → ServedLink
wide_link told rows =
    record {
      waiting = [];
      state = link (history rows) (Some schema);
      failed = false;
      keeps_wide = told;
    }

-- A history with a wide key that stands twice is sound, but doesn't keep wide keys, and a link that tells it isn't sound.
pub record AWideKeyMayStandTwice : Type 0 where
  pub allowed : KeepsWideKeys (history (one_one ∷ one_two ∷ []))
  pub sound : IsSound server (history (one_one ∷ one_one ∷ []))
  pub refused : KeepsWideKeys (history (one_one ∷ one_one ∷ [])) → ⊥
  pub untold : IsSoundLink (wide_link false (one_one ∷ one_one ∷ []))
  pub told : IsSoundLink (wide_link true (one_one ∷ one_one ∷ [])) → ⊥
