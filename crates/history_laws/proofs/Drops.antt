-- What a drop does to the rows of each table.
use Rattle.std.proofs.Common.{◌≡◌, ℕ, Bool, true, false, not, ◌&&◌, cond, List, [], ◌∷◌, ◌++◌, refl, ap, bytes_eq}
use Rattle.std.specs.Prelude.{filter}
use Rattle.object_forms.specs.declared.kind.Kind.{Kind}
use Rattle.object_forms.specs.declared.kind.Kind.TheVariants.{Table}
use Rattle.server_data.proofs.Counts.{and_left, and_right}
use Rattle.server_data.proofs.Equals.{bytes_are}
use Rattle.server_data.specs.Equal.{kind_eq}
use Rattle.server_data.specs.Fold.{is_of_table, rows_in, rows_of, without_object}
use Rattle.server_data.specs.declared.data.Database.{Database}
use Rattle.server_data.specs.declared.data.TableRows.{TableRows}
use Rattle.history_laws.proofs.Rows.{Rows}

-- the lists of rows but for those of a table
abbrev left_by : List ℕ → List ℕ → List TableRows → List TableRows
left_by schema name tables = filter (λ (rows : TableRows). not (is_of_table schema name rows)) tables

-- none of the table's rows are left
rows_gone : (schema name : List ℕ) (tables : List TableRows) → rows_in schema name (left_by schema name tables) ≡ []
rows_gone schema name [] = refl
rows_gone schema name (one ∷ others) = by_test (is_of_table schema name one) refl (rows_gone schema name others)
  where
    by_test : (b : Bool) → is_of_table schema name one ≡ b → rows_in schema name (left_by schema name others) ≡ [] → rows_in schema name (cond (not b) (one ∷ left_by schema name others) (left_by schema name others)) ≡ []
    by_test true is e = e
    by_test false is e = rw is e

-- those of another table are
rows_stay : (schema name other_schema other_name : List ℕ) → (bytes_eq schema other_schema && bytes_eq name other_name) ≡ false → (tables : List TableRows) → rows_in other_schema other_name (left_by schema name tables) ≡ rows_in other_schema other_name tables
rows_stay schema name other_schema other_name other [] = refl
rows_stay schema name other_schema other_name other (one ∷ others) = by_test (is_of_table schema name one) refl (rows_stay schema name other_schema other_name other others)
  where
    is_other : is_of_table schema name one ≡ true → is_of_table other_schema other_name one ≡ false
    is_other is = rw (bytes_are one.table.schema schema (and_left _ _ is), bytes_are one.table.name name (and_right (bytes_eq one.table.schema schema) _ is)) other

    by_test : (b : Bool) → is_of_table schema name one ≡ b → rows_in other_schema other_name (left_by schema name others) ≡ rows_in other_schema other_name others
        → rows_in other_schema other_name (cond (not b) (one ∷ left_by schema name others) (left_by schema name others)) ≡ rows_in other_schema other_name (one ∷ others)
    by_test true is e = rw (is_other is) e
    by_test false is e = ap (λ (rows : Rows). cond (is_of_table other_schema other_name one) (one.rows ++ rows) rows) e

-- the rows of a table after a drop: none where the table itself was dropped
pub rows_after_drop : (database : Database) (kind : Kind) (schema name other_schema other_name : List ℕ)
    → rows_of (without_object database kind schema name) other_schema other_name ≡ cond (kind_eq kind Table && (bytes_eq schema other_schema && bytes_eq name other_name)) [] (rows_of database other_schema other_name)
unfolding rows_of
rows_after_drop database kind schema name other_schema other_name = by_kind (kind_eq kind Table)
  where
    by_name : (b : Bool) → (bytes_eq schema other_schema && bytes_eq name other_name) ≡ b → rows_in other_schema other_name (left_by schema name database.rows) ≡ cond b [] (rows_in other_schema other_name database.rows)
    by_name true is = rw (← bytes_are schema other_schema (and_left _ _ is), ← bytes_are name other_name (and_right (bytes_eq schema other_schema) _ is)) (rows_gone schema name database.rows)
    by_name false is = rows_stay schema name other_schema other_name is database.rows

    by_kind : (b : Bool) → rows_in other_schema other_name (cond b (left_by schema name database.rows) database.rows) ≡ cond (b && (bytes_eq schema other_schema && bytes_eq name other_name)) [] (rows_in other_schema other_name database.rows)
    by_kind true = by_name (bytes_eq schema other_schema && bytes_eq name other_name) refl
    by_kind false = refl
