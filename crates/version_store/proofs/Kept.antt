-- Rows that are kept and sorted.
use Rattle.std.proofs.Common.{◌≡◌, ℕ, arith, Bool, true, false, cond, List, [], ◌∷◌, ◌++◌, length, take, drop, Option, Some, None, Result, Ok, Err, refl, sym, subst, ◌∙◌, ap, append-nil, append_assoc}
use Rattle.std.specs.Prelude.{IfOk, filter}
use Rattle.std.proofs.lemmas.Grind.{common_steps}
use Rattle.std.proofs.lemmas.List.Elements.{filter-append}
use Rattle.sql_cells.specs.declared.cell.Cell.{Cell}
use Rattle.object_forms.specs.declared.shape.Column.{Column}
use Rattle.server_data.specs.Fold.{is_of_table, rows_in, rows_of}
use Rattle.server_data.specs.declared.data.Database.{Database}
use Rattle.server_data.specs.declared.data.TableRows.{TableRows}
use Rattle.honest_server.specs.Answer.{Bounds}
use Rattle.version_store.specs.Key.{cell_place, is_kept, key_at, rows_kept}
use Rattle.version_store.specs.Read.{AreRead, AreSortedByKey}

-- a member is kept, and then those after it that are
pub kept : {X : Type 0} (f : X → Bool) (made : List X) (x : X) (rest : List X) → (made ++ cond (f x) (x ∷ []) []) ++ filter f rest ≡ made ++ filter f (x ∷ rest)
kept {X = X} f made x rest = by_test (f x)
  where
    by_test : (b : Bool) → (made ++ cond b (x ∷ []) []) ++ filter f rest ≡ made ++ cond b (x ∷ filter f rest) (filter f rest)
    by_test true = append_assoc made (x ∷ []) (filter f rest)
    by_test false = append_assoc made [] (filter f rest)

-- all are kept where no key is looked at
pub all_kept : (bounds : Bounds) (rows : List (List Cell)) → rows_kept None bounds rows ≡ rows
all_kept bounds [] = refl
all_kept bounds (row ∷ rows) = ap (λ (rest : List (List Cell)). row ∷ rest) (all_kept bounds rows)

-- those of one list of rows, and then those of the others
pub kept_tables : (schema name : List ℕ) (place : Option ℕ) (bounds : Bounds) (made : List (List Cell)) (one : TableRows) (others : List TableRows)
    → (made ++ rows_kept place bounds (rows_in schema name (one ∷ []))) ++ rows_kept place bounds (rows_in schema name others) ≡ made ++ rows_kept place bounds (rows_in schema name (one ∷ others))
kept_tables schema name place bounds made one others =
    append_assoc made (rows_kept place bounds (rows_in schema name (one ∷ []))) (rows_kept place bounds (rows_in schema name others))
    ∙ ap (λ (rows : List (List Cell)). made ++ rows) (by_test (is_of_table schema name one))
  where
    by_test : (b : Bool) → rows_kept place bounds (cond b (one.rows ++ []) []) ++ rows_kept place bounds (rows_in schema name others) ≡ rows_kept place bounds (cond b (one.rows ++ rows_in schema name others) (rows_in schema name others))
    by_test true = rw (append-nil one.rows) (sym (filter-append (is_kept place bounds) one.rows (rows_in schema name others)))
    by_test false = refl

-- a list that is written over as a whole
pub written_whole : {X : Type 0} (old new : List X) → length new ≡ length old → take (length old) (new ++ drop (length new) old) ≡ new
written_whole old new same = grind (arith, common_steps)

-- without a key all rows are read, as they stand
pub unkeyed : {E : Type 0} (columns : List Column) (key : Option ℕ) (bounds : Bounds) (database : Database) (schema name : List ℕ) (result : Result (List (List Cell)) E)
    → key ≡ None → IfOk result (λ (made : List (List Cell)). made ≡ rows_kept None bounds (rows_in schema name database.rows))
    → IfOk result (λ (read : List (List Cell)). AreRead columns key bounds (rows_of database schema name) read)
unfolding rows_of
unkeyed columns key bounds database schema name (Ok made) none told = rw none (told ∙ all_kept bounds (rows_in schema name database.rows))
unkeyed columns key bounds database schema name (Err fault) none told = told

-- with one those inside the bounds are read, sorted
pub keyed : (columns : List Column) (key : Option ℕ) (index : ℕ) (bounds : Bounds) (database : Database) (schema name : List ℕ) (rows read : List (List Cell))
    → key ≡ Some index → rows ≡ rows_kept (Some (cell_place columns index)) bounds (rows_in schema name database.rows) → AreSortedByKey (key_at (cell_place columns index)) rows read
    → AreRead columns key bounds (rows_of database schema name) read
unfolding rows_of
keyed columns key index bounds database schema name rows read some told sorted = rw some (subst (λ (all : List (List Cell)). AreSortedByKey (key_at (cell_place columns index)) all read) told sorted)
