-- What a change of a row does to the rows of each table.
use Rattle.std.proofs.Common.{◌≡◌, ℕ, Bool, true, false, ◌&&◌, cond, List, [], ◌∷◌, ◌++◌, Option, Some, None, refl, ap, sym, ◌∙◌, subst, append-nil, append_assoc, bytes_eq, length}
use Rattle.std.specs.Prelude.{option_and_then, option_map}
use Rattle.std.specs.List.{list_all, list_any}
use Rattle.std.proofs.lemmas.Bool.{false≢true}
use Rattle.std.proofs.lemmas.Option.{cond_some, option_and_then_some}
use Rattle.object_forms.specs.declared.kind.Kind.TheVariants.{Table}
use Rattle.server_data.proofs.Counts.{and_left, and_right}
use Rattle.server_data.specs.Equal.{row_eq}
use Rattle.server_data.specs.Fold.{change_db, changes_db, fits_row, found_or_later, has_object, is_object, is_of_table, rows_in, rows_of, takes_row, with_row, without_first, without_row}
use Rattle.server_data.specs.declared.data.Change.{Change}
use Rattle.server_data.specs.declared.data.Change.TheVariants.{Make, Drop, Put, Remove}
use Rattle.server_data.specs.declared.data.Database.{Database}
use Rattle.server_data.specs.declared.data.Object.{Object}
use Rattle.server_data.specs.declared.data.TableRows.{TableRows}
use Rattle.sql_cells.specs.declared.cell.Cell.{Cell}
use Rattle.server_data.proofs.Equals.{bytes_are}
use Rattle.history_laws.specs.Laws.{changes_row}
use Rattle.plain_data.proofs.Options.{same_some}

abbrev pub Rows : Type 0
Rows = List (List Cell)

-- the rows of lists one after the other
rows_join : (schema name : List ℕ) (front after : List TableRows) → rows_in schema name (front ++ after) ≡ rows_in schema name front ++ rows_in schema name after
rows_join schema name [] after = refl
rows_join schema name (one ∷ front) after = by_test (is_of_table schema name one) (rows_join schema name front after)
  where
    by_test : (b : Bool) → rows_in schema name (front ++ after) ≡ rows_in schema name front ++ rows_in schema name after
        → cond b (one.rows ++ rows_in schema name (front ++ after)) (rows_in schema name (front ++ after)) ≡ cond b (one.rows ++ rows_in schema name front) (rows_in schema name front) ++ rows_in schema name after
    by_test true e = ap (λ (rows : Rows). one.rows ++ rows) e ∙ sym (append_assoc one.rows (rows_in schema name front) (rows_in schema name after))
    by_test false e = e

-- what was found in the front, or else what was found after it
abbrev or_after : Rows → Option Rows → Option Rows → Option Rows
or_after after (Some rows) later = Some (rows ++ after)
or_after after None later = later

-- the first that is equal is looked for in the front, and then after it
first_join : (row : List Cell) (front after : Rows) → without_first row (front ++ after) ≡ or_after after (without_first row front) (option_map (λ (rest : Rows). front ++ rest) (without_first row after))
first_join row [] after = by_found (without_first row after)
  where
    by_found : (found : Option Rows) → found ≡ option_map (λ (rest : Rows). [] ++ rest) found
    by_found None = refl
    by_found (Some rest) = refl
first_join row (one ∷ front) after = by_test (row_eq row one) (first_join row front after)
  where
    by_found : (here later : Option Rows) → option_map (λ (rest : Rows). one ∷ rest) (or_after after here (option_map (λ (rest : Rows). front ++ rest) later)) ≡ or_after after (option_map (λ (rest : Rows). one ∷ rest) here) (option_map (λ (rest : Rows). one ∷ (front ++ rest)) later)
    by_found (Some rows) later = refl
    by_found None None = refl
    by_found None (Some rest) = refl

    by_test : (b : Bool) → without_first row (front ++ after) ≡ or_after after (without_first row front) (option_map (λ (rest : Rows). front ++ rest) (without_first row after))
        → cond b (Some (front ++ after)) (option_map (λ (rest : Rows). one ∷ rest) (without_first row (front ++ after))) ≡ or_after after (cond b (Some front) (option_map (λ (rest : Rows). one ∷ rest) (without_first row front))) (option_map (λ (rest : Rows). one ∷ (front ++ rest)) (without_first row after))
    by_test true e = refl
    by_test false e = ap (λ (found : Option Rows). option_map (λ (rest : Rows). one ∷ rest) found) e ∙ by_found (without_first row front) (without_first row after)

-- the row that is taken out of the lists is the first of the table's rows
pub same_first : (schema name : List ℕ) (row : List Cell) (tables : List TableRows) → option_map (rows_in schema name) (without_row schema name row tables) ≡ without_first row (rows_in schema name tables)
same_first schema name row [] = refl
same_first schema name row (one ∷ others) = by_test (is_of_table schema name one) refl (same_first schema name row others)
  where
    by_found : is_of_table schema name one ≡ true → (here : Option Rows) (later : Option (List TableRows)) → option_map (rows_in schema name) (found_or_later one others here later) ≡ or_after (rows_in schema name others) here (option_map (λ (rest : Rows). one.rows ++ rest) (option_map (rows_in schema name) later))
    by_found is (Some rows) later = rw is refl
    by_found is None None = refl
    by_found is None (Some rest) = rw is refl

    passed : is_of_table schema name one ≡ false → (later : Option (List TableRows)) → option_map (rows_in schema name) (found_or_later one others None later) ≡ option_map (rows_in schema name) later
    passed is None = refl
    passed is (Some rest) = rw is refl

    by_test : (b : Bool) → is_of_table schema name one ≡ b → option_map (rows_in schema name) (without_row schema name row others) ≡ without_first row (rows_in schema name others)
        → option_map (rows_in schema name) (found_or_later one others (cond b (without_first row one.rows) None) (without_row schema name row others)) ≡ without_first row (cond b (one.rows ++ rows_in schema name others) (rows_in schema name others))
    by_test true is e =
        by_found is (without_first row one.rows) (without_row schema name row others)
        ∙ (ap (λ (found : Option Rows). or_after (rows_in schema name others) (without_first row one.rows) (option_map (λ (rest : Rows). one.rows ++ rest) found)) e
        ∙ sym (first_join row one.rows (rows_in schema name others)))
    by_test false is e = passed is (without_row schema name row others) ∙ e

-- the rows of another table stay as they are
pub frame : (schema name : List ℕ) (row : List Cell) (other_schema other_name : List ℕ) → (bytes_eq schema other_schema && bytes_eq name other_name) ≡ false → (tables fewer : List TableRows) → without_row schema name row tables ≡ Some fewer
    → rows_in other_schema other_name fewer ≡ rows_in other_schema other_name tables
frame schema name row other_schema other_name other [] fewer e = absurd (cc)
frame schema name row other_schema other_name other (one ∷ others) fewer e = by_test (is_of_table schema name one) refl (λ rest found. frame schema name row other_schema other_name other others rest found) e
  where
    Framed : Type 0
    Framed = (rest : List TableRows) → without_row schema name row others ≡ Some rest → rows_in other_schema other_name rest ≡ rows_in other_schema other_name others

    is_other : is_of_table schema name one ≡ true → is_of_table other_schema other_name one ≡ false
    is_other is = rw (bytes_are one.table.schema schema (and_left _ _ is), bytes_are one.table.name name (and_right (bytes_eq one.table.schema schema) _ is)) other

    by_later : Framed → (later : Option (List TableRows)) → without_row schema name row others ≡ later → option_map (λ (rest : List TableRows). one ∷ rest) later ≡ Some fewer → rows_in other_schema other_name fewer ≡ rows_in other_schema other_name (one ∷ others)
    by_later framed None found e = absurd (cc)
    by_later framed (Some rest) found e =
        ap (rows_in other_schema other_name) (sym (same_some e))
        ∙ ap (λ (rows : Rows). cond (is_of_table other_schema other_name one) (one.rows ++ rows) rows) (framed rest found)

    by_found : is_of_table schema name one ≡ true → Framed → (here : Option Rows) → found_or_later one others here (without_row schema name row others) ≡ Some fewer → rows_in other_schema other_name fewer ≡ rows_in other_schema other_name (one ∷ others)
    by_found is framed None e = by_later framed (without_row schema name row others) refl e
    by_found is framed (Some rows) e = ap (rows_in other_schema other_name) (sym (same_some e)) ∙ rw (is_other is) refl

    by_test : (b : Bool) → is_of_table schema name one ≡ b → Framed → found_or_later one others (cond b (without_first row one.rows) None) (without_row schema name row others) ≡ Some fewer → rows_in other_schema other_name fewer ≡ rows_in other_schema other_name (one ∷ others)
    by_test true is framed e = by_found is framed (without_first row one.rows) e
    by_test false is framed e = by_later framed (without_row schema name row others) refl e

-- the same objects, and the same rows in the tables that are taken
pub record Alike (takes : List ℕ → List ℕ → Bool) (one other : Database) : Type 0 where
  pub objects : one.objects ≡ other.objects
  pub rows : (schema name : List ℕ) → takes schema name ≡ true → rows_of one schema name ≡ rows_of other schema name

-- the same objects, and the same rows in the tables that aren't taken
pub record Untouched (takes : List ℕ → List ℕ → Bool) (old new : Database) : Type 0 where
  pub objects : new.objects ≡ old.objects
  pub rows : (schema name : List ℕ) → takes schema name ≡ false → rows_of new schema name ≡ rows_of old schema name

-- what fits one database fits the state, and leaves the same rows in the tables that are taken, and the others as they were
pub record Follows (takes : List ℕ → List ℕ → Bool) (middle state : Database) (found : Option Database) : Type 0 where
  pub next : Database
  pub fits : found ≡ Some next
  pub alike : Alike takes middle next
  pub untouched : Untouched takes state next

-- a table that isn't taken is another than one that is
other_table : (takes : List ℕ → List ℕ → Bool) (schema name other_schema other_name : List ℕ) → takes schema name ≡ true → takes other_schema other_name ≡ false → (bytes_eq schema other_schema && bytes_eq name other_name) ≡ false
other_table takes schema name other_schema other_name is is_not = by_test (bytes_eq schema other_schema && bytes_eq name other_name) refl
  where
    by_test : (b : Bool) → (bytes_eq schema other_schema && bytes_eq name other_name) ≡ b → b ≡ false
    by_test false e = refl
    by_test true e =
        let schema_is = bytes_are schema other_schema (and_left _ _ e) in
        let name_is = bytes_are name other_name (and_right (bytes_eq schema other_schema) _ e) in
        let same : takes schema name ≡ takes other_schema other_name = rw (schema_is, name_is) refl in
        absurd (false≢true (sym is_not ∙ (sym same ∙ is)))

-- the tests of a row's table depend on the objects alone
abbrev has_table : List ℕ → List ℕ → List Object → Bool
has_table schema name objects = list_any (is_object Table schema name) objects

abbrev pub fits_table : List ℕ → List ℕ → List Cell → List Object → Bool
fits_table schema name row objects = list_any (takes_row schema name (length row)) objects

pub put_rows : (database : Database) (schema name : List ℕ) (row : List Cell) (other_schema other_name : List ℕ)
    → rows_of (with_row database schema name row) other_schema other_name ≡ rows_of database other_schema other_name ++ cond (bytes_eq schema other_schema && bytes_eq name other_name) (row ∷ []) []
unfolding rows_of
put_rows database schema name row other_schema other_name = rows_join other_schema other_name database.rows _

-- a row that is put
put_step : (takes : List ℕ → List ℕ → Bool) (schema name : List ℕ) (row : List Cell) → takes schema name ≡ true → (now state middle : Database) → Alike takes now state → change_db now (Put schema name row) ≡ Some middle
    → Follows takes middle state (change_db state (Put schema name row))
unfolding change_db
put_step takes schema name row is now state middle same fits =
    let put = cond_some (fits_row now schema name row) (with_row now schema name row) middle fits in
    let fits_too : fits_row state schema name row ≡ true = ap (fits_table schema name row) (sym same.objects) ∙ put.0 in
    record {
      next = with_row state schema name row;
      fits = rw fits_too refl;
      alike = subst (λ (d : Database). Alike takes d (with_row state schema name row)) put.1 (record {
        objects = same.objects;
        rows = λ other_schema other_name taken.
            put_rows now schema name row other_schema other_name
            ∙ (ap (λ (rows : Rows). rows ++ cond (bytes_eq schema other_schema && bytes_eq name other_name) (row ∷ []) []) (same.rows other_schema other_name taken)
            ∙ sym (put_rows state schema name row other_schema other_name));
      });
      untouched = record {
        objects = refl;
        rows = λ other_schema other_name not_taken.
            put_rows state schema name row other_schema other_name
            ∙ (ap (λ (b : Bool). rows_of state other_schema other_name ++ cond b (row ∷ []) []) (other_table takes schema name other_schema other_name is not_taken)
            ∙ append-nil (rows_of state other_schema other_name));
      };
    }

-- a row that is removed
pub record Removed (old new : Database) (schema name : List ℕ) (row : List Cell) : Type 0 where
  pub there : has_table schema name old.objects ≡ true
  pub fewer : List TableRows
  pub found : without_row schema name row old.rows ≡ Some fewer
  pub new_is : record old { rows = fewer } ≡ new

pub removed : (old new : Database) (schema name : List ℕ) (row : List Cell) → change_db old (Remove schema name row) ≡ Some new → Removed old new schema name row
unfolding change_db has_object
removed old new schema name row fits = by_test (has_table schema name old.objects) refl (without_row schema name row old.rows) refl fits
  where
    by_test : (b : Bool) → has_table schema name old.objects ≡ b → (found : Option (List TableRows)) → without_row schema name row old.rows ≡ found
        → cond b (option_map (λ (rows : List TableRows). record old { rows = rows }) found) None ≡ Some new → Removed old new schema name row
    by_test false there found is e = absurd (cc)
    by_test true there None is e = absurd (cc)
    by_test true there (Some fewer) is e = record { there = there; fewer = fewer; found = is; new_is = same_some e }

-- the lists without a row, where the first of the table's rows is known
record Without (schema name : List ℕ) (row : List Cell) (tables : List TableRows) (rows : Rows) : Type 0 where
  fewer : List TableRows
  found : without_row schema name row tables ≡ Some fewer
  rows_are : rows_in schema name fewer ≡ rows

without : (schema name : List ℕ) (row : List Cell) (tables : List TableRows) (rows : Rows) → without_first row (rows_in schema name tables) ≡ Some rows → Without schema name row tables rows
without schema name row tables rows first = by_found (without_row schema name row tables) refl (same_first schema name row tables ∙ first)
  where
    by_found : (found : Option (List TableRows)) → without_row schema name row tables ≡ found → option_map (rows_in schema name) found ≡ Some rows → Without schema name row tables rows
    by_found None is e = absurd (cc)
    by_found (Some fewer) is e = record { fewer = fewer; found = is; rows_are = same_some e }

remove_step : (takes : List ℕ → List ℕ → Bool) (schema name : List ℕ) (row : List Cell) → takes schema name ≡ true → (now state middle : Database) → Alike takes now state → change_db now (Remove schema name row) ≡ Some middle
    → Follows takes middle state (change_db state (Remove schema name row))
unfolding change_db has_object rows_of
remove_step takes schema name row is now state middle same fits =
    let old = removed now middle schema name row fits in
    let first = ap (without_first row) (sym (same.rows schema name is)) ∙ (sym (same_first schema name row now.rows) ∙ ap (λ (found : Option (List TableRows)). option_map (rows_in schema name) found) old.found) in
    let new = without schema name row state.rows (rows_in schema name old.fewer) first in
    let there : has_table schema name state.objects ≡ true = ap (has_table schema name) (sym same.objects) ∙ old.there in
    record {
      next = record state { rows = new.fewer };
      fits = rw (there, new.found) refl;
      alike = subst (λ (d : Database). Alike takes d (record state { rows = new.fewer })) old.new_is (record {
        objects = same.objects;
        rows = λ other_schema other_name taken. by_test old.fewer new.fewer old.found new.found (sym new.rows_are) other_schema other_name (same.rows other_schema other_name taken) (bytes_eq schema other_schema && bytes_eq name other_name) refl;
      });
      untouched = record {
        objects = refl;
        rows = λ other_schema other_name not_taken. frame schema name row other_schema other_name (other_table takes schema name other_schema other_name is not_taken) state.rows new.fewer new.found;
      };
    }
  where
    by_test : (fewer less : List TableRows) → without_row schema name row now.rows ≡ Some fewer → without_row schema name row state.rows ≡ Some less → rows_in schema name fewer ≡ rows_in schema name less
        → (other_schema other_name : List ℕ) → rows_in other_schema other_name now.rows ≡ rows_in other_schema other_name state.rows → (b : Bool) → (bytes_eq schema other_schema && bytes_eq name other_name) ≡ b
        → rows_in other_schema other_name fewer ≡ rows_in other_schema other_name less
    by_test fewer less found found_too first other_schema other_name before false other =
        frame schema name row other_schema other_name other now.rows fewer found ∙ (before ∙ sym (frame schema name row other_schema other_name other state.rows less found_too))
    by_test fewer less found found_too first other_schema other_name before true this =
        rw (← bytes_are schema other_schema (and_left _ _ this), ← bytes_are name other_name (and_right (bytes_eq schema other_schema) _ this)) first

-- a change of a row of the tables that are taken
pub step : (takes : List ℕ → List ℕ → Bool) (change : Change) → changes_row takes change ≡ true → (now state middle : Database) → Alike takes now state → change_db now change ≡ Some middle
    → Follows takes middle state (change_db state change)
step takes (Make object) is now state middle same fits = absurd (false≢true is)
step takes (Drop kind schema name) is now state middle same fits = absurd (false≢true is)
step takes (Put schema name row) is now state middle same fits = put_step takes schema name row is now state middle same fits
step takes (Remove schema name row) is now state middle same fits = remove_step takes schema name row is now state middle same fits

-- several
pub steps : (takes : List ℕ → List ℕ → Bool) (changes : List Change) → list_all (changes_row takes) changes ≡ true → (now state middle : Database) → Alike takes now state → changes_db now changes ≡ Some middle
    → Follows takes middle state (changes_db state changes)
steps takes [] are now state middle same fits =
    record { next = state; fits = refl; alike = subst (λ (d : Database). Alike takes d state) (same_some fits) same; untouched = record { objects = refl; rows = λ schema name not_taken. refl } }
steps takes (change ∷ changes) are now state middle same fits =
    option_and_then_some (λ (next : Database). changes_db next changes) (change_db now change) middle fits (λ next first rest.
    let one = step takes change (and_left (changes_row takes change) (list_all (changes_row takes) changes) are) now state next same first in
    let others = steps takes changes (and_right (changes_row takes change) (list_all (changes_row takes) changes) are) next one.next middle one.alike rest in
    record {
      next = others.next;
      fits = ap (λ (found : Option Database). option_and_then (λ (next : Database). changes_db next changes) found) one.fits ∙ others.fits;
      alike = others.alike;
      untouched = record {
        objects = others.untouched.objects ∙ one.untouched.objects;
        rows = λ schema name not_taken. others.untouched.rows schema name not_taken ∙ one.untouched.rows schema name not_taken;
      };
    })
