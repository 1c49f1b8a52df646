-- What there is after changes is what is told from what there was before them.
use Rattle.std.proofs.Common.{◌≡◌, ℕ, ◌<◌, ◌+◌, arith, Bool, true, false, not, ◌&&◌, ◌||◌, cond, List, [], ◌∷◌, ◌++◌, length, get_or, take, drop, suc, Option, Some, None, refl, ap, sym, ◌∙◌, subst, bytes_eq}
use Rattle.std.specs.Prelude.{filter, is_some, nat_lt, option_and_then, option_map}
use Rattle.std.specs.List.{list_any}
use Rattle.std.proofs.Math.Seq.{take-suc}
use Rattle.std.proofs.lemmas.Bool.{lt-ltb}
use Rattle.std.proofs.lemmas.List.{take-append-drop}
use Rattle.std.proofs.lemmas.List.Folds.{list_any-append}
use Rattle.std.proofs.lemmas.Option.{cond_some, option_and_then_some}
use Rattle.object_forms.specs.declared.kind.Kind.{Kind}
use Rattle.object_forms.specs.declared.kind.Kind.TheVariants.{Table}
use Rattle.sql_cells.specs.declared.cell.Cell.{Cell}
use Rattle.plain_data.proofs.Options.{same_some}
use Rattle.server_data.proofs.Counts.{count_none}
use Rattle.server_data.specs.Bag.{count_of}
use Rattle.server_data.specs.Equal.{kind_eq, row_eq}
use Rattle.server_data.specs.Fold.{change_db, changes_db, fits_row, has_object, is_object, may_drop, may_make, rows_in, rows_of, with_object, with_row, without_first, without_object, without_row}
use Rattle.server_data.specs.declared.data.Change.{Change}
use Rattle.server_data.specs.declared.data.Change.TheVariants.{Make, Drop, Put, Remove}
use Rattle.server_data.specs.declared.data.Database.{Database}
use Rattle.server_data.specs.declared.data.Object.{Object}
use Rattle.server_data.specs.declared.data.TableRows.{TableRows}
use Rattle.history_laws.proofs.Balance.{count_front, put_balance, remove_balance}
use Rattle.history_laws.proofs.Drops.{rows_after_drop}
use Rattle.history_laws.proofs.Objects.{put_objects, remove_objects}
use Rattle.history_laws.proofs.Rows.{same_first}
use Rattle.server_model.specs.After.{any_made, any_stays, count_after, count_after_one, drops, fits_after, has_row_after, is_sought, objects_after, stays}
use Rattle.server_model.specs.declared.fitting.Sought.{Sought}

-- objects

and_false : (a : Bool) → (a && false) ≡ false
and_false true = refl
and_false false = refl

and_true : (a : Bool) → (a && true) ≡ a
and_true true = refl
and_true false = refl

or_false : (a : Bool) → (a || false) ≡ a
or_false true = refl
or_false false = refl

or_moved : (a b c : Bool) → ((a || (b || false)) || c) ≡ (a || (b || c))
or_moved true b c = refl
or_moved false true c = refl
or_moved false false c = refl

any_alike : (p q : Object → Bool) → ((x : Object) → p x ≡ q x) → (xs : List Object) → list_any p xs ≡ list_any q xs
any_alike p q same [] = refl
any_alike p q same (x ∷ xs) = rw (same x, any_alike p q same xs) refl

-- those that are dropped don't stay
any_left : (test : Object → Bool) (kind : Kind) (schema name : List ℕ) (changes : List Change) (objects : List Object)
    → any_stays test changes (filter (λ (object : Object). not (is_object kind schema name object)) objects) ≡ any_stays test (Drop kind schema name ∷ changes) objects
any_left test kind schema name changes [] = refl
any_left test kind schema name changes (x ∷ xs) = by_test (is_object kind schema name x) (any_left test kind schema name changes xs)
  where
    Left : List Object
    Left = filter (λ (object : Object). not (is_object kind schema name object)) xs

    by_test : (gone : Bool) → any_stays test changes (filter (λ (object : Object). not (is_object kind schema name object)) xs) ≡ any_stays test (Drop kind schema name ∷ changes) xs
        → any_stays test changes (cond (not gone) (x ∷ filter (λ (object : Object). not (is_object kind schema name object)) xs) (filter (λ (object : Object). not (is_object kind schema name object)) xs))
        ≡ ((test x && not (gone || list_any (drops x) changes)) || any_stays test (Drop kind schema name ∷ changes) xs)
    by_test true e = rw (and_false (test x)) e
    by_test false e = ap (λ (b : Bool). (test x && stays changes x) || b) e

-- an object passes the test after the changes where it did before and stays, or is made and stays
any_from : (test : Object → Bool) (changes : List Change) (objects : List Object) → list_any test (objects_after objects changes) ≡ (any_stays test changes objects || any_made test changes)
any_from test [] objects =
    any_alike test (λ (x : Object). test x && true) (λ x. sym (and_true (test x))) objects
    ∙ sym (or_false (any_stays test [] objects))
any_from test (Make object ∷ changes) objects =
    any_from test changes (objects ++ object ∷ [])
    ∙ (ap (λ (b : Bool). b || any_made test changes) (list_any-append (λ (x : Object). test x && stays changes x) objects (object ∷ []))
    ∙ or_moved (any_stays test changes objects) (test object && stays changes object) (any_made test changes))
any_from test (Drop kind schema name ∷ changes) objects =
    any_from test changes (filter (λ (object : Object). not (is_object kind schema name object)) objects)
    ∙ ap (λ (b : Bool). b || any_made test changes) (any_left test kind schema name changes objects)
any_from test (Put schema name row ∷ changes) objects = any_from test changes objects
any_from test (Remove schema name row ∷ changes) objects = any_from test changes objects

pub any_is : (sought : Sought) (changes : List Change) (objects : List Object) → list_any (is_sought sought) (objects_after objects changes) ≡ (any_stays (is_sought sought) changes objects || any_made (is_sought sought) changes)
any_is sought changes objects = any_from (is_sought sought) changes objects

-- the objects after one change
objects_one : (change : Change) (old new : Database) → change_db old change ≡ Some new → new.objects ≡ objects_after old.objects (change ∷ [])
unfolding change_db
objects_one (Make object) old new fits = ap (λ (d : Database). d.objects) (sym (cond_some (may_make old object) (with_object old object) new fits).1)
objects_one (Drop kind schema name) old new fits = ap (λ (d : Database). d.objects) (sym (cond_some (may_drop old kind schema name) (without_object old kind schema name) new fits).1)
objects_one (Put schema name row) old new fits = put_objects old new schema name row fits
objects_one (Remove schema name row) old new fits = remove_objects old new schema name row fits

objects_front : (change : Change) (changes : List Change) (objects : List Object) → objects_after objects (change ∷ changes) ≡ objects_after (objects_after objects (change ∷ [])) changes
objects_front (Make object) changes objects = refl
objects_front (Drop kind schema name) changes objects = refl
objects_front (Put schema name row) changes objects = refl
objects_front (Remove schema name row) changes objects = refl

objects_are : (changes : List Change) (old new : Database) → changes_db old changes ≡ Some new → new.objects ≡ objects_after old.objects changes
objects_are [] old new fits = ap (λ (d : Database). d.objects) (sym (same_some fits))
objects_are (change ∷ changes) old new fits =
    option_and_then_some (λ (next : Database). changes_db next changes) (change_db old change) new fits (λ next first rest.
    objects_are changes next new rest
    ∙ (ap (λ (objects : List Object). objects_after objects changes) (objects_one change old next first)
    ∙ sym (objects_front change changes old.objects)))

-- rows

both_tests : (a b : Bool) → ◌≡◌ {A = ℕ} (cond a (cond b 1 0) 0) (cond (a && b) 1 0)
both_tests true b = refl
both_tests false b = refl

count_cond : (row : List Cell) (b : Bool) (rows : List (List Cell)) → count_of row (cond b [] rows) ≡ cond b 0 (count_of row rows)
count_cond row true rows = count_none row
count_cond row false rows = refl

made_rows : (database : Database) (object : Object) (schema name : List ℕ) → rows_of (with_object database object) schema name ≡ rows_of database schema name
unfolding rows_of
made_rows database object schema name = refl

-- how often the row stands there after one change
count_one : (schema name : List ℕ) (row : List Cell) (change : Change) (old new : Database) → change_db old change ≡ Some new
    → count_of row (rows_of new schema name) ≡ count_after_one schema name row (count_of row (rows_of old schema name)) change
unfolding change_db
count_one schema name row (Make object) old new fits =
    ap (λ (d : Database). count_of row (rows_of d schema name)) (sym (cond_some (may_make old object) (with_object old object) new fits).1)
    ∙ ap (count_of row) (made_rows old object schema name)
count_one schema name row (Drop kind other_schema other_name) old new fits =
    ap (λ (d : Database). count_of row (rows_of d schema name)) (sym (cond_some (may_drop old kind other_schema other_name) (without_object old kind other_schema other_name) new fits).1)
    ∙ (ap (count_of row) (rows_after_drop old kind other_schema other_name schema name)
    ∙ count_cond row (kind_eq kind Table && (bytes_eq other_schema schema && bytes_eq other_name name)) (rows_of old schema name))
count_one schema name row (Put other_schema other_name other) old new fits =
    let told = (put_balance old new other_schema other_name other fits).counts schema name row in
    let same = both_tests (bytes_eq other_schema schema && bytes_eq other_name name) (row_eq row other) in
    omega arith
count_one schema name row (Remove other_schema other_name other) old new fits =
    let told = (remove_balance old new other_schema other_name other fits).counts schema name row in
    let same = both_tests (bytes_eq other_schema schema && bytes_eq other_name name) (row_eq row other) in
    omega arith

count_is : (schema name : List ℕ) (row : List Cell) (changes : List Change) (old new : Database) → changes_db old changes ≡ Some new
    → count_of row (rows_of new schema name) ≡ count_after schema name row (count_of row (rows_of old schema name)) changes
count_is schema name row [] old new fits = ap (λ (d : Database). count_of row (rows_of d schema name)) (sym (same_some fits))
count_is schema name row (change ∷ changes) old new fits =
    option_and_then_some (λ (next : Database). changes_db next changes) (change_db old change) new fits (λ next first rest.
    count_is schema name row changes next new rest
    ∙ ap (λ (count : ℕ). count_after schema name row count changes) (count_one schema name row change old next first))

-- a row can be taken out of rows in which it stands

some_mapped : {X Y : Type 0} (f : X → Y) (found : Option X) → is_some (option_map f found) ≡ is_some found
some_mapped f None = refl
some_mapped f (Some x) = refl

some_cond : {X : Type 0} (b : Bool) (x : X) → is_some (cond b (Some x) None) ≡ b
some_cond true x = refl
some_cond false x = refl

some_where : {X : Type 0} (b : Bool) (found : Option X) → is_some (cond b found None) ≡ (b && is_some found)
some_where true found = refl
some_where false found = refl

first_counts : (row : List Cell) (rows : List (List Cell)) → is_some (without_first row rows) ≡ nat_lt 0 (count_of row rows)
first_counts row [] = rw (count_none row) refl
first_counts row (one ∷ rows) = rw (count_front row one rows) (by_test (row_eq row one) (first_counts row rows))
  where
    by_test : (b : Bool) → is_some (without_first row rows) ≡ nat_lt 0 (count_of row rows)
        → is_some (cond b (Some rows) (option_map (λ (rest : List (List Cell)). one ∷ rest) (without_first row rows))) ≡ nat_lt 0 (cond b 1 0 + count_of row rows)
    by_test true e = sym (lt-ltb 0 (1 + count_of row rows) (omega arith))
    by_test false e = let none : 0 + count_of row rows ≡ count_of row rows = omega arith in rw none (some_mapped (λ (rest : List (List Cell)). one ∷ rest) (without_first row rows) ∙ e)

row_counts : (schema name : List ℕ) (row : List Cell) (database : Database) → is_some (without_row schema name row database.rows) ≡ nat_lt 0 (count_of row (rows_of database schema name))
unfolding rows_of
row_counts schema name row database =
    sym (some_mapped (rows_in schema name) (without_row schema name row database.rows))
    ∙ (ap (λ (found : Option (List (List Cell))). is_some found) (same_first schema name row database.rows)
    ∙ first_counts row (rows_in schema name database.rows))

-- a change fits after the others where it is told so

makes_by_objects : (state : Database) (objects : List Object) (object : Object) → state.objects ≡ objects → may_make (record { objects = objects; rows = [] }) object ≡ may_make state object
unfolding may_make has_object
makes_by_objects state objects object e = ap (λ (all : List Object). may_make (record { objects = all; rows = state.rows }) object) (sym e)

drops_by_objects : (state : Database) (objects : List Object) (kind : Kind) (schema name : List ℕ) → state.objects ≡ objects → may_drop (record { objects = objects; rows = [] }) kind schema name ≡ may_drop state kind schema name
unfolding may_drop has_object
drops_by_objects state objects kind schema name e = ap (λ (all : List Object). may_drop (record { objects = all; rows = state.rows }) kind schema name) (sym e)

has_by_objects : (state : Database) (objects : List Object) (kind : Kind) (schema name : List ℕ) → state.objects ≡ objects → has_object (record { objects = objects; rows = [] }) kind schema name ≡ has_object state kind schema name
unfolding has_object
has_by_objects state objects kind schema name e = ap (λ (all : List Object). has_object (record { objects = all; rows = state.rows }) kind schema name) (sym e)

fits_is : (database state : Database) (before : List Change) (change : Change) → changes_db database before ≡ Some state → fits_after database before change ≡ is_some (change_db state change)
unfolding change_db
fits_is database state before (Make object) fits =
    makes_by_objects state (objects_after database.objects before) object (objects_are before database state fits)
    ∙ sym (some_cond (may_make state object) (with_object state object))
fits_is database state before (Drop kind schema name) fits =
    drops_by_objects state (objects_after database.objects before) kind schema name (objects_are before database state fits)
    ∙ sym (some_cond (may_drop state kind schema name) (without_object state kind schema name))
fits_is database state before (Put schema name row) fits =
    ap (λ (objects : List Object). fits_row (record { objects = objects; rows = [] }) schema name row) (sym (objects_are before database state fits))
    ∙ sym (some_cond (fits_row state schema name row) (with_row state schema name row))
fits_is database state before (Remove schema name row) fits =
    let has = has_by_objects state (objects_after database.objects before) Table schema name (objects_are before database state fits) in
    let counts : has_row_after database before schema name row ≡ is_some (without_row schema name row state.rows) =
    ap (λ (count : ℕ). nat_lt 0 count) (sym (count_is schema name row before database state fits)) ∙ sym (row_counts schema name row state) in
    let taken = some_mapped (λ (rows : List TableRows). record state { rows = rows }) (without_row schema name row state.rows) in
    ap (λ (b : Bool). b && has_row_after database before schema name row) has
    ∙ (ap (λ (b : Bool). has_object state Table schema name && b) (counts ∙ sym taken)
    ∙ sym (some_where (has_object state Table schema name) (option_map (λ (rows : List TableRows). record state { rows = rows }) (without_row schema name row state.rows))))

-- one change after another

changes_join : (front after : List Change) (database : Database) → changes_db database (front ++ after) ≡ option_and_then (λ (d : Database). changes_db d after) (changes_db database front)
changes_join [] after database = refl
changes_join (change ∷ front) after database = by_found (λ d. changes_join front after d) (change_db database change)
  where
    by_found : ((d : Database) → changes_db d (front ++ after) ≡ option_and_then (λ (e : Database). changes_db e after) (changes_db d front)) → (found : Option Database)
        → option_and_then (λ (d : Database). changes_db d (front ++ after)) found ≡ option_and_then (λ (d : Database). changes_db d after) (option_and_then (λ (d : Database). changes_db d front) found)
    by_found more None = refl
    by_found more (Some d) = more d

-- the changes up to one more fit where that one does
one_more : (database : Database) (before : List Change) (change : Change) → is_some (changes_db database before) ≡ true → is_some (changes_db database (before ++ change ∷ [])) ≡ fits_after database before change
one_more database before change fit = by_found (changes_db database before) refl fit
  where
    last : (found : Option Database) → is_some (option_and_then (λ (d : Database). Some d) found) ≡ is_some found
    last None = refl
    last (Some d) = refl

    by_found : (found : Option Database) → changes_db database before ≡ found → is_some found ≡ true → is_some (changes_db database (before ++ change ∷ [])) ≡ fits_after database before change
    by_found None e fit = absurd (cc)
    by_found (Some state) e fit =
        ap (λ (found : Option Database). is_some found) (changes_join before (change ∷ []) database ∙ ap (λ (found : Option Database). option_and_then (λ (d : Database). changes_db d (change ∷ [])) found) e)
        ∙ (last (change_db state change) ∙ sym (fits_is database state before change e))

-- where changes don't fit, none that go on from them do
none_more : (database : Database) (front after : List Change) → is_some (changes_db database front) ≡ false → is_some (changes_db database (front ++ after)) ≡ false
none_more database front after none = rw (changes_join front after database) (by_found (changes_db database front) none)
  where
    by_found : (found : Option Database) → is_some found ≡ false → is_some (option_and_then (λ (d : Database). changes_db d after) found) ≡ false
    by_found None e = refl
    by_found (Some d) e = absurd (cc)

pub fit_so_far : (database : Database) (changes : List Change) (at : ℕ) (change : Change) → at < length changes → change ≡ get_or changes at change
    → is_some (changes_db database (take at changes)) ≡ true → is_some (changes_db database (take (at + 1) changes)) ≡ fits_after database (take at changes) change
fit_so_far database changes at change below is fit =
    let step : at + 1 ≡ suc at = omega arith in
    let front : take (at + 1) changes ≡ take at changes ++ change ∷ [] = rw step (take-suc changes at change below ∙ ap (λ (c : Change). take at changes ++ c ∷ []) (sym is)) in
    rw front (one_more database (take at changes) change fit)

pub fit_ends : (database : Database) (changes : List Change) (at : ℕ) (change : Change) → at < length changes → change ≡ get_or changes at change
    → is_some (changes_db database (take at changes)) ≡ true → fits_after database (take at changes) change ≡ false → is_some (changes_db database changes) ≡ false
fit_ends database changes at change below is fit not_this =
    let whole = none_more database (take (at + 1) changes) (drop (at + 1) changes) (fit_so_far database changes at change below is fit ∙ not_this) in
    subst (λ (all : List Change). is_some (changes_db database all) ≡ false) (take-append-drop (at + 1) changes) whole
