-- Agreement is what is tested at each member.
use Rattle.std.proofs.Common.{◌≡◌, ℕ, Bool, true, false, ◌&&◌, ◌⊎◌, List, [], ◌∷◌, Option, refl, sym, ◌∙◌, ap, inl, inr, bytes_eq}
use Rattle.std.specs.Prelude.{count_by, IsTrue}
use Rattle.std.specs.List.{list_all, list_any}
use Rattle.std.proofs.lemmas.Bool.Decides.{Decides-eqb}
use Rattle.object_forms.specs.declared.kind.Kind.TheVariants.{Trigger}
use Rattle.sql_cells.specs.declared.cell.Cell.{Cell}
use Rattle.server_data.specs.Agree.{Agree, HasSameObjects, comes_before, is_before, is_trigger_named, object_eq, settings_eq}
use Rattle.server_data.specs.Bag.{IsSameBag, count_of}
use Rattle.server_data.specs.Equal.{kind_eq, row_eq}
use Rattle.server_data.specs.Fold.{is_need, is_of_table, rows_in, rows_of, table_of_trigger}
use Rattle.server_model.specs.Members.{agrees, is_as_often, is_same, same_objects, same_order, same_pair, same_pairs, same_row, same_rows, same_table}
use Rattle.server_data.specs.declared.data.Database.{Database}
use Rattle.server_data.specs.declared.data.Object.{Object}
use Rattle.server_data.specs.declared.data.Settings.{Settings}
use Rattle.server_data.specs.declared.data.TableRows.{TableRows}
use Rattle.server_data.proofs.Equals.{bytes_are, kind_is, row_is, settings_are}
use Rattle.server_data.proofs.Counts.{alike, and_both, and_left, and_right, count_front, count_none, counted, equal, every, found, or_right, where_not}

-- objects

settings_alike : (a b c : Option Settings) → settings_eq a b ≡ true → settings_eq a c ≡ settings_eq b c
settings_alike a b c e = ap (λ (s : Option Settings). settings_eq s c) (settings_are a b e)

-- an object that is the same as another is the same as those that the other is the same as
object_alike : (one other : Object) → object_eq one other ≡ true → (object : Object) → object_eq one object ≡ object_eq other object
object_alike one other e object =
    let e1 = and_right (kind_eq one.kind other.kind) _ e in
    let e2 = and_right (bytes_eq one.schema other.schema) _ e1 in
    let e3 = and_right (bytes_eq one.name other.name) _ e2 in
    let kind = kind_is one.kind other.kind (and_left _ _ e) in
    let schema = bytes_are one.schema other.schema (and_left _ _ e1) in
    let name = bytes_are one.name other.name (and_left _ _ e2) in
    let text = bytes_are one.text other.text (and_left _ _ e3) in
    let settings = settings_alike one.settings other.settings object.settings (and_right (bytes_eq one.text other.text) _ e3) in
    rw (kind, schema, name, text, settings) refl

objects_from : (one other : Database) → same_objects one other ≡ true → HasSameObjects one other
objects_from one other e = record { counts = λ object. equal _ _ (at object one.objects (and_left _ _ e)) (at_others object other.objects (and_right (list_all (is_as_often one.objects other.objects) one.objects) _ e)) }
  where
    same : (object x : Object) → object_eq object x ≡ true → is_as_often one.objects other.objects x ≡ true → count_by (object_eq object) one.objects ≡ count_by (object_eq object) other.objects
    same object x is often = alike _ _ (object_alike object x is) one.objects ∙ ((Decides-eqb (count_by (object_eq x) one.objects) (count_by (object_eq x) other.objects)).0 often ∙ sym (alike _ _ (object_alike object x is) other.objects))

    at : (object : Object) (xs : List Object) → list_all (is_as_often one.objects other.objects) xs ≡ true → (count_by (object_eq object) xs ≡ 0) ⊎ (count_by (object_eq object) one.objects ≡ count_by (object_eq object) other.objects)
    at object xs all = counted (object_eq object) (is_as_often one.objects other.objects) _ (same object) xs all

    at_others : (object : Object) (xs : List Object) → list_all (is_as_often one.objects other.objects) xs ≡ true → (count_by (object_eq object) xs ≡ 0) ⊎ (count_by (object_eq object) one.objects ≡ count_by (object_eq object) other.objects)
    at_others object xs all = counted (object_eq object) (is_as_often one.objects other.objects) _ (same object) xs all

objects_all : (one other : Database) → HasSameObjects one other → same_objects one other ≡ true
objects_all one other is = and_both _ _ (every _ one.objects often) (every _ other.objects often)
  where
    often : (object : Object) → is_as_often one.objects other.objects object ≡ true
    often object = (Decides-eqb (count_by (object_eq object) one.objects) (count_by (object_eq object) other.objects)).1 (is.counts object)

-- rows

counted_rows : (one other : Database) (schema name : List ℕ) (row : List Cell) (tables : List TableRows) → list_all (same_table one other) tables ≡ true
    → (count_of row (rows_in schema name tables) ≡ 0) ⊎ (count_of row (rows_of one schema name) ≡ count_of row (rows_of other schema name))
unfolding count_of
counted_rows one other schema name row [] all = inl (count_none row)
counted_rows one other schema name row (t ∷ ts) all =
    by_test (is_of_table schema name t) refl (counted_rows one other schema name row ts (and_right (same_table one other t) _ all))
  where
    gives : is_of_table schema name t ≡ true → (x : List Cell) → row_eq row x ≡ true → same_row one other t.table.schema t.table.name x ≡ true → count_of row (rows_of one schema name) ≡ count_of row (rows_of other schema name)
    gives is x same often =
        let schema_is = bytes_are t.table.schema schema (and_left _ _ is) in
        let name_is = bytes_are t.table.name name (and_right (bytes_eq t.table.schema schema) _ is) in
        let e = (Decides-eqb (count_of x (rows_of one t.table.schema t.table.name)) (count_of x (rows_of other t.table.schema t.table.name))).0 often in
        rw (← schema_is, ← name_is, row_is row x same) e

    in_one : is_of_table schema name t ≡ true → (count_of row t.rows ≡ 0) ⊎ (count_of row (rows_of one schema name) ≡ count_of row (rows_of other schema name))
    in_one is = counted (row_eq row) (same_row one other t.table.schema t.table.name) _ (gives is) t.rows (and_left _ _ all)

    by_test : (b : Bool) → is_of_table schema name t ≡ b → (count_of row (rows_in schema name ts) ≡ 0) ⊎ (count_of row (rows_of one schema name) ≡ count_of row (rows_of other schema name))
        → (count_of row (rows_in schema name (t ∷ ts)) ≡ 0) ⊎ (count_of row (rows_of one schema name) ≡ count_of row (rows_of other schema name))
    by_test b e (inr q) = inr q
    by_test true e (inl none) = here (in_one e)
      where
        here : (count_of row t.rows ≡ 0) ⊎ (count_of row (rows_of one schema name) ≡ count_of row (rows_of other schema name)) → (count_of row (rows_in schema name (t ∷ ts)) ≡ 0) ⊎ (count_of row (rows_of one schema name) ≡ count_of row (rows_of other schema name))
        here (inr q) = inr q
        here (inl absent) = inl (count_front row schema name t ts ∙ rw (e, absent, none) refl)
    by_test false e (inl none) = inl (count_front row schema name t ts ∙ rw (e, none) refl)

rows_from : (one other : Database) → same_rows one other ≡ true → (schema name : List ℕ) → IsSameBag (rows_of one schema name) (rows_of other schema name)
unfolding rows_of
rows_from one other e schema name = record { counts = λ row. equal _ _ (counted_rows one other schema name row one.rows (and_left _ _ e)) (counted_rows one other schema name row other.rows (and_right (list_all (same_table one other) one.rows) _ e)) }

rows_all : (one other : Database) → ((schema name : List ℕ) → IsSameBag (rows_of one schema name) (rows_of other schema name)) → same_rows one other ≡ true
rows_all one other is = and_both _ _ (every _ one.rows often) (every _ other.rows often)
  where
    often : (rows : TableRows) → same_table one other rows ≡ true
    often rows = every _ rows.rows (λ row. (Decides-eqb (count_of row (rows_of one rows.table.schema rows.table.name)) (count_of row (rows_of other rows.table.schema rows.table.name))).1 ((is rows.table.schema rows.table.name).counts row))

-- orders

same_is : (a b : Bool) → is_same a b ≡ true → a ≡ b
same_is true true e = refl
same_is true false e = absurd (cc)
same_is false true e = absurd (cc)
same_is false false e = refl

is_same_of : (a b : Bool) → a ≡ b → is_same a b ≡ true
is_same_of true b e = sym e
is_same_of false b e = rw (← e) refl

at_second : (one other : Database) (schema table first second : List ℕ) (x : Object) → is_trigger_named schema table first x ≡ true → (y : Object) → (is_trigger_named schema table second y && comes_before x y) ≡ true → same_pair one other x y ≡ true
    → is_before one schema table first second ≡ is_before other schema table first second
at_second one other schema table first second x is_x y is_y same =
    let x1 = and_right (kind_eq x.kind Trigger) _ is_x in
    let on = and_left (is_need schema table (table_of_trigger x.needs)) _ x1 in
    let schema_is = bytes_are (table_of_trigger x.needs).schema schema (and_left _ _ on) in
    let table_is = bytes_are (table_of_trigger x.needs).name table (and_right (bytes_eq (table_of_trigger x.needs).schema schema) _ on) in
    let first_is = bytes_are x.name first (and_right (is_need schema table (table_of_trigger x.needs)) _ x1) in
    let y0 = and_left (is_trigger_named schema table second y) (comes_before x y) is_y in
    let y1 = and_right (kind_eq y.kind Trigger) _ y0 in
    let second_is = bytes_are y.name second (and_right (is_need schema table (table_of_trigger y.needs)) _ y1) in
    let e = same_is (is_before one (table_of_trigger x.needs).schema (table_of_trigger x.needs).name x.name y.name) (is_before other (table_of_trigger x.needs).schema (table_of_trigger x.needs).name x.name y.name) (where_not (kind_eq y.kind Trigger) _ (and_left _ _ y0) same) in
    rw (← schema_is, ← table_is, ← first_is, ← second_is) e

at_first : (one other : Database) (schema table first second : List ℕ) (objects : List Object) (x : Object) → (is_trigger_named schema table first x && list_any (λ (y : Object). is_trigger_named schema table second y && comes_before x y) objects) ≡ true → same_pairs one other objects x ≡ true
    → is_before one schema table first second ≡ is_before other schema table first second
at_first one other schema table first second objects x is same =
    let is_x = and_left (is_trigger_named schema table first x) (list_any (λ (y : Object). is_trigger_named schema table second y && comes_before x y) objects) is in
    let has = and_right (is_trigger_named schema table first x) (list_any (λ (y : Object). is_trigger_named schema table second y && comes_before x y) objects) is in
    let all = where_not (kind_eq x.kind Trigger) (list_all (same_pair one other x) objects) (and_left _ _ is_x) same in
    one_of has (found (λ (y : Object). is_trigger_named schema table second y && comes_before x y) (same_pair one other x) _ (at_second one other schema table first second x is_x) objects all)
  where
    one_of : {Q : Type 0} {b : Bool} → b ≡ true → (b ≡ false) ⊎ Q → Q
    one_of e (inl f) = absurd (cc)
    one_of e (inr q) = q

-- in a database none of these triggers comes before the other, or it does in both
ordered : (one other : Database) (schema table first second : List ℕ) (database : Database) → list_all (same_pairs one other database.objects) database.objects ≡ true
    → (is_before database schema table first second ≡ false) ⊎ (is_before one schema table first second ≡ is_before other schema table first second)
unfolding is_before
ordered one other schema table first second database all = found (λ (x : Object). is_trigger_named schema table first x && list_any (λ (y : Object). is_trigger_named schema table second y && comes_before x y) database.objects) (same_pairs one other database.objects) _ (at_first one other schema table first second database.objects) database.objects all

order_from : (one other : Database) → same_order one other ≡ true → (schema table first second : List ℕ) → is_before one schema table first second ≡ is_before other schema table first second
order_from one other e schema table first second =
    by_cases (ordered one other schema table first second one (and_left _ _ e)) (ordered one other schema table first second other (and_right (list_all (same_pairs one other one.objects) one.objects) _ e))
  where
    by_cases : {a b : Bool} → (a ≡ false) ⊎ (a ≡ b) → (b ≡ false) ⊎ (a ≡ b) → a ≡ b
    by_cases (inr e) other = e
    by_cases (inl none) (inr e) = e
    by_cases (inl none) (inl nor) = none ∙ sym nor

order_all : (one other : Database) → ((schema table first second : List ℕ) → is_before one schema table first second ≡ is_before other schema table first second) → same_order one other ≡ true
order_all one other is = and_both _ _ (every _ one.objects (pairs one.objects)) (every _ other.objects (pairs other.objects))
  where
    pairs : (objects : List Object) (x : Object) → same_pairs one other objects x ≡ true
    pairs objects x = or_right _ _ (every (same_pair one other x) objects (λ y. or_right _ _ (is_same_of _ _ (is (table_of_trigger x.needs).schema (table_of_trigger x.needs).name x.name y.name))))

-- all

pub agreed : (one other : Database) (b : Bool) → b ≡ agrees one other → (IsTrue b → Agree one other) × (Agree one other → IsTrue b)
unfolding agrees
agreed one other b is = (there, back)
  where
    there : IsTrue b → Agree one other
    there e =
        let all = sym is ∙ e in
        let after = and_right (same_objects one other) (same_order one other && same_rows one other) all in
        record {
          objects = objects_from one other (and_left (same_objects one other) (same_order one other && same_rows one other) all);
          order = order_from one other (and_left (same_order one other) (same_rows one other) after);
          rows = rows_from one other (and_right (same_order one other) (same_rows one other) after);
        }

    back : Agree one other → IsTrue b
    back agree = is ∙ and_both (same_objects one other) (same_order one other && same_rows one other) (objects_all one other agree.objects) (and_both (same_order one other) (same_rows one other) (order_all one other agree.order) (rows_all one other agree.rows))
