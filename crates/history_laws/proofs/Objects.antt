-- Objects after a history.
use Rattle.std.proofs.Common.{◌≡◌, ℕ, ◌≤◌, arith, Bool, true, false, not, ◌&&◌, ◌||◌, cond, List, [], ◌∷◌, ◌++◌, length, get_or, Option, Some, None, refl, ap, sym, ◌∙◌, subst, bytes_eq, length-append}
use Rattle.std.specs.Prelude.{All, filter, option_map}
use Rattle.std.specs.List.{list_any}
use Rattle.std.proofs.lemmas.Bool.{false≢true}
use Rattle.std.proofs.lemmas.List.Elements.{All-filter, All-nil, All-push, All-weaker, filter-append}
use Rattle.std.proofs.lemmas.List.Folds.{list_any-append, list_any_at}
use Rattle.std.proofs.lemmas.Map.Views.{any-filter_same}
use Rattle.std.proofs.lemmas.Option.{cond_some, option_and_then_some}
use Rattle.std.proofs.lemmas.Slice.Eq.{bytes_eq-Decides}
use Rattle.object_forms.specs.declared.kind.Kind.{Kind}
use Rattle.object_forms.specs.declared.kind.Kind.TheVariants.{Schema, Table, Procedure, Function, View, Trigger, Event}
use Rattle.server_data.proofs.Counts.{and_both, and_left, and_right}
use Rattle.server_data.proofs.Equals.{bytes_are, kind_is}
use Rattle.server_data.specs.Equal.{kind_eq}
use Rattle.server_data.specs.Fold.{change_db, changes_db, empty_db, has_object, has_place, has_schema, is_object, may_drop, may_make, more_db, stands_in, with_object, with_row, without_object, without_row, fits_row}
use Rattle.server_data.specs.declared.data.Change.{Change}
use Rattle.server_data.specs.declared.data.Change.TheVariants.{Make, Drop, Put, Remove}
use Rattle.server_data.specs.declared.data.Database.{Database}
use Rattle.server_data.specs.declared.data.Object.{Object}
use Rattle.server_data.specs.declared.data.TableRows.{TableRows}
use Rattle.server_data.specs.declared.data.Transaction.{Transaction}
use Rattle.history_laws.specs.Laws.{ObjectsStandOnce, SchemasAreThere}
use Rattle.plain_data.proofs.Options.{same_some}

pub is_not : (b : Bool) → not b ≡ true → b ≡ false
is_not true e = absurd (false≢true e)
is_not false e = refl

-- what each change keeps, a history keeps
module _ (P : Database → Type 0) (keeps : (old new : Database) (change : Change) → change_db old change ≡ Some new → P old → P new) where
  by_changes : (changes : List Change) (old new : Database) → changes_db old changes ≡ Some new → P old → P new
  by_changes [] old new fits holds = subst P (same_some fits) holds
  by_changes (change ∷ changes) old new fits holds =
      option_and_then_some (λ (next : Database). changes_db next changes) (change_db old change) new fits (λ next first rest. by_changes changes next new rest (keeps old next change first holds))

  by_history : (history : List Transaction) (old new : Database) → more_db old history ≡ Some new → P old → P new
  by_history [] old new fits holds = subst P (same_some fits) holds
  by_history (one ∷ history) old new fits holds =
      option_and_then_some (λ (next : Database). more_db next history) (changes_db old one.changes) new fits (λ next first rest. by_history history next new rest (by_changes one.changes old next first holds))

-- rows that are put or removed leave the objects
pub put_objects : (old new : Database) (schema name : List ℕ) (row : _) → change_db old (Put schema name row) ≡ Some new → new.objects ≡ old.objects
unfolding change_db
put_objects old new schema name row fits = ap (λ (d : Database). d.objects) (sym (cond_some (fits_row old schema name row) (with_row old schema name row) new fits).1)

pub remove_objects : (old new : Database) (schema name : List ℕ) (row : _) → change_db old (Remove schema name row) ≡ Some new → new.objects ≡ old.objects
unfolding change_db
remove_objects old new schema name row fits = by_test (has_object old Table schema name) (without_row schema name row old.rows) fits
  where
    by_test : (b : Bool) (found : Option (List TableRows)) → cond b (option_map (λ (rows : List TableRows). record old { rows = rows }) found) None ≡ Some new → new.objects ≡ old.objects
    by_test false found e = absurd (cc)
    by_test true None e = absurd (cc)
    by_test true (Some rows) e = ap (λ (d : Database). d.objects) (sym (same_some e))

-- an object of this kind, schema and name
record Is (kind : Kind) (schema name : List ℕ) (object : Object) : Type 0 where
  kind_is : object.kind ≡ kind
  schema_is : object.schema ≡ schema
  name_is : object.name ≡ name

is_of : (kind : Kind) (schema name : List ℕ) (object : Object) → is_object kind schema name object ≡ true → Is kind schema name object
is_of kind schema name object e =
    let after = and_right (kind_eq object.kind kind) _ e in
    record {
      kind_is = kind_is object.kind kind (and_left _ _ e);
      schema_is = bytes_are object.schema schema (and_left _ _ after);
      name_is = bytes_are object.name name (and_right (bytes_eq object.schema schema) _ after);
    }

-- objects stand once

or_none : (a b : Bool) → (a || b) ≡ false → (a ≡ false) × (b ≡ false)
or_none true b e = absurd (false≢true (sym e))
or_none false b e = (refl, e)

module _ {X : Type 0} where
  -- none passes
  nothing : (p : X → Bool) (xs : List X) → list_any p xs ≡ false → filter p xs ≡ []
  nothing p [] e = refl
  nothing p (x ∷ xs) e = let none = or_none (p x) (list_any p xs) e in rw (none.0, nothing p xs none.1) refl

  -- of fewer members no more pass
  no_more : (p q : X → Bool) (xs : List X) → length (filter p (filter q xs)) ≤ length (filter p xs)
  no_more p q [] = omega arith
  no_more p q (x ∷ xs) = by_test (q x) (p x) refl (no_more p q xs)
    where
      by_test : (b c : Bool) → p x ≡ c → length (filter p (filter q xs)) ≤ length (filter p xs) → length (filter p (cond b (x ∷ filter q xs) (filter q xs))) ≤ length (cond c (x ∷ filter p xs) (filter p xs))
      by_test true true e less = rw e (omega arith)
      by_test true false e less = rw e less
      by_test false true e less = omega arith
      by_test false false e less = less

  one_more : (p : X → Bool) (xs : List X) (x : X) → (p x ≡ true → list_any p xs ≡ false) → length (filter p xs) ≤ 1 → length (filter p (xs ++ x ∷ [])) ≤ 1
  one_more p xs x new once = rw filter-append (by_test (p x) refl)
    where
      by_test : (b : Bool) → p x ≡ b → length (filter p xs ++ cond b (x ∷ []) []) ≤ 1
      by_test true e = rw (nothing p xs (new e)) (omega arith)
      by_test false e = omega (arith, length-append (filter p xs) [], once)

abbrev StandsOnce : Database → Type 0
StandsOnce database = (kind : Kind) (schema name : List ℕ) → length (filter (is_object kind schema name) database.objects) ≤ 1

once_kept : (old new : Database) (change : Change) → change_db old change ≡ Some new → StandsOnce old → StandsOnce new
unfolding change_db may_make has_object
once_kept old new (Make object) fits once = let made = cond_some (may_make old object) (with_object old object) new fits in subst StandsOnce made.1 (with_one made.0)
  where
    with_one : may_make old object ≡ true → StandsOnce (with_object old object)
    with_one may kind schema name = one_more (is_object kind schema name) old.objects object (λ e. alone (is_of kind schema name object e)) (once kind schema name)
      where
        alone : Is kind schema name object → list_any (is_object kind schema name) old.objects ≡ false
        alone is = rw (← is.kind_is, ← is.schema_is, ← is.name_is) (is_not _ (and_left (not (has_object old object.kind object.schema object.name)) (has_place old object object.kind) may))
once_kept old new (Drop kind schema name) fits once =
    subst StandsOnce (cond_some (may_drop old kind schema name) (without_object old kind schema name) new fits).1
    (λ other_kind other_schema other_name. fewer (no_more (is_object other_kind other_schema other_name) (λ (object : Object). not (is_object kind schema name object)) old.objects) (once other_kind other_schema other_name))
  where
    fewer : {a b : ℕ} → a ≤ b → b ≤ 1 → a ≤ 1
    fewer e f = omega arith
once_kept old new (Put schema name row) fits once = λ kind other_schema other_name. rw (put_objects old new schema name row fits) (once kind other_schema other_name)
once_kept old new (Remove schema name row) fits once = λ kind other_schema other_name. rw (remove_objects old new schema name row fits) (once kind other_schema other_name)

pub stand_once : ObjectsStandOnce
stand_once history database fits = by_history StandsOnce once_kept history empty_db database fits (λ kind schema name. omega arith)

-- schemas are there

-- the object is a schema, or its schema is there
abbrev HasSchema : Database → Object → Type 0
HasSchema database object = kind_eq object.kind Schema ≡ false → has_schema database object.schema ≡ true

abbrev HasSchemas : Database → Type 0
HasSchemas database = All (HasSchema database) database.objects

-- a database with the same objects
same_schemas : (old new : Database) → new.objects ≡ old.objects → HasSchemas old → HasSchemas new
unfolding has_object
same_schemas old new same has = subst (λ (objects : List Object). All (λ (object : Object). kind_eq object.kind Schema ≡ false → list_any (is_object Schema object.schema object.schema) objects ≡ true) objects) (sym same) has

placed : (old : Database) (object : Object) (kind : Kind) → has_place old object kind ≡ true → kind_eq kind Schema ≡ false → has_schema old object.schema ≡ true
placed old object Schema place is_not = absurd (false≢true (sym is_not))
placed old object Table place is_not = place
placed old object Procedure place is_not = place
placed old object Function place is_not = place
placed old object View place is_not = place
placed old object Trigger place is_not = and_left (has_schema old object.schema) _ place
placed old object Event place is_not = place

-- what isn't found is no member
is_none : {X : Type 0} (p : X → Bool) (xs : List X) → list_any p xs ≡ false → All (λ x. p x ≡ false) xs
is_none p xs none k d h = by_test (p (get_or xs k d)) refl
  where
    by_test : (b : Bool) → p (get_or xs k d) ≡ b → p (get_or xs k d) ≡ false
    by_test false e = e
    by_test true e = absurd (false≢true (sym none ∙ list_any_at p xs k d h e))

-- nothing else stands in the schema that is dropped
alone_in : (kind : Kind) (schema : List ℕ) (objects : List Object) → not (kind_eq kind Schema && list_any (stands_in schema) objects) ≡ true → All (λ (object : Object). (kind_eq kind Schema && stands_in schema object) ≡ false) objects
alone_in kind schema objects = by_test (kind_eq kind Schema) (list_any (stands_in schema) objects) refl
  where
    by_test : (b c : Bool) → list_any (stands_in schema) objects ≡ c → not (b && c) ≡ true → All (λ (object : Object). (b && stands_in schema object) ≡ false) objects
    by_test false c e f = λ k d h. refl
    by_test true true e f = absurd (false≢true f)
    by_test true false e f = is_none (stands_in schema) objects e

-- the schema of another object isn't the object that is dropped
stays : (kind : Kind) (schema name : List ℕ) (object : Object) (objects : List Object) → (kind_eq kind Schema && stands_in schema object) ≡ false → kind_eq object.kind Schema ≡ false
    → list_any (is_object Schema object.schema object.schema) objects ≡ true → list_any (is_object Schema object.schema object.schema) (filter (λ (one : Object). not (is_object kind schema name one)) objects) ≡ true
stays kind schema name object objects alone is_not there =
    any-filter_same (is_object Schema object.schema object.schema) (λ (one : Object). not (is_object kind schema name one)) true (λ one is. other one (is_of Schema object.schema object.schema one is) (is_object kind schema name one) refl) objects ∙ there
  where
    other : (one : Object) → Is Schema object.schema object.schema one → (b : Bool) → is_object kind schema name one ≡ b → not b ≡ true
    other one is false e = refl
    other one is true e =
        let dropped = is_of kind schema name one e in
        let kind_is : kind ≡ Schema = sym dropped.kind_is ∙ is.kind_is in
        let schema_is : object.schema ≡ schema = sym is.schema_is ∙ dropped.schema_is in
        let stands : (kind_eq kind Schema && stands_in schema object) ≡ true = rw (kind_is, is_not) (and_both (bytes_eq object.schema schema) true ((bytes_eq-Decides object.schema schema).1 schema_is) refl) in
        absurd (false≢true (sym alone ∙ stands))

schemas_kept : (old new : Database) (change : Change) → change_db old change ≡ Some new → HasSchemas old → HasSchemas new
unfolding change_db may_make may_drop has_object
schemas_kept old new (Make object) fits has = let made = cond_some (may_make old object) (with_object old object) new fits in subst HasSchemas made.1 (with_one made.0)
  where
    still : (schema : List ℕ) → has_schema old schema ≡ true → has_schema (with_object old object) schema ≡ true
    still schema there = rw list_any-append (rw there refl)

    with_one : may_make old object ≡ true → HasSchemas (with_object old object)
    with_one may = All-push (HasSchema (with_object old object)) old.objects object
        (All-weaker (HasSchema old) (HasSchema (with_object old object)) (λ one before is_not. still one.schema (before is_not)) old.objects has)
        (λ is_not. still object.schema (placed old object object.kind (and_right (not (has_object old object.kind object.schema object.name)) (has_place old object object.kind) may) is_not))
schemas_kept old new (Drop kind schema name) fits has = let dropped = cond_some (may_drop old kind schema name) (without_object old kind schema name) new fits in subst HasSchemas dropped.1 (without_one dropped.0)
  where
    without_one : may_drop old kind schema name ≡ true → HasSchemas (without_object old kind schema name)
    without_one may =
        let alone = alone_in kind schema old.objects (and_right (list_any (is_object kind schema name) old.objects) (not (kind_eq kind Schema && list_any (stands_in schema) old.objects)) may) in
        All-filter (λ (object : Object). not (is_object kind schema name object)) (HasSchema (without_object old kind schema name)) old.objects (λ k d h is_not. stays kind schema name (get_or old.objects k d) old.objects (alone k d h) is_not (has k d h is_not))
schemas_kept old new (Put schema name row) fits has = same_schemas old new (put_objects old new schema name row fits) has
schemas_kept old new (Remove schema name row) fits has = same_schemas old new (remove_objects old new schema name row fits) has

pub schemas_there : SchemasAreThere
schemas_there history database fits = by_history HasSchemas schemas_kept history empty_db database fits (All-nil (HasSchema empty_db))
