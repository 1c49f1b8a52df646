-- The order of a table's triggers where one is made after the others.
use Rattle.std.proofs.Common.{◌≡◌, ℕ, ◌+◌, ◌<◌, ◌≤◌, ◌==◌, arith, Bool, true, false, ◌&&◌, ◌||◌, cond, List, [], ◌∷◌, ◌++◌, refl, ap, sym, ◌∙◌, bytes_eq}
use Rattle.std.specs.Prelude.{All, Contains, count_by, filter, fold, max}
use Rattle.std.specs.Cmp.Lexicographic.{slice_cmp}
use Rattle.std.specs.List.{list_any}
use Rattle.std.specs.Ordering.{is_eq, is_lt, nat_cmp}
use Rattle.std.specs.declared.cmp.Ordering.{Ordering}
use Rattle.std.specs.declared.cmp.Ordering.TheVariants.{Less, Equal, Greater}
use Rattle.std.proofs.Math.Bool.{or-false}
use Rattle.std.proofs.Math.Nat.{le-max_left, le-max_right}
use Rattle.std.proofs.lemmas.Bool.{false≢true, le-ltb, lt-ltb}
use Rattle.std.proofs.lemmas.Bool.Decides.{Decides-eqb}
use Rattle.std.proofs.lemmas.List.Elements.{All-cons, All-head, All-nil, All-push, All-tail, All-weaker}
use Rattle.std.proofs.lemmas.List.Folds.{Any-from_list_any, list_any-append, list_any-from_Any, list_any_none}
use Rattle.std.proofs.lemmas.List.Sums.{sum_by-append, sum_by-cons}
use Rattle.std.proofs.lemmas.Map.Text.{is_eq-slice_cmp}
use Rattle.std.proofs.lemmas.Slice.Eq.{bytes_eq-Decides}
use Rattle.server_data.proofs.Counts.{and_left, and_right}
use Rattle.server_data.proofs.Equals.{bytes_are, kind_is, object_itself, settings_are}
use Rattle.server_data.specs.Agree.{Agree, HasSameObjects, comes_before, is_before, is_trigger_named, object_eq}
use Rattle.server_data.specs.Equal.{kind_eq}
use Rattle.server_data.specs.Fold.{rows_of, with_object}
use Rattle.server_data.specs.declared.data.Database.{Database}
use Rattle.server_data.specs.declared.data.Object.{Object}

-- lists that have what passes a test

module _ {X : Type 0} where
  pub record Passing (p : X → Bool) (xs : List X) : Type 0 where
    pub one : X
    pub is_there : Contains xs one
    pub passes : p one ≡ true

  pub passing : (p : X → Bool) (xs : List X) → list_any p xs ≡ true → Passing p xs
  passing p xs any =
      let found = Any-from_list_any p xs any in
      record { one = found.1; is_there = (found.0, found.2, found.3); passes = found.4 }

  pub any_of : (p : X → Bool) (xs : List X) (x : X) → Contains xs x → p x ≡ true → list_any p xs ≡ true
  any_of p xs x is passes = list_any-from_Any p xs (is.0, x, is.1, is.2, passes)

  some_counted : (p : X → Bool) (xs : List X) → list_any p xs ≡ true → 1 ≤ count_by p xs
  some_counted p [] any = absurd (false≢true any)
  some_counted p (x ∷ xs) any = by_test (p x) any (sum_by-cons (λ (y : X). cond (p y) 1 0) x xs) (some_counted p xs)
    where
      by_test : (b : Bool) → (b || list_any p xs) ≡ true → count_by p (x ∷ xs) ≡ cond b 1 0 + count_by p xs → (list_any p xs ≡ true → 1 ≤ count_by p xs) → 1 ≤ count_by p (x ∷ xs)
      by_test true any front later = omega (arith, front)
      by_test false any front later = omega (arith, front, later any)

  none_counted : (p : X → Bool) (xs : List X) → list_any p xs ≡ false → count_by p xs ≡ 0
  none_counted p [] none = refl
  none_counted p (x ∷ xs) none = by_test (p x) none (sum_by-cons (λ (y : X). cond (p y) 1 0) x xs) (none_counted p xs)
    where
      by_test : (b : Bool) → (b || list_any p xs) ≡ false → count_by p (x ∷ xs) ≡ cond b 1 0 + count_by p xs → (list_any p xs ≡ false → count_by p xs ≡ 0) → count_by p (x ∷ xs) ≡ 0
      by_test true none front later = absurd (false≢true (sym none))
      by_test false none front later = omega (arith, front, later none)

  pub count_push : (p : X → Bool) (xs : List X) (x : X) → count_by p (xs ++ x ∷ []) ≡ count_by p xs + cond (p x) 1 0
  count_push p xs x =
      sum_by-append (λ (y : X). cond (p y) 1 0) xs (x ∷ [])
      ∙ ap (λ (n : ℕ). count_by p xs + n) (sum_by-cons (λ (y : X). cond (p y) 1 0) x [] ∙ zero_after (cond (p x) 1 0))
    where
      zero_after : (n : ℕ) → n + 0 ≡ n
      zero_after n = omega arith

  pub counted_too : (p : X → Bool) (xs ys : List X) → count_by p xs ≡ count_by p ys → list_any p xs ≡ true → list_any p ys ≡ true
  counted_too p xs ys same any = by_test (list_any p ys) refl
    where
      by_test : (b : Bool) → list_any p ys ≡ b → b ≡ true
      by_test true e = refl
      by_test false e = let one = some_counted p xs any in let none = none_counted p ys e in absurd (omega arith)

-- two tests with one answer
pub same_test : (a b : Bool) → (a ≡ true → b ≡ true) → (b ≡ true → a ≡ true) → a ≡ b
same_test true b to from = sym (to refl)
same_test false false to from = refl
same_test false true to from = absurd (false≢true (from refl))

-- an object of one database is there in one that agrees with it
pub there_too : (one other : Database) → HasSameObjects one other → (object : Object) → Contains one.objects object → Passing (object_eq object) other.objects
there_too one other same object is =
    passing (object_eq object) other.objects
    (counted_too (object_eq object) one.objects other.objects (same.counts object) (any_of (object_eq object) one.objects object is (object_itself object)))

pub same_objects_back : (one other : Database) → HasSameObjects one other → HasSameObjects other one
same_objects_back one other same = record { counts = λ object. sym (same.counts object) }

-- what two objects have in common that are told to be equal
pub record IsSame (one other : Object) : Type 0 where
  pub kind : one.kind ≡ other.kind
  pub schema : one.schema ≡ other.schema
  pub name : one.name ≡ other.name
  pub text : one.text ≡ other.text
  pub settings : one.settings ≡ other.settings

pub is_same : (one other : Object) → object_eq one other ≡ true → IsSame one other
is_same one other e =
    let after_kind = and_right (kind_eq one.kind other.kind) _ e in
    let after_schema = and_right (bytes_eq one.schema other.schema) _ after_kind in
    let after_name = and_right (bytes_eq one.name other.name) _ after_schema in
    record {
      kind = kind_is one.kind other.kind (and_left _ _ e);
      schema = bytes_are one.schema other.schema (and_left _ _ after_kind);
      name = bytes_are one.name other.name (and_left _ _ after_schema);
      text = bytes_are one.text other.text (and_left _ _ after_name);
      settings = settings_are one.settings other.settings (and_right (bytes_eq one.text other.text) _ after_name);
    }

pub same_back : {one other : Object} → IsSame one other → IsSame other one
same_back same = record { kind = sym same.kind; schema = sym same.schema; name = sym same.name; text = sym same.text; settings = sym same.settings }

eq_same : (object one other : Object) → IsSame one other → object_eq object one ≡ object_eq object other
eq_same object one other same = rw (same.kind, same.schema, same.name, same.text, same.settings) refl

-- ranks

before_by_rank : (one other : Object) → one.rank < other.rank → comes_before one other ≡ true
before_by_rank one other less = rw (lt-ltb one.rank other.rank less) refl

not_lt : (o : Ordering) → is_eq o ≡ true → is_lt o ≡ false
not_lt Less e = absurd (false≢true e)
not_lt Equal e = refl
not_lt Greater e = refl

not_before_itself : (one : Object) → comes_before one one ≡ false
not_before_itself one =
    rw (le-ltb one.rank one.rank (omega arith), not_lt (slice_cmp nat_cmp one.name one.name) (is_eq-slice_cmp one.name one.name ∙ (bytes_eq-Decides one.name one.name).1 refl)) (by_test (one.rank == one.rank))
  where
    by_test : (b : Bool) → (b && false) ≡ false
    by_test true = refl
    by_test false = refl

not_after : (one other : Object) → one.rank < other.rank → comes_before other one ≡ false
not_after one other less = rw (le-ltb other.rank one.rank (omega arith)) (by_test (other.rank == one.rank) refl)
  where
    by_test : (b : Bool) → (other.rank == one.rank) ≡ b → (b && is_lt (slice_cmp nat_cmp other.name one.name)) ≡ false
    by_test false e = refl
    by_test true e = let same = (Decides-eqb other.rank one.rank).0 e in absurd (omega arith)

-- of each table's triggers, those that are there come before this one
abbrev pub IsLastAmong : List Object → Object → Type 0
IsLastAmong objects object = (schema table first second : List ℕ) → is_trigger_named schema table second object ≡ true → All (λ (one : Object). is_trigger_named schema table first one ≡ true → one.rank < object.rank) objects

-- where it is made after them, the order is as before, and they come before it
module _ (objects : List Object) (x : Object) (last : IsLastAmong objects x) (schema table first second : List ℕ) where
  abbrev is_first : Object → Bool
  is_first one = is_trigger_named schema table first one

  abbrev is_second : Object → Bool
  is_second one = is_trigger_named schema table second one

  -- the second comes after this one among these
  abbrev followed : List Object → Object → Bool
  followed among one = list_any (λ other. is_second other && comes_before one other) among

  abbrev leads : List Object → Object → Bool
  leads among one = is_first one && followed among one

  -- the last one comes before none
  at_end : leads (objects ++ x ∷ []) x ≡ false
  at_end = by_test (is_first x) refl
    where
      none_follows : is_first x ≡ true → followed (objects ++ x ∷ []) x ≡ false
      none_follows e = list_any_none (λ other. is_second other && comes_before x other) (objects ++ x ∷ []) (All-push (λ (other : Object). (is_second other && comes_before x other) ≡ false) objects x (All-weaker (λ (one : Object). is_second one ≡ true → one.rank < x.rank) (λ (other : Object). (is_second other && comes_before x other) ≡ false) each objects (last schema table second first e)) itself)
        where
          each : (other : Object) → (is_second other ≡ true → other.rank < x.rank) → (is_second other && comes_before x other) ≡ false
          each other less = by_second (is_second other) refl
            where
              by_second : (b : Bool) → is_second other ≡ b → (b && comes_before x other) ≡ false
              by_second false e = refl
              by_second true e = not_after other x (less e)

          itself : (is_second x && comes_before x x) ≡ false
          itself = rw (not_before_itself x) (by_second (is_second x))
            where
              by_second : (b : Bool) → (b && false) ≡ false
              by_second false = refl
              by_second true = refl

      by_test : (b : Bool) → is_first x ≡ b → (b && followed (objects ++ x ∷ []) x) ≡ false
      by_test false e = refl
      by_test true e = none_follows e

  -- each of the others comes before those before which it came, and before the last one
  others : (front : List Object) → All (λ (one : Object). is_first one ≡ true → is_second x ≡ true → one.rank < x.rank) front → list_any (leads (objects ++ x ∷ [])) front ≡ (list_any (leads objects) front || (is_second x && list_any is_first front))
  others [] all = none (is_second x)
    where
      none : (b : Bool) → false ≡ (b && false)
      none true = refl
      none false = refl
  others (one ∷ front) all =
      ap (λ (b : Bool). (is_first one && b) || list_any (leads (objects ++ x ∷ [])) front) (list_any-append (λ other. is_second other && comes_before one other) objects (x ∷ []))
      ∙ by_tests (is_first one) (is_second x) (followed objects one) (comes_before one x) (list_any (leads (objects ++ x ∷ [])) front) (list_any (leads objects) front) (list_any is_first front) (λ e f. before_by_rank one x (All-head (λ (one : Object). is_first one ≡ true → is_second x ≡ true → one.rank < x.rank) one front all e f)) (others front (All-tail (λ (one : Object). is_first one ≡ true → is_second x ≡ true → one.rank < x.rank) one front all))
    where
      by_tests : (a c m k rest before named : Bool) → (a ≡ true → c ≡ true → k ≡ true) → rest ≡ (before || (c && named)) → ((a && (m || ((c && k) || false))) || rest) ≡ (((a && m) || before) || (c && (a || named)))
      by_tests false c m k rest before named comes e = e
      by_tests true false true k rest before named comes e = refl
      by_tests true false false k rest before named comes e = e
      by_tests true true true k rest before named comes e = refl
      by_tests true true false k rest true named comes e = rw (comes refl refl) refl
      by_tests true true false k rest false named comes e = rw (comes refl refl) refl

  all_come : All (λ (one : Object). is_first one ≡ true → is_second x ≡ true → one.rank < x.rank) objects
  all_come = λ k d less is follows. last schema table first second follows k d less is

  pub order_among : list_any (leads (objects ++ x ∷ [])) (objects ++ x ∷ []) ≡ (list_any (leads objects) objects || (is_second x && list_any is_first objects))
  order_among =
      list_any-append (leads (objects ++ x ∷ [])) objects (x ∷ [])
      ∙ (ap (λ (b : Bool). list_any (leads (objects ++ x ∷ [])) objects || (b || false)) at_end
      ∙ (or-false (list_any (leads (objects ++ x ∷ [])) objects) ∙ others objects all_come))

pub order_after : (database : Database) (x : Object) → IsLastAmong database.objects x → (schema table first second : List ℕ)
    → is_before (with_object database x) schema table first second ≡ (is_before database schema table first second || (is_trigger_named schema table second x && list_any (is_trigger_named schema table first) database.objects))
unfolding is_before
order_after database x last schema table first second = order_among database.objects x last schema table first second

-- the database that is there and the one that is meant, with an object more

pub record GoesLast (now meant : Database) (object wanted : Object) : Type 0 where
  pub same : IsSame object wanted
  pub last : IsLastAmong now.objects object
  pub last_too : IsLastAmong meant.objects wanted
  pub on_table : (schema table name : List ℕ) → is_trigger_named schema table name object ≡ is_trigger_named schema table name wanted
  pub others : (schema table name second : List ℕ) → is_trigger_named schema table second wanted ≡ true → list_any (is_trigger_named schema table name) now.objects ≡ list_any (is_trigger_named schema table name) meant.objects

and_where : (a b c : Bool) → (a ≡ true → b ≡ c) → (a && b) ≡ (a && c)
and_where false b c same = refl
and_where true b c same = same refl

pub one_more : (now meant : Database) (object wanted : Object) → Agree now meant → GoesLast now meant object wanted → Agree (with_object now object) (with_object meant wanted)
unfolding rows_of
one_more now meant object wanted agree goes = record {
  objects = record {
    counts = λ other.
        count_push (object_eq other) now.objects object
        ∙ (sums (count_by (object_eq other) now.objects) (count_by (object_eq other) meant.objects) (object_eq other object) (object_eq other wanted) (agree.objects.counts other) (eq_same other object wanted goes.same)
        ∙ sym (count_push (object_eq other) meant.objects wanted));
  };
  order = λ schema table first second.
      order_after now object goes.last schema table first second
      ∙ (both _ _ _ _ _ _ (agree.order schema table first second) (goes.on_table schema table second) (and_where (is_trigger_named schema table second wanted) (list_any (is_trigger_named schema table first) now.objects) (list_any (is_trigger_named schema table first) meant.objects) (goes.others schema table first second))
      ∙ sym (order_after meant wanted goes.last_too schema table first second));
  rows = λ schema name. agree.rows schema name;
}
  where
    sums : (a b : ℕ) (p q : Bool) → a ≡ b → p ≡ q → a + cond p 1 0 ≡ b + cond q 1 0
    sums a b p q e f = rw (e, f) refl

    both : (a b c d e f : Bool) → a ≡ b → c ≡ d → (d && e) ≡ (d && f) → (a || (c && e)) ≡ (b || (d && f))
    both a b c d e f p q r = ap (λ (x : Bool). x || (c && e)) p ∙ ap (λ (x : Bool). b || x) (ap (λ (x : Bool). x && e) q ∙ r)

-- the greatest rank

fold_start : (xs : List Object) (start : ℕ) → start ≤ fold (λ rank one. max rank one.rank) start xs
fold_start [] start = omega arith
fold_start (x ∷ xs) start = let here = le-max_left start x.rank in let after = fold_start xs (max start x.rank) in omega arith

pub no_greater : (p : Object → Bool) (xs : List Object) (start : ℕ) → All (λ (one : Object). p one ≡ true → one.rank ≤ fold (λ rank one. max rank one.rank) start (filter p xs)) xs
no_greater p [] start = All-nil (λ (one : Object). p one ≡ true → one.rank ≤ start)
no_greater p (x ∷ xs) start = All-cons (λ (one : Object). p one ≡ true → one.rank ≤ fold (λ rank one. max rank one.rank) start (filter p (x ∷ xs))) x xs (by_test (p x) refl) (by_rest (p x) (no_greater p xs start) (no_greater p xs (max start x.rank)))
  where
    by_test : (b : Bool) → p x ≡ b → b ≡ true → x.rank ≤ fold (λ rank one. max rank one.rank) start (cond b (x ∷ filter p xs) (filter p xs))
    by_test false e is = absurd (false≢true is)
    by_test true e is = let here = le-max_right start x.rank in let after = fold_start (filter p xs) (max start x.rank) in omega arith

    by_rest : (b : Bool) → All (λ (one : Object). p one ≡ true → one.rank ≤ fold (λ rank one. max rank one.rank) start (filter p xs)) xs
        → All (λ (one : Object). p one ≡ true → one.rank ≤ fold (λ rank one. max rank one.rank) (max start x.rank) (filter p xs)) xs
        → All (λ (one : Object). p one ≡ true → one.rank ≤ fold (λ rank one. max rank one.rank) start (cond b (x ∷ filter p xs) (filter p xs))) xs
    by_rest false without with = without
    by_rest true without with = with
