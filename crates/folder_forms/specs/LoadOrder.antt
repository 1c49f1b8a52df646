-- The order in which objects are loaded, and views that need each other.
use Rattle.std.specs.Prelude.{ℕ, ◌≡◌, ◌+◌, ◌<◌, not, if◌then◌else◌, Bool, true, false, List, [], ◌∷◌, ◌++◌, length, map, Contains, IsSorted, IsSortedByKey, slice_index_or}
use Rattle.std.specs.Cmp.Lexicographic.{slice_cmp}
use Rattle.std.specs.List.{AllPairs, filter, list_any}
use Rattle.std.specs.Ordering.{is_eq, is_lt, nat_cmp, on, then_cmp}
use Rattle.std.specs.declared.cmp.Ordering.{Ordering}
use Rattle.object_forms.specs.declared.kind.Kind.TheVariants.{Trigger, View}
use Rattle.server_data.specs.Equal.{kind_eq, kind_number}
use Rattle.server_data.specs.Fold.{is_need, table_of_trigger}
use Rattle.server_data.specs.declared.data.Object.{Object}

-- two names, by their bytes
abbrev pub name_cmp : List ℕ → List ℕ → Ordering
name_cmp = slice_cmp nat_cmp

-- a trigger's table, by its name; other kinds stand on none
abbrev pub table_name : Object → List ℕ
table_name object =
    if kind_eq object.kind Trigger then (table_of_trigger object.needs).name else []

-- a trigger's place among those of its table; other kinds have none
abbrev pub trigger_rank : Object → ℕ
trigger_rank object = if kind_eq object.kind Trigger then object.rank else 0

-- two objects, by schema and name
abbrev pub by_name : Object → Object → Ordering
by_name =
    then_cmp (on (λ (object : Object). object.schema) name_cmp)
    (on (λ (object : Object). object.name) name_cmp)

-- two objects by kind, then by schema, for triggers by table and rank, and then by name; a schema stands in itself
abbrev pub load_cmp : Object → Object → Ordering
load_cmp =
    then_cmp (on (λ (object : Object). kind_number object.kind) nat_cmp)
    (then_cmp (on (λ (object : Object). object.schema) name_cmp)
    (then_cmp (on table_name name_cmp)
    (then_cmp (on trigger_rank nat_cmp) (on (λ (object : Object). object.name) name_cmp))))

-- the object is a view
abbrev pub is_view : Object → Bool
is_view object = kind_eq object.kind View

-- the views among objects
abbrev pub views_of : List Object → List Object
views_of objects = filter is_view objects

-- the objects that are no views
abbrev pub without_views : List Object → List Object
without_views objects = filter (λ object. not (is_view object)) objects

-- a view needs the other one
abbrev pub needs_view : Object → Object → Bool
needs_view view other = list_any (is_need other.schema other.name) view.needs

-- where these views don't stand yet, a view is ready: it needs none of them
abbrev pub is_ready : List Object → Object → Bool
is_ready left view = not (list_any (needs_view view) left)

-- of the views that don't stand yet, the view is the least that is ready, by schema and name
pub record IsLeastReady (left : List Object) (view : Object) : Type 0 where
  pub ready : is_ready left view ≡ true
  pub least : (other : Object) → Contains left other → is_ready left other ≡ true →
      is_lt (by_name other view) ≡ false

-- each view is the least that is ready where it and those after it don't stand yet
abbrev pub IsViewOrder : List Object → Type 0
IsViewOrder [] = Unit {0}
IsViewOrder (view ∷ left) = IsLeastReady (view ∷ left) view × IsViewOrder left

-- The load order: kinds never fall (schemas, tables, procedures, functions, views, triggers, events);
-- views in their order, and all others by schema, table, rank and name.
pub record IsLoadOrder (objects : List Object) : Type 0 where
  pub kinds : IsSortedByKey (λ (object : Object). kind_number object.kind) nat_cmp objects
  pub others : IsSorted load_cmp (without_views objects)
  pub views : IsViewOrder (views_of objects)

-- among these views, needs lead from a view to another, in one step or in more
pub data ReachesView (views : List Object) : Object → Object → Type 0 where
  needs_it : {view other : Object} → Contains views other → needs_view view other ≡ true →
      ReachesView views view other
  needs_more : {view next other : Object} → Contains views next → needs_view view next ≡ true →
      ReachesView views next other → ReachesView views view other

-- the view is on a cycle, and none that is on one comes before it by schema and name
pub record IsLeastOnCycle (views : List Object) (view : Object) : Type 0 where
  pub there : Contains views view
  pub around : ReachesView views view view
  pub least : (other : Object) → Contains views other → ReachesView views other other →
      is_lt (by_name other view) ≡ false

-- a view needs the next one, which is on a cycle with it
pub record IsNextOnCycle (views : List Object) (view next : Object) : Type 0 where
  pub there : Contains views next
  pub needed : needs_view view next ≡ true
  pub back : ReachesView views next view

-- the next one is the least of these, by schema and name
pub record IsLeastNext (views : List Object) (view next : Object) : Type 0 where
  pub is_next : IsNextOnCycle views view next
  pub least : (other : Object) → IsNextOnCycle views view other →
      is_lt (by_name other next) ≡ false

-- the walk goes from each view to the least next one
abbrev pub IsCycleWalk : List Object → List Object → Type 0
IsCycleWalk views walk =
    (k : ℕ) (d : Object) → k + 1 < length walk →
    IsLeastNext views (slice_index_or walk k d) (slice_index_or walk (k + 1) d)

-- the names of the cycle's views, from its least member on
pub record IsNamedFromLeast (cycle : List Object) (names : List (List ℕ)) : Type 0 where
  pub front : List Object
  pub least : Object
  pub rest : List Object
  pub parts : cycle ≡ front ++ least ∷ rest
  pub is_least : (other : Object) → Contains cycle other → is_lt (by_name other least) ≡ false
  pub named : names ≡ map (λ (view : Object). view.name) (least ∷ rest ++ front)

-- The names are those of the views in a cycle: a walk from the least view that is on any cycle comes to
-- a view again, and to none before that; the cycle is what it passes from the one time to the other.
pub record IsViewCycle (objects : List Object) (names : List (List ℕ)) : Type 0 where
  pub before : List Object
  pub again : Object
  pub others : List Object
  pub start : IsLeastOnCycle (views_of objects) (slice_index_or before 0 again)
  pub walk : IsCycleWalk (views_of objects) (before ++ again ∷ others ++ again ∷ [])
  pub once : AllPairs (λ one other. is_eq (by_name one other) ≡ false)
      (before ++ again ∷ others)
  pub named_so : IsNamedFromLeast (again ∷ others) names
