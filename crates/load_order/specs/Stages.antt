-- What the stages of the sorting leave.
use Rattle.std.specs.Prelude.{ℕ, ◌≡◌, ◌<◌, ◌≤◌, Bool, true, false, List, ◌∷◌, ◌++◌, length, Contains, IsPermutation, IsSorted}
use Rattle.std.specs.List.{All, AllWithin, HoldsAt, list_any}
use Rattle.std.specs.Ordering.{nat_cmp, on, ordering_then, then_cmp}
use Rattle.std.specs.declared.cmp.Ordering.{Ordering}
use Rattle.folder_forms.specs.LoadOrder.{IsLeastReady, IsViewOrder, by_name, is_ready, is_view, load_cmp, name_cmp, table_name, trigger_rank}
use Rattle.server_data.specs.Equal.{kind_number}
use Rattle.server_data.specs.Fold.{is_need}
use Rattle.server_data.specs.declared.data.Need.{Need}
use Rattle.server_data.specs.declared.data.Object.{Object}

-- two objects of one kind and one schema
abbrev pub in_schema_cmp : Object → Object → Ordering
in_schema_cmp =
    then_cmp (then_cmp (on table_name name_cmp) (on trigger_rank nat_cmp))
    (on (λ (object : Object). object.name) name_cmp)

-- the need names the view
abbrev pub names_view : Need → Object → Bool
names_view need view = is_need view.schema view.name need

-- none of these views is ready
abbrev pub IsStuck : List Object → Type 0
IsStuck left = All (λ view. is_ready left view ≡ false) left

-- the view at this place is ready, and none in front of it is
pub record IsFirstReady (left : List Object) (at : ℕ) : Type 0 where
  pub within : at < length left
  pub ready : HoldsAt (λ view. is_ready left view ≡ true) left at
  pub before : AllWithin (λ view. is_ready left view ≡ false) left 0 at

-- the least view that is ready comes first, and the others stay by schema and name
pub record PutsFirst (left arranged : List Object) : Type 0 where
  pub view : Object
  pub rest : List Object
  pub parts : arranged ≡ view ∷ rest
  pub least : IsLeastReady left view
  pub sorted : IsSorted by_name rest
  pub same : IsPermutation left arranged

-- how a view is to a need, by schema and name
abbrev pub against_need : Need → Object → Ordering
against_need need view =
    ordering_then (name_cmp view.schema need.schema) (name_cmp view.name need.name)

-- whatever order of those that are left is a view order, after these it is one too
abbrev pub CompletesOrder : List Object → List Object → Type 0
CompletesOrder made left =
    (rest : List Object) → IsPermutation left rest → IsViewOrder rest → IsViewOrder (made ++ rest)

-- some of these views wait for each other: each of them needs one of them
pub record HasStuck (views : List Object) : Type 0 where
  pub left : List Object
  pub some : 0 < length left
  pub among : (view : Object) → Contains left view → Contains views view
  pub stuck : IsStuck left

-- where the views stand among objects that are in order but for them: from the one place to the other
pub record Parts (objects : List Object) (from to : ℕ) : Type 0 where
  pub up : IsSorted load_cmp objects
  pub low : from ≤ to
  pub high : to ≤ length objects
  pub front : AllWithin (λ (object : Object). kind_number object.kind < 4) objects 0 from
  pub middle : AllWithin (λ (object : Object). is_view object ≡ true) objects from to
  pub back :
      AllWithin (λ (object : Object). 5 ≤ kind_number object.kind) objects to (length objects)

-- those in front of this place are of kinds before this number's
abbrev pub KindsBefore : List Object → ℕ → ℕ → Type 0
KindsBefore objects number at =
    AllWithin (λ object. kind_number object.kind < number) objects 0 at

-- those from this place on are of this number's kind or later ones
abbrev pub KindsFrom : List Object → ℕ → ℕ → Type 0
KindsFrom objects number at =
    AllWithin (λ object. number ≤ kind_number object.kind) objects at (length objects)
