-- Laws of prefixes and interleavings, of patterns, and of when things are told to be equal. The functions of src/laws.rt are their proofs.
use Rattle.std.specs.Prelude.{ℕ, ◌≡◌, ◌↔◌, Bool, true, List, [], All, Option, IsTrue, fold, flat_map}
use Rattle.object_forms.specs.declared.kind.Kind.{Kind}
use Rattle.server_data.specs.Agree.{object_eq, settings_eq}
use Rattle.server_data.specs.Equal.{kind_eq}
use Rattle.server_data.specs.History.{Interleaves, IsPrefix, TakesHead}
use Rattle.server_data.specs.Pattern.{IsReplaced, matches}
use Rattle.server_data.specs.declared.data.Database.{Database}
use Rattle.server_data.specs.declared.data.Object.{Object}
use Rattle.server_data.specs.declared.data.Settings.{Settings}
use Rattle.server_data.specs.declared.data.Transaction.{Transaction}

-- one list after the other is an interleaving of them
abbrev pub InTurn : Type 0
InTurn = (lists : List (List Transaction)) →
    Interleaves lists (flat_map (λ (list : List Transaction). list) lists)

-- a list is a prefix of itself
abbrev pub OfItself : Type 0
OfItself = (list : List Transaction) → IsPrefix list list

-- a prefix of a prefix is a prefix
abbrev pub OfPrefix : Type 0
OfPrefix = (front more whole : List Transaction) → IsPrefix front more → IsPrefix more whole →
    IsPrefix front whole

-- nothing is left of the lists, and what is said of them and the state holds
pub record HoldsAtEnd (holds : List (List Transaction) → Database → Bool)
    (state : Database) : Type 0 where
  pub left : List (List Transaction)
  pub none : All (λ (list : List Transaction). list ≡ []) left
  pub held : IsTrue (holds left state)

-- each step keeps what is said of what is left of the lists and of the state
abbrev pub IsKept : (Database → Transaction → Database) →
    (List (List Transaction) → Database → Bool) → Type 0
IsKept after holds =
    (lists fewer : List (List Transaction)) (one : Transaction) (state : Database) →
    TakesHead lists one fewer → IsTrue (holds lists state) → IsTrue (holds fewer (after state one))

-- what each step keeps holds at the end of an interleaving
abbrev pub KeptToEnd : Type 0
KeptToEnd = (after : Database → Transaction → Database)
    (holds : List (List Transaction) → Database → Bool) → IsKept after holds
    → (lists : List (List Transaction)) (whole : List Transaction) → Interleaves lists whole →
    (state : Database) → IsTrue (holds lists state) → HoldsAtEnd holds (fold after state whole)

-- a pattern matches the texts that are the pattern with its `*` and `?` replaced, and no others
abbrev pub PatternsAreReplaced : Type 0
PatternsAreReplaced =
    (pattern text : List ℕ) → IsTrue (matches pattern text) ↔ IsReplaced pattern text

-- two kinds that are told to be equal are the same
abbrev pub KindsAreToldApart : Type 0
KindsAreToldApart = (one other : Kind) → kind_eq one other ≡ true → one ≡ other

-- an object is told to be equal to itself
abbrev pub EqualsItself : Type 0
EqualsItself = (object : Object) → object_eq object object ≡ true

-- settings that are told to be equal are the same in everything
abbrev pub SettingsAreToldApart : Type 0
SettingsAreToldApart = (one other : Option Settings) → settings_eq one other ≡ true → one ≡ other
