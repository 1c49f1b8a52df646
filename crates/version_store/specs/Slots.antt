-- Slots for the databases of snapshots: the number of a slot is that of its snapshot, and an empty one has none.
use Rattle.std.specs.Prelude.{ℕ, ◌≡◌, ◌≢◌, ◌+◌, List, Option, Some, None, count_by, is_some, option_and_then, slice_get}
use Rattle.server_data.specs.declared.data.Database.{Database}
use Rattle.version_store.specs.Store.{Held}

-- the database in the slot of this number
abbrev pub shown_in : List (Option Database) → ℕ → Option Database
shown_in slots id = option_and_then (λ (slot : Option Database). slot) (slice_get slots id)

-- how many slots have a database
abbrev pub live_in : List (Option Database) → ℕ
live_in slots = count_by is_some slots

-- a present database, and slots
pub record PlainState : Type 0 where
  pub present : Database
  pub slots : List (Option Database)

-- what a store of these holds
abbrev pub held_by : PlainState → Held
held_by state = record {
  present = state.present;
  shown = shown_in state.slots;
  live = live_in state.slots;
}

-- the slot was empty, and has the database; the others are as they were
pub record PutsInto (old : List (Option Database)) (database : Database) (id : ℕ)
    (new : List (Option Database)) : Type 0 where
  pub free : shown_in old id ≡ None
  pub taken : shown_in new id ≡ Some database
  pub others : (other : ℕ) → other ≢ id → shown_in new other ≡ shown_in old other
  pub live : live_in new ≡ live_in old + 1
