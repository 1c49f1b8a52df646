-- Slots that are filled and emptied.
use Rattle.std.proofs.Common.{◌≡◌, ◌≢◌, ℕ, zero, suc, ◌+◌, ◌<◌, ◌≤◌, arith, true, cond, List, [], ◌∷◌, ◌++◌, length, set, Option, Some, None, refl, ◌∙◌, ap}
use Rattle.std.specs.Prelude.{is_none, is_some, slice_get}
use Rattle.std.specs.List.{position_or_len}
use Rattle.std.proofs.lemmas.List.Sums.{sum_by-append, sum_by-cons}
use Rattle.std.proofs.lemmas.Option.{slice_get_past, slice_get_within}
use Rattle.server_data.specs.declared.data.Database.{Database}
use Rattle.version_store.specs.Slots.{PutsInto, held_by, live_in, shown_in}
use Rattle.version_store.specs.Store.{EndsSnapshot}

abbrev pub Slot : Type 0
Slot = Option Database

abbrev one_if : Slot → ℕ
one_if slot = cond (is_some slot) 1 0

live_front : (slot : Slot) (slots : List Slot) → live_in (slot ∷ slots) ≡ one_if slot + live_in slots
live_front slot slots = sum_by-cons (λ (one : Slot). one_if one) slot slots

-- a slot that is written over

shown_here : (slots : List Slot) (id : ℕ) (slot : Slot) → id < length slots → shown_in (set slots id slot) id ≡ slot
shown_here [] id slot below = absurd (omega arith)
shown_here (x ∷ xs) zero slot below = refl
shown_here (x ∷ xs) (suc id) slot below = shown_here xs id slot (omega arith)

shown_there : (slots : List Slot) (id other : ℕ) (slot : Slot) → other ≢ id → shown_in (set slots id slot) other ≡ shown_in slots other
shown_there [] id other slot apart = refl
shown_there (x ∷ xs) zero zero slot apart = absurd (apart refl)
shown_there (x ∷ xs) zero (suc other) slot apart = refl
shown_there (x ∷ xs) (suc id) zero slot apart = refl
shown_there (x ∷ xs) (suc id) (suc other) slot apart = shown_there xs id other slot (λ e. apart (ap suc e))

live_after : (slots : List Slot) (id : ℕ) (old slot : Slot) → slice_get slots id ≡ Some old → live_in (set slots id slot) + one_if old ≡ live_in slots + one_if slot
live_after [] id old slot is = absurd (cc)
live_after (x ∷ xs) zero old slot is =
    let same : x ≡ old = cc in
    let before = live_front x xs in
    let after = live_front slot xs in
    let kept : one_if x ≡ one_if old = ap one_if same in
    omega arith
live_after (x ∷ xs) (suc id) old slot is =
    let rest = live_after xs id old slot is in
    let before = live_front x xs in
    let after = live_front x (set xs id slot) in
    omega arith

-- the first empty slot

empty_there : (slots : List Slot) → position_or_len is_none slots < length slots → slice_get slots (position_or_len is_none slots) ≡ Some None
empty_there [] below = absurd (omega arith)
empty_there (None ∷ slots) below = refl
empty_there (Some x ∷ slots) below =
    let next : 1 + position_or_len is_none slots ≡ suc (position_or_len is_none slots) = omega arith in
    rw next (empty_there slots (omega arith))

pub puts_over : (slots : List Slot) (database : Database) (id : ℕ) → id ≡ position_or_len is_none slots → id < length slots → PutsInto slots database id (set slots id (Some database))
puts_over slots database id is below =
    let empty : slice_get slots id ≡ Some None = rw is (empty_there slots (rw (← is) below)) in
    let live = live_after slots id None (Some database) empty in
    record {
      free = rw empty refl;
      taken = shown_here slots id (Some database) below;
      others = λ other apart. shown_there slots id other (Some database) apart;
      live = omega arith;
    }

-- a slot more

shown_last : (slots : List Slot) (slot : Slot) → shown_in (slots ++ slot ∷ []) (length slots) ≡ slot
shown_last [] slot = refl
shown_last (x ∷ xs) slot = shown_last xs slot

shown_before : (slots : List Slot) (slot : Slot) (other : ℕ) → other ≢ length slots → shown_in (slots ++ slot ∷ []) other ≡ shown_in slots other
shown_before [] slot zero apart = absurd (apart refl)
shown_before [] slot (suc other) apart = refl
shown_before (x ∷ xs) slot zero apart = refl
shown_before (x ∷ xs) slot (suc other) apart = shown_before xs slot other (λ e. apart (ap suc e))

none_past : (slots : List Slot) → shown_in slots (length slots) ≡ None
none_past slots = rw (slice_get_past slots (length slots) (omega arith)) refl

live_more : (slots : List Slot) (slot : Slot) → live_in (slots ++ slot ∷ []) ≡ live_in slots + one_if slot
live_more slots slot =
    let join = sum_by-append (λ (one : Slot). one_if one) slots (slot ∷ []) in
    let last = live_front slot [] in
    omega arith

no_empty : (slots : List Slot) → length slots ≤ position_or_len is_none slots → position_or_len is_none slots ≡ length slots
no_empty [] past = refl
no_empty (None ∷ slots) past = absurd (omega arith)
no_empty (Some x ∷ slots) past = let rest = no_empty slots (omega arith) in omega arith

pub puts_after : (slots : List Slot) (database : Database) (id : ℕ) → id ≡ position_or_len is_none slots → length slots ≤ id → PutsInto slots database id (slots ++ Some database ∷ [])
puts_after slots database id is past =
    let last : id ≡ length slots = is ∙ no_empty slots (rw (← is) past) in
    rw last (record {
      free = none_past slots;
      taken = shown_last slots (Some database);
      others = λ other apart. shown_before slots (Some database) other apart;
      live = live_more slots (Some database);
    })

-- a slot that is emptied

filled : (slot : Slot) → is_some slot ≡ true → (x : Database) × (slot ≡ Some x)
filled None is = absurd (cc)
filled (Some x) is = (x, refl)

slot_of : (slots : List Slot) (id : ℕ) (x : Database) → shown_in slots id ≡ Some x → slice_get slots id ≡ Some (Some x)
slot_of [] id x is = absurd (cc)
slot_of (slot ∷ slots) zero x is = ap (λ (one : Slot). Some one) is
slot_of (slot ∷ slots) (suc id) x is = slot_of slots id x is

pub emptied : (present : Database) (slots : List Slot) (id : ℕ) → is_some (shown_in slots id) ≡ true
    → EndsSnapshot (held_by (record { present = present; slots = slots })) id (held_by (record { present = present; slots = set slots id None }))
emptied present slots id is =
    let there = filled (shown_in slots id) is in
    let slot = slot_of slots id there.0 there.1 in
    let live = live_after slots id (Some there.0) None slot in
    record {
      ended = shown_here slots id None (slice_get_within slots id (Some there.0) slot);
      others = λ other apart. shown_there slots id other None apart;
      present = refl;
      live = omega arith;
    }
