-- The chunks between bounds: which one holds a key, and which keys each holds.
use Rattle.std.proofs.Common.{◌≡◌, ℕ, zero, suc, refl, ap, sym, ◌∙◌, subst, Bool, true, false, cond, not, ◌&&◌, List, [], ◌∷◌, ◌++◌, Option, Some, None, length, take, drop, filter}
use Rattle.std.specs.Prelude.{⊤, slice_get, flat_map, count_by}
use Rattle.std.proofs.lemmas.Bool.{false≢true}
use Rattle.std.proofs.lemmas.List.{append-nil}
use Rattle.std.proofs.lemmas.List.Sums.{length-filter}
use Rattle.plain_data.proofs.Options.{same_some}
use Rattle.chunk_forms.specs.Chunk.{chunks_above, keys_in}
use Rattle.chunk_forms.specs.declared.key_range.KeyRange.{KeyRange}
use Rattle.chunk_forms.proofs.Orders.{IsFirst, IsOrder, Rises, turned}

-- the key comes after the bound, or there is no bound
abbrev pub after : {K : Type 0} → (K → K → Bool) → Option K → K → Bool
after before None key = true
after before (Some bound) key = before bound key

-- the key doesn't come after the bound, or there is no bound
abbrev pub not_after : {K : Type 0} → (K → K → Bool) → Option K → K → Bool
not_after before None key = true
not_after before (Some bound) key = not (before bound key)

-- the key is in the range, by an order
abbrev pub held : {K : Type 0} → (K → K → Bool) → KeyRange K → K → Bool
held before range key = after before range.above key && not_after before range.upto key

-- a bound comes before all keys, or there is no bound
abbrev pub IsBelow : {K : Type 0} → (K → K → Bool) → Option K → List K → Type 0
IsBelow before None keys = ⊤
IsBelow before (Some bound) keys = IsFirst before bound keys

module _ {X : Type 0} where
  filter_all : (xs : List X) → filter (λ x. true) xs ≡ xs
  filter_all [] = refl
  filter_all (x ∷ xs) = ap (λ l. x ∷ l) (filter_all xs)

  -- both tests, one after the other
  pub filter_both : (p q : X → Bool) (xs : List X) → filter (λ x. p x && q x) xs ≡ filter q (filter p xs)
  filter_both p q [] = refl
  filter_both p q (x ∷ xs) = step (p x) (filter_both p q xs)
    where
      step : (b : Bool) → filter (λ x. p x && q x) xs ≡ filter q (filter p xs)
          → cond (b && q x) (x ∷ filter (λ x. p x && q x) xs) (filter (λ x. p x && q x) xs) ≡ filter q (cond b (x ∷ filter p xs) (filter p xs))
      step true e = ap (λ (l : List X). cond (q x) (x ∷ l) l) e
      step false e = e

module _ {K : Type 0} (before : K → K → Bool) (order : IsOrder before) where
  -- all that come after a key are kept by the test for it, and not by its opposite
  pub filter_first : (key : K) (keys : List K) → IsFirst before key keys → filter (before key) keys ≡ keys
  filter_first key [] h = refl
  filter_first key (next ∷ keys) h = ap (λ b. cond b (next ∷ filter (before key) keys) (filter (before key) keys)) h.0 ∙ ap (λ l. next ∷ l) (filter_first key keys h.1)

  pub filter_not_first : (key : K) (keys : List K) → IsFirst before key keys → filter (λ x. not (before key x)) keys ≡ []
  filter_not_first key [] h = refl
  filter_not_first key (next ∷ keys) h = ap (λ b. cond (not b) (next ∷ filter (λ x. not (before key x)) keys) (filter (λ x. not (before key x)) keys)) h.0 ∙ filter_not_first key keys h.1

  first_at : (key : K) (keys : List K) (place : ℕ) (bound : K) → IsFirst before key keys → slice_get keys place ≡ Some bound → before key bound ≡ true
  first_at key [] place bound h e = absurd (elsewhere e)
    where
      elsewhere : {x : K} → None ≡ Some x → ⊥
      elsewhere e = cc
  first_at key (next ∷ keys) zero bound h e = subst (λ (x : K). before key x ≡ true) (same_some e) h.0
  first_at key (next ∷ keys) (suc place) bound h e = first_at key keys place bound h.1 e

  -- the keys after the one at a place
  pub after_place : (keys : List K) (place : ℕ) (bound : K) → Rises before keys → slice_get keys place ≡ Some bound
      → filter (before bound) keys ≡ drop (suc place) keys
  after_place [] place bound h e = refl
  after_place (key ∷ keys) zero bound h e = subst (λ (x : K). filter (before x) (key ∷ keys) ≡ keys) (same_some e)
      (ap (λ b. cond b (key ∷ filter (before key) keys) (filter (before key) keys)) (order.apart key) ∙ filter_first key keys h.0)
  after_place (key ∷ keys) (suc place) bound h e =
      ap (λ b. cond b (key ∷ filter (before bound) keys) (filter (before bound) keys)) (turned before order key bound (first_at key keys place bound h.0 e))
      ∙ after_place keys place bound h.1 e

  kept : (key : K) (keys : List K) (place : ℕ) (found : Option K) → IsFirst before key keys → slice_get keys place ≡ found → not_after before found key ≡ true
  kept key keys place None h e = refl
  kept key keys place (Some bound) h e = ap not (turned before order key bound (first_at key keys place bound h e))

  -- the keys up to the one at a place, or all where there is none
  pub up_to_place : (keys : List K) (place : ℕ) → Rises before keys → filter (not_after before (slice_get keys place)) keys ≡ take (suc place) keys
  up_to_place [] place h = refl
  up_to_place (key ∷ keys) zero h =
      ap (λ b. cond (not b) (key ∷ filter (λ x. not (before key x)) keys) (filter (λ x. not (before key x)) keys)) (order.apart key)
      ∙ ap (λ l. key ∷ l) (filter_not_first key keys h.0)
  up_to_place (key ∷ keys) (suc place) h =
      ap (λ b. cond b (key ∷ filter (not_after before (slice_get keys place)) keys) (filter (not_after before (slice_get keys place)) keys))
      (kept key keys place (slice_get keys place) h.0 refl)
      ∙ ap (λ l. key ∷ l) (up_to_place keys place h.1)

  -- exactly one of the chunks above a bound holds a key after it, and none another
  one_of : (above : Option K) (bounds : List K) (key : K) → IsBelow before above bounds → Rises before bounds
      → length (filter (λ range. held before range key) (chunks_above above bounds)) ≡ cond (after before above key) 1 0
  one_of above [] key low h = last (after before above key) (record { above = above; upto = None })
    where
      last : (b : Bool) (range : KeyRange K) → length (cond (b && true) (range ∷ []) []) ≡ cond b 1 0
      last true range = refl
      last false range = refl
  one_of above (bound ∷ bounds) key low h =
      one (after before above key) (before bound key) (record { above = above; upto = Some bound }) (filter (λ range. held before range key) (chunks_above (Some bound) bounds)) (one_of (Some bound) bounds key h.0 h.1) (passed above low)
    where
      passed : (above : Option K) → IsBelow before above (bound ∷ bounds) → before bound key ≡ true → after before above key ≡ true
      passed None low e = refl
      passed (Some least) low e = order.joins least bound key low.0 e

      one : (a b : Bool) (range : KeyRange K) (rest : List (KeyRange K)) → length rest ≡ cond b 1 0 → (b ≡ true → a ≡ true)
          → length (cond (a && not b) (range ∷ rest) rest) ≡ cond a 1 0
      one true true range rest few e = few
      one true false range rest few e = ap suc few
      one false true range rest few e = absurd (false≢true (e refl))
      one false false range rest few e = few

  pub in_one : (above : Option K) (bounds : List K) (key : K) → IsBelow before above bounds → Rises before bounds
      → count_by (λ range. held before range key) (chunks_above above bounds) ≡ cond (after before above key) 1 0
  in_one above bounds key low h = sym (length-filter (λ range. held before range key) (chunks_above above bounds)) ∙ one_of above bounds key low h

  -- the keys after a bound are those between it and a later one, and then those after that
  parted : (above : Option K) (bound : K) (keys : List K) → ((key : K) → before bound key ≡ true → after before above key ≡ true) → Rises before keys
      → filter (λ key. after before above key && not (before bound key)) keys ++ filter (before bound) keys ≡ filter (after before above) keys
  parted above bound [] passed h = refl
  parted above bound (key ∷ keys) passed h = step (after before above key) (before bound key) refl refl (parted above bound keys passed h.1)
    where
      between : List K → List K
      between = filter (λ key. after before above key && not (before bound key))

      later : (next : K) (others : List K) → before bound next ≡ true → IsFirst before next others → filter (λ key. after before above key && not (before bound key)) others ≡ []
      later next [] e h = refl
      later next (other ∷ others) e h =
          ap (λ b. cond (after before above other && not b) (other ∷ filter (λ key. after before above key && not (before bound key)) others) (filter (λ key. after before above key && not (before bound key)) others))
          (order.joins bound next other e h.0)
          ∙ (none (after before above other) _ ∙ later next others e h.1)
        where
          none : (b : Bool) (l : List K) → cond (b && not true) (other ∷ l) l ≡ l
          none true l = refl
          none false l = refl

      step : (a b : Bool) → after before above key ≡ a → before bound key ≡ b
          → filter (λ key. after before above key && not (before bound key)) keys ++ filter (before bound) keys ≡ filter (after before above) keys
          → cond (a && not b) (key ∷ filter (λ key. after before above key && not (before bound key)) keys) (filter (λ key. after before above key && not (before bound key)) keys)
          ++ cond b (key ∷ filter (before bound) keys) (filter (before bound) keys)
          ≡ cond a (key ∷ filter (after before above) keys) (filter (after before above) keys)
      step true true is was e =
          ap (λ (l : List K). l ++ (key ∷ filter (before bound) keys)) (later key keys was h.0)
          ∙ ap (λ (l : List K). key ∷ l) (ap (λ (l : List K). l ++ filter (before bound) keys) (sym (later key keys was h.0)) ∙ e)
      step true false is was e = ap (λ (l : List K). key ∷ l) e
      step false true is was e = absurd (false≢true (sym is ∙ passed key was))
      step false false is was e = e

  -- the keys of all chunks above a bound are those after it, in their order
  pub all_held : (above : Option K) (bounds keys : List K) → IsBelow before above bounds → Rises before bounds → Rises before keys
      → flat_map (keys_in (held before) keys) (chunks_above above bounds) ≡ filter (after before above) keys
  all_held above [] keys low h rise = append-nil _ ∙ (filter_both (after before above) (λ key. true) keys ∙ filter_all _)
  all_held above (bound ∷ bounds) keys low h rise =
      ap (λ (l : List K). filter (λ key. after before above key && not (before bound key)) keys ++ l) (all_held (Some bound) bounds keys h.0 h.1 rise)
      ∙ parted above bound keys (passed above low) rise
    where
      passed : (above : Option K) → IsBelow before above (bound ∷ bounds) → (key : K) → before bound key ≡ true → after before above key ≡ true
      passed None low key e = refl
      passed (Some least) low key e = order.joins least bound key low.0 e

  -- all keys are after no bound
  pub after_none : (keys : List K) → filter (after before None) keys ≡ keys
  after_none keys = filter_all keys
