-- Rows in the order of their keys, and the chunks of the rows beside those of the keys.
use Rattle.std.proofs.Common.{◌≡◌, ℕ, zero, suc, ◌+◌, ◌-◌, ◌*◌, ◌/◌, ◌≤◌, refl, ap, sym, ◌∙◌, subst, Bool, true, false, cond, not, ◌&&◌, List, [], ◌∷◌, Option, Some, None, length, map, take, drop, filter}
use Rattle.std.specs.Prelude.{option_and_then, option_map, slice_get}
use Rattle.std.proofs.lemmas.Bool.{false≢true}
use Rattle.std.proofs.lemmas.Option.{slice_get-map}
use Rattle.plain_data.proofs.Options.{same_some}
use Rattle.chunk_forms.specs.Chunk.{bounds_of}
use Rattle.chunk_forms.specs.declared.key_range.KeyRange.{KeyRange}
use Rattle.chunk_forms.proofs.Chunks.{after, after_none, filter_both, held, not_after}
use Rattle.chunk_forms.proofs.Cuts.{after_begin, begins, bound_place, bounds_length, chunk_keys, get_drop}
use Rattle.chunk_forms.proofs.Orders.{IsOrder, Rises}

-- one key is less than another, if both are there
abbrev pub by_key : {N : Type 0} → (N → N → Bool) → Option N → Option N → Bool
by_key less None other = false
by_key less (Some one) None = false
by_key less (Some one) (Some other) = less one other

-- a key that is there is in the range
abbrev pub within : {N : Type 0} → (N → N → Bool) → KeyRange N → Option N → Bool
within less chunk None = false
within less chunk (Some key) = held less chunk key

module _ {N : Type 0} (less : N → N → Bool) (order : IsOrder less) where
  key_apart : (one : Option N) → by_key less one one ≡ false
  key_apart None = refl
  key_apart (Some one) = order.apart one

  key_joins : (one two three : Option N) → by_key less one two ≡ true → by_key less two three ≡ true → by_key less one three ≡ true
  key_joins None two three e f = e
  key_joins (Some one) None three e f = absurd (false≢true e)
  key_joins (Some one) (Some two) None e f = f
  key_joins (Some one) (Some two) (Some three) e f = order.joins one two three e f

  pub row_order : {X : Type 0} (key : X → Option N) → IsOrder (λ (one other : X). by_key less (key one) (key other))
  row_order key = record { apart = λ row. key_apart (key row); joins = λ one two three. key_joins (key one) (key two) (key three) }

module _ {X N : Type 0} (less : N → N → Bool) (key : X → Option N) where
  nothing : {x : N} → None ≡ Some x → ⊥
  nothing e = cc

  -- a bound among the rows is that among the keys
  place_related : (whole : List X) (keys : List N) → map key whole ≡ map Some keys → (m : ℕ) → option_map key (slice_get whole m) ≡ option_map Some (slice_get keys m)
  place_related whole keys same m = sym (slice_get-map key whole m) ∙ (ap (λ (l : List (Option N)). slice_get l m) same ∙ slice_get-map Some keys m)

  bound_related : (rows : ℕ) (whole : List X) (keys : List N) → 1 ≤ rows → map key whole ≡ map Some keys → (i : ℕ)
      → option_map key (slice_get (bounds_of rows whole) i) ≡ option_map Some (slice_get (bounds_of rows keys) i)
  bound_related rows whole keys some same i =
      ap (option_map key) (bound_place rows whole i some) ∙ (place_related whole keys same (i * rows + (rows - 1)) ∙ ap (option_map Some) (sym (bound_place rows keys i some)))

  begin_related : (rows : ℕ) (whole : List X) (keys : List N) → 1 ≤ rows → map key whole ≡ map Some keys → (i : ℕ)
      → option_map key (begins None (bounds_of rows whole) i) ≡ option_map Some (begins None (bounds_of rows keys) i)
  begin_related rows whole keys some same zero = refl
  begin_related rows whole keys some same (suc i) = bound_related rows whole keys some same i

  after_alike : (row : X) (k : N) → key row ≡ Some k → (one : Option X) (bound : Option N) → option_map key one ≡ option_map Some bound
      → after (λ (a b : X). by_key less (key a) (key b)) one row ≡ after less bound k
  after_alike row k is None None same = refl
  after_alike row k is None (Some bound) same = absurd (elsewhere same)
    where
      elsewhere : {x : Option N} → None ≡ Some x → ⊥
      elsewhere e = cc
  after_alike row k is (Some one) None same = absurd (elsewhere same)
    where
      elsewhere : {x : Option N} → Some x ≡ None → ⊥
      elsewhere e = cc
  after_alike row k is (Some one) (Some bound) same = ap (λ (o : Option N). by_key less o (key row)) (same_some same) ∙ ap (by_key less (Some bound)) is

  not_after_alike : (row : X) (k : N) → key row ≡ Some k → (one : Option X) (bound : Option N) → option_map key one ≡ option_map Some bound
      → not_after (λ (a b : X). by_key less (key a) (key b)) one row ≡ not_after less bound k
  not_after_alike row k is None None same = refl
  not_after_alike row k is None (Some bound) same = absurd (elsewhere same)
    where
      elsewhere : {x : Option N} → None ≡ Some x → ⊥
      elsewhere e = cc
  not_after_alike row k is (Some one) None same = absurd (elsewhere same)
    where
      elsewhere : {x : Option N} → Some x ≡ None → ⊥
      elsewhere e = cc
  not_after_alike row k is (Some one) (Some bound) same = ap not (ap (λ (o : Option N). by_key less o (key row)) (same_some same) ∙ ap (by_key less (Some bound)) is)

  held_alike : (row : X) (k : N) → key row ≡ Some k → (above : Option X) (upto : Option X) (chunk : KeyRange N)
      → option_map key above ≡ option_map Some chunk.above → option_map key upto ≡ option_map Some chunk.upto
      → held (λ (a b : X). by_key less (key a) (key b)) (record { above = above; upto = upto }) row ≡ within less chunk (key row)
  held_alike row k is above upto chunk low high =
      ap (λ b. b && not_after (λ (a b : X). by_key less (key a) (key b)) upto row) (after_alike row k is above chunk.above low)
      ∙ (ap (λ b. after less chunk.above k && b) (not_after_alike row k is upto chunk.upto high)
      ∙ ap (within less chunk) (sym is))

  -- tests that agree where there is a key let the same rows pass
  filter_alike : (p q : X → Bool) → ((row : X) (k : N) → key row ≡ Some k → p row ≡ q row) → (whole : List X) (keys : List N) → map key whole ≡ map Some keys → filter p whole ≡ filter q whole
  filter_alike p q agree [] keys same = refl
  filter_alike p q agree (row ∷ whole) [] same = absurd (longer same)
    where
      longer : {o : Option N} {os : List (Option N)} → o ∷ os ≡ [] → ⊥
      longer e = cc
  filter_alike p q agree (row ∷ whole) (k ∷ keys) same =
      ap (λ b. cond b (row ∷ filter p whole) (filter p whole)) (agree row k (head same))
      ∙ ap (λ (l : List X). cond (q row) (row ∷ l) l) (filter_alike p q agree whole keys (tail same))
    where
      head : {o u : Option N} {os us : List (Option N)} → o ∷ os ≡ u ∷ us → o ≡ u
      head e = cc

      tail : {o u : Option N} {os us : List (Option N)} → o ∷ os ≡ u ∷ us → os ≡ us
      tail e = cc

  same_length : (whole : List X) (keys : List N) → map key whole ≡ map Some keys → length whole ≡ length keys
  same_length whole keys same = sym (map_length key whole) ∙ (ap length same ∙ map_length Some keys)
    where
      map_length : {A B : Type 0} (f : A → B) (xs : List A) → length (map f xs) ≡ length xs
      map_length f [] = refl
      map_length f (x ∷ xs) = ap suc (map_length f xs)

  -- the rows of a chunk of keys
  pub rows_of_chunk : IsOrder less → (rows : ℕ) (whole : List X) (keys : List N) → 1 ≤ rows → map key whole ≡ map Some keys
      → Rises (λ (one other : X). by_key less (key one) (key other)) whole → (i : ℕ) → i ≤ length (bounds_of rows keys)
      → filter (λ row. within less (record { above = begins None (bounds_of rows keys) i; upto = slice_get (bounds_of rows keys) i }) (key row)) whole ≡ take rows (drop (i * rows) whole)
  rows_of_chunk order rows whole keys some same rise i inside =
      sym (filter_alike
      (held (λ (a b : X). by_key less (key a) (key b)) (record { above = begins None (bounds_of rows whole) i; upto = slice_get (bounds_of rows whole) i }))
      (λ row. within less (record { above = begins None (bounds_of rows keys) i; upto = slice_get (bounds_of rows keys) i }) (key row))
      (λ row k is. held_alike row k is (begins None (bounds_of rows whole) i) (slice_get (bounds_of rows whole) i) (record { above = begins None (bounds_of rows keys) i; upto = slice_get (bounds_of rows keys) i })
      (begin_related rows whole keys some same i) (bound_related rows whole keys some same i))
      whole keys same)
      ∙ chunk_keys (λ (one other : X). by_key less (key one) (key other)) (row_order less order key) rows whole i some rise
      (subst (λ n. i ≤ n) (bounds_length rows keys some ∙ (ap (λ n. n / rows) (sym (same_length whole keys same)) ∙ sym (bounds_length rows whole some))) inside)

  -- the rows above the lower bound of a chunk of keys
  pub rows_above : IsOrder less → (rows : ℕ) (whole : List X) (keys : List N) → 1 ≤ rows → map key whole ≡ map Some keys
      → Rises (λ (one other : X). by_key less (key one) (key other)) whole → (i : ℕ) → i ≤ length (bounds_of rows keys)
      → filter (λ row. within less (record { above = begins None (bounds_of rows keys) i; upto = None }) (key row)) whole ≡ drop (i * rows) whole
  rows_above order rows whole keys some same rise i inside =
      sym (filter_alike
      (held (λ (a b : X). by_key less (key a) (key b)) (record { above = begins None (bounds_of rows whole) i; upto = None }))
      (λ row. within less (record { above = begins None (bounds_of rows keys) i; upto = None }) (key row))
      (λ row k is. held_alike row k is (begins None (bounds_of rows whole) i) None (record { above = begins None (bounds_of rows keys) i; upto = None }) (begin_related rows whole keys some same i) refl)
      whole keys same)
      ∙ (filter_both (after (λ (one other : X). by_key less (key one) (key other)) (begins None (bounds_of rows whole) i)) (λ row. true) whole
      ∙ (after_none (λ (one other : X). by_key less (key one) (key other)) (row_order less order key) _
      ∙ after_begin (λ (one other : X). by_key less (key one) (key other)) (row_order less order key) rows whole i some rise
      (subst (λ n. i ≤ n) (bounds_length rows keys some ∙ (ap (λ n. n / rows) (sym (same_length whole keys same)) ∙ sym (bounds_length rows whole some))) inside)))

  key_found : (one : Option X) (bound : Option N) → option_map key one ≡ option_map Some bound → option_and_then key one ≡ bound
  key_found None None same = refl
  key_found None (Some bound) same = absurd (elsewhere same)
    where
      elsewhere : {x : Option N} → None ≡ Some x → ⊥
      elsewhere e = cc
  key_found (Some one) None same = absurd (elsewhere same)
    where
      elsewhere : {x : Option N} → Some x ≡ None → ⊥
      elsewhere e = cc
  key_found (Some one) (Some bound) same = same_some same

  -- the key of the last row of a full chunk is the bound
  pub bound_found : (rows : ℕ) (whole : List X) (keys : List N) → 1 ≤ rows → map key whole ≡ map Some keys → (i : ℕ)
      → option_and_then key (slice_get (drop (i * rows) whole) (rows - 1)) ≡ slice_get (bounds_of rows keys) i
  bound_found rows whole keys some same i =
      ap (option_and_then key) (get_drop whole (i * rows) (rows - 1))
      ∙ (key_found (slice_get whole (i * rows + (rows - 1))) (slice_get keys (i * rows + (rows - 1))) (place_related whole keys same (i * rows + (rows - 1))) ∙ sym (bound_place rows keys i some))
