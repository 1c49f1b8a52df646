-- Keys cut at every r-th: how many bounds there are, where they stand, and what the chunks hold.
use Rattle.std.proofs.Common.{◌≡◌, ℕ, zero, suc, ◌+◌, ◌-◌, ◌*◌, ◌/◌, ◌≤◌, ◌<◌, refl, ap, sym, ◌∙◌, subst, true, arith, Bool, List, [], ◌∷◌, Option, Some, None, length, take, drop, filter, map}
use Rattle.std.specs.Prelude.{min, option_map, slice_get}
use Rattle.std.proofs.Math.Nat.{add-div_right, div-eq_of_lt, div-mul-le_self, suc-mul, mul-le-mul_right}
use Rattle.std.proofs.lemmas.List.{length-drop, length-take}
use Rattle.std.proofs.lemmas.Option.{slice_get-map}
use Rattle.chunk_forms.specs.Chunk.{bounds_of, chunks_above, chunks_of, every_after, keys_in, without_upto}
use Rattle.chunk_forms.specs.Laws.{AreCut}
use Rattle.chunk_forms.proofs.Orders.{IsFirst, IsOrder, Rises}
use Rattle.chunk_forms.proofs.Chunks.{after, after_none, after_place, all_held, filter_both, held, not_after, up_to_place}

module _ {K : Type 0} where
  -- how many there are
  every_length : (rows passed : ℕ) (keys : List K) → 1 ≤ rows → passed < rows → length (every_after rows passed keys) ≡ (length keys + (rows - 1 - passed)) / rows
  every_length rows passed [] some within = sym (div-eq_of_lt (omega (arith, some, within)))
  every_length rows zero (key ∷ keys) some within =
      ap suc (every_length rows (rows - 1) keys some (omega (arith, some)))
      ∙ (ap (λ n. suc (n / rows)) (front (length keys) rows) ∙ (next (length keys / rows) ∙ (sym (add-div_right (length keys) some) ∙ ap (λ n. n / rows) (whole (length keys) rows some))))
    where
      front : (n r : ℕ) → n + (r - 1 - (r - 1)) ≡ n
      front n r = omega arith

      next : (n : ℕ) → suc n ≡ n + 1
      next n = omega arith

      whole : (n r : ℕ) → 1 ≤ r → n + r ≡ suc n + (r - 1 - 0)
      whole n r h = omega (arith, h)
  every_length rows (suc passed) (key ∷ keys) some within =
      every_length rows passed keys some (omega (arith, within)) ∙ ap (λ n. n / rows) (moved (length keys) rows passed within)
    where
      moved : (n r p : ℕ) → suc p < r → n + (r - 1 - p) ≡ suc n + (r - 1 - suc p)
      moved n r p h = omega (arith, h)

  pub bounds_length : (rows : ℕ) (keys : List K) → 1 ≤ rows → length (bounds_of rows keys) ≡ length keys / rows
  bounds_length rows keys some = every_length rows (rows - 1) keys some (omega (arith, some)) ∙ ap (λ n. n / rows) (none (length keys) rows)
    where
      none : (n r : ℕ) → n + (r - 1 - (r - 1)) ≡ n
      none n r = omega arith

  -- where they stand
  every_place : (rows passed : ℕ) (keys : List K) (i : ℕ) → 1 ≤ rows → slice_get (every_after rows passed keys) i ≡ slice_get keys (i * rows + passed)
  every_place rows passed [] i some = refl
  every_place rows zero (key ∷ keys) zero some = ap (slice_get (key ∷ keys)) (first rows)
    where
      first : (r : ℕ) → zero ≡ zero * r + zero
      first r = omega arith
  every_place rows zero (key ∷ keys) (suc i) some =
      every_place rows (rows - 1) keys i some ∙ ap (slice_get (key ∷ keys)) (next i rows some)
    where
      added : (m r : ℕ) → 1 ≤ r → suc (m + (r - 1)) ≡ m + r + zero
      added m r h = omega (arith, h)

      next : (i r : ℕ) → 1 ≤ r → suc (i * r + (r - 1)) ≡ suc i * r + zero
      next i r h = added (i * r) r h ∙ ap (λ n. n + zero) (sym (suc-mul i r))
  every_place rows (suc passed) (key ∷ keys) i some =
      every_place rows passed keys i some ∙ ap (slice_get (key ∷ keys)) (next (i * rows) passed)
    where
      next : (m p : ℕ) → suc (m + p) ≡ m + suc p
      next m p = omega arith

  pub bound_place : (rows : ℕ) (keys : List K) (i : ℕ) → 1 ≤ rows → slice_get (bounds_of rows keys) i ≡ slice_get keys (i * rows + (rows - 1))
  bound_place rows keys i some = every_place rows (rows - 1) keys i some

  -- the lower bound of a chunk
  abbrev pub begins : Option K → List K → ℕ → Option K
  begins above bounds zero = above
  begins above bounds (suc i) = slice_get bounds i

  pub chunk_at : (above : Option K) (bounds : List K) (i : ℕ) → i ≤ length bounds
      → slice_get (chunks_above above bounds) i ≡ Some (record { above = begins above bounds i; upto = slice_get bounds i })
  chunk_at above [] zero h = refl
  chunk_at above [] (suc i) h = absurd (omega (arith, h))
  chunk_at above (bound ∷ bounds) zero h = refl
  chunk_at above (bound ∷ bounds) (suc i) h =
      chunk_at (Some bound) bounds i (omega (arith, h)) ∙ ap (λ (least : Option K). Some (record { above = least; upto = slice_get bounds i })) (same i)
    where
      same : (i : ℕ) → begins (Some bound) bounds i ≡ slice_get (bound ∷ bounds) i
      same zero = refl
      same (suc i) = refl

  pub chunks_length : (above : Option K) (bounds : List K) → length (chunks_above above bounds) ≡ length bounds + 1
  chunks_length above [] = refl
  chunks_length above (bound ∷ bounds) = ap suc (chunks_length (Some bound) bounds) ∙ next (length bounds)
    where
      next : (n : ℕ) → suc (n + 1) ≡ suc n + 1
      next n = omega arith

  -- a place that is there after some others are left out
  pub get_drop : (keys : List K) (n i : ℕ) → slice_get (drop n keys) i ≡ slice_get keys (n + i)
  get_drop keys zero i = ap (slice_get keys) (same i)
    where
      same : (i : ℕ) → i ≡ zero + i
      same i = omega arith
  get_drop [] (suc n) i = refl
  get_drop (key ∷ keys) (suc n) i = get_drop keys n i ∙ ap (slice_get (key ∷ keys)) (next n i)
    where
      next : (n i : ℕ) → suc (n + i) ≡ suc n + i
      next n i = omega arith

  there : (keys : List K) (i : ℕ) → i < length keys → slice_get keys i ≡ None → ⊥
  there [] i h e = omega (arith, h)
  there (key ∷ keys) zero h e = cc
  there (key ∷ keys) (suc i) h e = there keys i (omega (arith, h)) e

module _ {K : Type 0} (before : K → K → Bool) (order : IsOrder before) where
  rises_drop : (n : ℕ) (keys : List K) → Rises before keys → Rises before (drop n keys)
  rises_drop zero keys h = h
  rises_drop (suc n) [] h = tt
  rises_drop (suc n) (key ∷ keys) h = rises_drop n keys h.1

  first_of_every : (rows passed : ℕ) (key : K) (keys : List K) → IsFirst before key keys → IsFirst before key (every_after rows passed keys)
  first_of_every rows passed key [] h = tt
  first_of_every rows zero key (next ∷ keys) h = (h.0, first_of_every rows (rows - 1) key keys h.1)
  first_of_every rows (suc passed) key (next ∷ keys) h = first_of_every rows passed key keys h.1

  pub every_rises : (rows passed : ℕ) (keys : List K) → Rises before keys → Rises before (every_after rows passed keys)
  every_rises rows passed [] h = tt
  every_rises rows zero (key ∷ keys) h = (first_of_every rows (rows - 1) key keys h.0, every_rises rows (rows - 1) keys h.1)
  every_rises rows (suc passed) (key ∷ keys) h = every_rises rows passed keys h.1

  -- the keys after the lower bound of a chunk
  pub after_begin : (rows : ℕ) (keys : List K) (i : ℕ) → 1 ≤ rows → Rises before keys → i ≤ length (bounds_of rows keys)
      → filter (after before (begins None (bounds_of rows keys) i)) keys ≡ drop (i * rows) keys
  after_begin rows keys zero some rise within = after_none before order keys ∙ ap (λ n. drop n keys) (none rows)
    where
      none : (r : ℕ) → zero ≡ zero * r
      none r = omega arith
  after_begin rows keys (suc i) some rise within = at (slice_get keys (i * rows + (rows - 1))) refl (bound_place rows keys i some)
    where
      bounds : List K
      bounds = bounds_of rows keys

      next : (m r : ℕ) → 1 ≤ r → suc (m + (r - 1)) ≡ m + r
      next m r h = omega (arith, h)

      at : (found : Option K) → slice_get keys (i * rows + (rows - 1)) ≡ found → slice_get (bounds_of rows keys) i ≡ slice_get keys (i * rows + (rows - 1))
          → filter (after before (slice_get (bounds_of rows keys) i)) keys ≡ drop (suc i * rows) keys
      at None e is = absurd (there (bounds_of rows keys) i (omega (arith, within)) (is ∙ e))
      at (Some bound) e is =
          ap (λ (least : Option K). filter (after before least) keys) (is ∙ e)
          ∙ (after_place before order keys (i * rows + (rows - 1)) bound rise e ∙ ap (λ n. drop n keys) (next (i * rows) rows some ∙ sym (suc-mul i rows)))

  -- the keys of a chunk
  pub chunk_keys : (rows : ℕ) (keys : List K) (i : ℕ) → 1 ≤ rows → Rises before keys → i ≤ length (bounds_of rows keys)
      → keys_in (held before) keys (record { above = begins None (bounds_of rows keys) i; upto = slice_get (bounds_of rows keys) i }) ≡ take rows (drop (i * rows) keys)
  chunk_keys rows keys i some rise within =
      filter_both (after before (begins None (bounds_of rows keys) i)) (not_after before (slice_get (bounds_of rows keys) i)) keys
      ∙ (ap (filter (not_after before (slice_get (bounds_of rows keys) i))) (after_begin rows keys i some rise within)
      ∙ (ap (λ (most : Option K). filter (not_after before most) (drop (i * rows) keys)) (bound_place rows keys i some ∙ sym (get_drop keys (i * rows) (rows - 1)))
      ∙ (up_to_place before order (drop (i * rows) keys) (rows - 1) (rises_drop (i * rows) keys rise)
      ∙ ap (λ n. take n (drop (i * rows) keys)) (whole rows some))))
    where
      whole : (r : ℕ) → 1 ≤ r → suc (r - 1) ≡ r
      whole r h = omega (arith, h)

  each : (rows : ℕ) (keys : List K) (i : ℕ) → 1 ≤ rows → Rises before keys → i ≤ length (bounds_of rows keys)
      → slice_get (map (keys_in (held before) keys) (chunks_of rows keys)) i ≡ Some (take rows (drop (i * rows) keys))
  each rows keys i some rise within =
      slice_get-map (keys_in (held before) keys) (chunks_of rows keys) i
      ∙ (ap (option_map (keys_in (held before) keys)) (chunk_at None (bounds_of rows keys) i within) ∙ ap Some (chunk_keys rows keys i some rise within))

  -- a chunk ends at the r-th key above its lower bound
  next : (rows : ℕ) (keys : List K) (i : ℕ) → 1 ≤ rows → Rises before keys → i ≤ length (bounds_of rows keys)
      → slice_get (map (λ chunk. slice_get (keys_in (held before) keys (without_upto chunk)) (rows - 1)) (chunks_of rows keys)) i
      ≡ slice_get (map (λ chunk. chunk.upto) (chunks_of rows keys)) i
  next rows keys i some rise within =
      slice_get-map (λ chunk. slice_get (keys_in (held before) keys (without_upto chunk)) (rows - 1)) (chunks_of rows keys) i
      ∙ (ap (option_map (λ chunk. slice_get (keys_in (held before) keys (without_upto chunk)) (rows - 1))) (chunk_at None (bounds_of rows keys) i within)
      ∙ (ap (λ (l : List K). Some (slice_get l (rows - 1))) (filter_both (after before (begins None (bounds_of rows keys) i)) (λ key. true) keys ∙ (after_none before order _ ∙ after_begin rows keys i some rise within))
      ∙ (ap Some (get_drop keys (i * rows) (rows - 1) ∙ sym (bound_place rows keys i some))
      ∙ (ap (option_map (λ chunk. chunk.upto)) (sym (chunk_at None (bounds_of rows keys) i within))
      ∙ sym (slice_get-map (λ chunk. chunk.upto) (chunks_of rows keys) i)))))

  -- so many keys are there
  enough : (rows : ℕ) (keys : List K) (i : ℕ) → i < length keys / rows → length (take rows (drop (i * rows) keys)) ≡ rows
  enough rows keys i within =
      length-take rows (drop (i * rows) keys)
      ∙ (ap (min rows) (length-drop (i * rows) keys) ∙ least rows (length keys) (i * rows) (subst (λ n. n ≤ length keys) (suc-mul i rows) (joined (mul-le-mul_right rows within) (div-mul-le_self (length keys) rows))))
    where
      joined : {a b c : ℕ} → a ≤ b → b ≤ c → a ≤ c
      joined h k = omega (arith, h, k)

      least : (r n m : ℕ) → m + r ≤ n → min r (n - m) ≡ r
      least r n m h = omega (arith, h)

  pub cut : (rows : ℕ) (keys : List K) → 1 ≤ rows → Rises before keys → AreCut (held before) rows keys
  cut rows keys some rise = record {
    bounds = bounds_length rows keys some;
    bound = λ i. bound_place rows keys i some;
    chunks = chunks_length None (bounds_of rows keys) ∙ ap (λ n. n + 1) (bounds_length rows keys some);
    next = λ i within. next rows keys i some rise (inside i within);
    all = all_held before order None (bounds_of rows keys) keys tt (every_rises rows (rows - 1) keys rise) rise ∙ after_none before order keys;
    full = λ i within.
        slice_get-map (λ chunk. length (keys_in (held before) keys chunk)) (chunks_of rows keys) i
        ∙ (ap (option_map (λ chunk. length (keys_in (held before) keys chunk))) (chunk_at None (bounds_of rows keys) i (inside i (weaker within)))
        ∙ ap Some (ap length (chunk_keys rows keys i some rise (inside i (weaker within))) ∙ enough rows keys i within));
    each = λ i within. each rows keys i some rise (inside i within);
  }
    where
      inside : (i : ℕ) → i ≤ length keys / rows → i ≤ length (bounds_of rows keys)
      inside i within = subst (λ n. i ≤ n) (sym (bounds_length rows keys some)) within

      weaker : {a b : ℕ} → a < b → a ≤ b
      weaker h = omega (arith, h)
