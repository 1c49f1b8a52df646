-- Laws of chunks. The functions of src/laws.rt are their proofs.
use Rattle.std.specs.Prelude.{ℕ, ◌≡◌, ◌≤◌, ◌<◌, ◌+◌, ◌-◌, ◌*◌, ◌/◌, ℤ, Bool, true, List, length, map, take, drop, slice_get, Some, flat_map, count_by}
use Rattle.honest_server.specs.Answer.{keys_rise}
use Rattle.honest_server.specs.WideKey.{wide_keys_rise}
use Rattle.chunk_forms.specs.Chunk.{bounds_of, chunks_between, chunks_of, holds, holds_wide, keys_in, without_upto}
use Rattle.chunk_forms.specs.declared.key_range.KeyRange.{KeyRange}

-- each key is less than the next
abbrev pub Rise : List ℤ → Type 0
Rise keys = keys_rise (map Some keys) ≡ true

-- each key of several columns comes before the next
abbrev pub WideRise : List (List ℤ) → Type 0
WideRise keys = wide_keys_rise (map Some keys) ≡ true

-- exactly one of the chunks between the bounds holds the key
abbrev pub IsInOneChunk : {K : Type 0} → (KeyRange K → K → Bool) → List K → K → Type 0
IsInOneChunk is_in bounds key = count_by (λ chunk. is_in chunk key) (chunks_between bounds) ≡ 1

-- keys cut into chunks of r rows: for n keys there are n / r bounds, and one chunk more
pub record AreCut {K : Type 0} (is_in : KeyRange K → K → Bool) (rows : ℕ)
    (keys : List K) : Type 0 where
  pub bounds : length (bounds_of rows keys) ≡ length keys / rows
  pub chunks : length (chunks_of rows keys) ≡ length keys / rows + 1
  -- bound i, from 0 on, is the last of the keys from number i * r on, r of them
  pub bound : (i : ℕ) → slice_get (bounds_of rows keys) i ≡ slice_get keys (i * rows + (rows - 1))
  -- a chunk ends at the r-th key above its lower bound, where there is one
  pub next : (i : ℕ) → i ≤ length keys / rows →
      slice_get (map (λ chunk. slice_get (keys_in is_in keys (without_upto chunk)) (rows - 1))
      (chunks_of rows keys)) i ≡ slice_get (map (λ chunk. chunk.upto) (chunks_of rows keys)) i
  -- no key is lost, and none comes twice
  pub all : flat_map (keys_in is_in keys) (chunks_of rows keys) ≡ keys
  -- each chunk but the last has r keys
  pub full : (i : ℕ) → i < length keys / rows →
      slice_get (map (λ chunk. length (keys_in is_in keys chunk)) (chunks_of rows keys)) i
      ≡ Some rows
  -- chunk i has the keys from number i * r on, r of them or what is left
  pub each : (i : ℕ) → i ≤ length keys / rows →
      slice_get (map (keys_in is_in keys) (chunks_of rows keys)) i
      ≡ Some (take rows (drop (i * rows) keys))

-- of the chunks between bounds that rise, exactly one holds a key
abbrev pub KeysAreInOneChunk : Type 0
KeysAreInOneChunk = (bounds : List ℤ) (key : ℤ) → Rise bounds → IsInOneChunk holds bounds key

-- the same of keys of several columns
abbrev pub WideKeysAreInOneChunk : Type 0
WideKeysAreInOneChunk = (bounds : List (List ℤ)) (key : List ℤ) → WideRise bounds →
    IsInOneChunk holds_wide bounds key

-- keys that rise are cut into chunks of r rows, if r is 1 at least
abbrev pub KeysAreCut : Type 0
KeysAreCut = (rows : ℕ) (keys : List ℤ) → 1 ≤ rows → Rise keys → AreCut holds rows keys

-- the same of keys of several columns
abbrev pub WideKeysAreCut : Type 0
WideKeysAreCut = (rows : ℕ) (keys : List (List ℤ)) → 1 ≤ rows → WideRise keys →
    AreCut holds_wide rows keys

-- the bounds of keys that rise do so too
abbrev pub BoundsRise : Type 0
BoundsRise = (rows : ℕ) (keys : List ℤ) → Rise keys → Rise (bounds_of rows keys)

-- the same of keys of several columns
abbrev pub WideBoundsRise : Type 0
WideBoundsRise = (rows : ℕ) (keys : List (List ℤ)) → WideRise keys →
    WideRise (bounds_of rows keys)
