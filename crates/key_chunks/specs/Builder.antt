-- What a builder of chunks holds.
use Rattle.std.specs.Prelude.{◌≡◌, ◌-◌, List, [], ◌∷◌, Option, Some, None, length, slice_get, filter_map}
use Rattle.chunk_forms.specs.declared.key_range.KeyRange.{KeyRange}

-- the upper bounds of chunks, as far as they have any
abbrev pub upper_bounds : {K : Type 0} → List (KeyRange K) → List K
upper_bounds chunks = filter_map (λ chunk. chunk.upto) chunks

-- the chunks that end at the bounds, from a lower bound on
abbrev pub ended_at : {K : Type 0} → Option K → List K → List (KeyRange K)
ended_at above [] = []
ended_at above (bound ∷ bounds) =
    record { above = above; upto = Some bound } ∷ ended_at (Some bound) bounds

-- the chunks are those that end at their upper bounds, and the last of these bounds is known
pub record AreEnded {K : Type 0} (ended : List (KeyRange K)) (last : Option K) : Type 0 where
  pub follow : ended ≡ ended_at None (upper_bounds ended)
  pub last_is : last ≡ slice_get (upper_bounds ended) (length (upper_bounds ended) - 1)
