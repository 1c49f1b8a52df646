-- Chunks that end at bounds, with one bound more, and with the open chunk after them.
use Rattle.std.proofs.Common.{◌≡◌, ℕ, suc, ◌+◌, ◌-◌, refl, ap, sym, ◌∙◌, arith, List, [], ◌∷◌, ◌++◌, Option, Some, None, length, length-append}
use Rattle.std.specs.Prelude.{slice_get}
use Rattle.std.proofs.lemmas.List.Elements.{filter_map-append}
use Rattle.chunk_forms.specs.Chunk.{chunks_above, chunks_between}
use Rattle.chunk_forms.specs.declared.key_range.KeyRange.{KeyRange}
use Rattle.key_chunks.specs.Builder.{AreEnded, ended_at, upper_bounds}

module _ {K : Type 0} where
  -- the last of the bounds, or the one before them
  last_from : Option K → List K → Option K
  last_from above [] = above
  last_from above (bound ∷ bounds) = last_from (Some bound) bounds

  last_get : (bound : K) (bounds : List K) → last_from (Some bound) bounds ≡ slice_get (bound ∷ bounds) (length bounds)
  unfolding last_from
  last_get bound [] = refl
  last_get bound (next ∷ bounds) = last_get next bounds

  last_of : (bounds : List K) → last_from None bounds ≡ slice_get bounds (length bounds - 1)
  unfolding last_from
  last_of [] = refl
  last_of (bound ∷ bounds) = last_get bound bounds ∙ ap (slice_get (bound ∷ bounds)) (less (length bounds))
    where
      less : (n : ℕ) → n ≡ suc n - 1
      less n = omega arith

  one_more : (above : Option K) (bounds : List K) (bound : K)
      → ended_at above (bounds ++ bound ∷ []) ≡ ended_at above bounds ++ record { above = last_from above bounds; upto = Some bound } ∷ []
  unfolding last_from
  one_more above [] bound = refl
  one_more above (first ∷ bounds) bound = ap (λ (l : List (KeyRange K)). record { above = above; upto = Some first } ∷ l) (one_more (Some first) bounds bound)

  with_open : (above : Option K) (bounds : List K) → chunks_above above bounds ≡ ended_at above bounds ++ record { above = last_from above bounds; upto = None } ∷ []
  unfolding last_from
  with_open above [] = refl
  with_open above (first ∷ bounds) = ap (λ (l : List (KeyRange K)). record { above = above; upto = Some first } ∷ l) (with_open (Some first) bounds)

  ended_length : (above : Option K) (bounds : List K) → length (ended_at above bounds) ≡ length bounds
  ended_length above [] = refl
  ended_length above (bound ∷ bounds) = ap suc (ended_length (Some bound) bounds)

  at_end : (bounds : List K) (bound : K) → slice_get (bounds ++ bound ∷ []) (length bounds) ≡ Some bound
  at_end [] bound = refl
  at_end (first ∷ bounds) bound = at_end bounds bound

  -- there are as many chunks as bounds
  pub bound_count : {ended : List (KeyRange K)} {last : Option K} → AreEnded ended last → length ended ≡ length (upper_bounds ended)
  bound_count {ended} so = ap length so.follow ∙ ended_length None (upper_bounds ended)

  -- a chunk more gives its bound
  pub bounds_after : (ended : List (KeyRange K)) (last : Option K) (bound : K) → upper_bounds (ended ++ record { above = last; upto = Some bound } ∷ []) ≡ upper_bounds ended ++ bound ∷ []
  bounds_after ended last bound = filter_map-append (λ chunk. chunk.upto) ended (record { above = last; upto = Some bound } ∷ [])

  -- chunks that end at bounds do so with a chunk more
  pub ended_after : (ended : List (KeyRange K)) (last : Option K) (bound : K) → AreEnded ended last → AreEnded (ended ++ record { above = last; upto = Some bound } ∷ []) (Some bound)
  ended_after ended last bound so = record {
    follow =
        ap (λ (l : List (KeyRange K)). l ++ record { above = last; upto = Some bound } ∷ []) so.follow
        ∙ (ap (λ (least : Option K). ended_at None (upper_bounds ended) ++ record { above = least; upto = Some bound } ∷ []) (so.last_is ∙ sym (last_of (upper_bounds ended)))
        ∙ (sym (one_more None (upper_bounds ended) bound) ∙ ap (ended_at None) (sym (bounds_after ended last bound))));
    last_is =
        sym (at_end (upper_bounds ended) bound)
        ∙ (ap (slice_get (upper_bounds ended ++ bound ∷ [])) (size (length (upper_bounds ended)) ∙ ap (λ n. n - 1) (sym (length-append (upper_bounds ended) (bound ∷ []))))
        ∙ ap (λ (l : List K). slice_get l (length l - 1)) (sym (bounds_after ended last bound)));
  }
    where
      size : (n : ℕ) → n ≡ n + 1 - 1
      size n = omega arith

  -- with the open chunk they are the chunks between their bounds
  pub whole : (ended : List (KeyRange K)) (last : Option K) → AreEnded ended last → ended ++ record { above = last; upto = None } ∷ [] ≡ chunks_between (upper_bounds ended)
  whole ended last so =
      ap (λ (l : List (KeyRange K)). l ++ record { above = last; upto = None } ∷ []) so.follow
      ∙ (ap (λ (least : Option K). ended_at None (upper_bounds ended) ++ record { above = least; upto = None } ∷ []) (so.last_is ∙ sym (last_of (upper_bounds ended)))
      ∙ sym (with_open None (upper_bounds ended)))
