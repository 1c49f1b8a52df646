-- Chunks of a table's rows by its key: ranges of keys that follow one another, and the bounds between them (MySQL 8.0 Reference Manual, 10.2.1.2 "Range Optimization").
use Rattle.std.specs.Prelude.{ℕ, zero, suc, ◌-◌, ℤ, Bool, List, [], ◌∷◌, Option, Some, None, filter}
use Rattle.honest_server.specs.Answer.{is_between}
use Rattle.honest_server.specs.WideKey.{is_within}
use Rattle.chunk_forms.specs.declared.key_range.KeyRange.{KeyRange}

-- a key of one column is in the range, as in that of a query
abbrev pub holds : KeyRange ℤ → ℤ → Bool
holds range key = is_between (record { above = range.above; up_to = range.upto }) (Some key)

-- the same of a key of several columns
abbrev pub holds_wide : KeyRange (List ℤ) → List ℤ → Bool
holds_wide range key = is_within (record { above = range.above; up_to = range.upto }) (Some key)

-- the chunks from a lower bound on: each begins above the bound at which the one before ends, and the last has no upper bound
abbrev pub chunks_above : {K : Type 0} → Option K → List K → List (KeyRange K)
chunks_above above [] = record { above = above; upto = None } ∷ []
chunks_above above (bound ∷ bounds) =
    record { above = above; upto = Some bound } ∷ chunks_above (Some bound) bounds

-- the chunks between bounds: the first has no lower bound
abbrev pub chunks_between : {K : Type 0} → List K → List (KeyRange K)
chunks_between bounds = chunks_above None bounds

-- every r-th key, where so many are passed over before the first
abbrev pub every_after : {K : Type 0} → ℕ → ℕ → List K → List K
every_after rows passed [] = []
every_after rows zero (key ∷ keys) = key ∷ every_after rows (rows - 1) keys
every_after rows (suc passed) (key ∷ keys) = every_after rows passed keys

-- the bounds of chunks of r rows: every r-th key
abbrev pub bounds_of : {K : Type 0} → ℕ → List K → List K
bounds_of rows keys = every_after rows (rows - 1) keys

-- the chunks of r rows
abbrev pub chunks_of : {K : Type 0} → ℕ → List K → List (KeyRange K)
chunks_of rows keys = chunks_between (bounds_of rows keys)

-- the keys that a chunk holds
abbrev pub keys_in : {K : Type 0} → (KeyRange K → K → Bool) → List K → KeyRange K → List K
keys_in is_in keys chunk = filter (is_in chunk) keys

-- the range above the same bound, without an upper bound
abbrev pub without_upto : {K : Type 0} → KeyRange K → KeyRange K
without_upto chunk = record { above = chunk.above; upto = None }
