-- What an honest server answers to the queries of chunks (MySQL 8.0 Reference Manual, 15.2.13 "SELECT Statement"). The functions of src/lib.rt are the proofs.
use Rattle.std.specs.Prelude.{ℕ, ◌≡◌, ◌≤◌, ◌-◌, ◌*◌, ℤ, List, map, take, drop, slice_get, Some, option_and_then}
use Rattle.chunk_forms.specs.Chunk.{chunks_of, without_upto}
use Rattle.chunk_forms.specs.declared.key_range.KeyRange.{KeyRange}
use Rattle.honest_server.specs.Answer.{AreInOrder, Bounds, everything}
use Rattle.honest_server.specs.Columns.{integer_at}
use Rattle.honest_server.specs.WideKey.{AreInWideOrder, WideBounds, integers_at, no_bounds}
use Rattle.server_data.specs.declared.data.Database.{Database}
use Rattle.server_data.specs.declared.data.Object.{Object}
use Rattle.sql_cells.specs.declared.cell.Cell.{Cell}

-- the bounds of the query of a chunk
abbrev pub chunk_bounds : KeyRange ℤ → Bounds
chunk_bounds chunk = record { above = chunk.above; up_to = chunk.upto }

-- the same of a chunk by a key of several columns
abbrev pub wide_chunk_bounds : KeyRange (List ℤ) → WideBounds
wide_chunk_bounds chunk = record { above = chunk.above; up_to = chunk.upto }

-- all rows of a table in the order of its key
pub record AllInOrder (database : Database) (object : Object) (index : ℕ)
    (whole : List (List Cell)) : Type 0 where
  pub in_order : AreInOrder database object index everything whole
  pub keys : List ℤ
  pub keys_are : map (integer_at object.columns index) whole ≡ map Some keys

-- the same by a wide key
pub record AllInWideOrder (database : Database) (object : Object) (indices : List ℕ)
    (whole : List (List Cell)) : Type 0 where
  pub in_order : AreInWideOrder database object indices no_bounds whole
  pub keys : List (List ℤ)
  pub keys_are : map (integers_at object.columns indices) whole ≡ map Some keys

-- the query of chunk i is answered by the rows from number i * rows on, so many or what is left
abbrev pub ChunksAnswerInTurn : Type 0
ChunksAnswerInTurn = (database : Database) (object : Object) (index : ℕ)
    (whole : List (List Cell)) (all : AllInOrder database object index whole) (rows : ℕ)
    → 1 ≤ rows → (i : ℕ) (chunk : KeyRange ℤ) → slice_get (chunks_of rows all.keys) i ≡ Some chunk
    → (found : List (List Cell)) → AreInOrder database object index (chunk_bounds chunk) found
    → found ≡ take rows (drop (i * rows) whole)

-- the same by a wide key
abbrev pub WideChunksAnswerInTurn : Type 0
WideChunksAnswerInTurn = (database : Database) (object : Object) (indices : List ℕ)
    (whole : List (List Cell)) (all : AllInWideOrder database object indices whole) (rows : ℕ)
    → 1 ≤ rows → (i : ℕ) (chunk : KeyRange (List ℤ))
    → slice_get (chunks_of rows all.keys) i ≡ Some chunk → (found : List (List Cell))
    → AreInWideOrder database object indices (wide_chunk_bounds chunk) found
    → found ≡ take rows (drop (i * rows) whole)

-- the query for the row after rows - 1 others above the lower bound of chunk i finds the key that is its upper bound, and none where it has none
abbrev pub KeysAnswerBounds : Type 0
KeysAnswerBounds = (database : Database) (object : Object) (index : ℕ) (whole : List (List Cell))
    (all : AllInOrder database object index whole) (rows : ℕ)
    → 1 ≤ rows → (i : ℕ) (chunk : KeyRange ℤ) → slice_get (chunks_of rows all.keys) i ≡ Some chunk
    → (found : List (List Cell))
    → AreInOrder database object index (chunk_bounds (without_upto chunk)) found
    → option_and_then (integer_at object.columns index) (slice_get found (rows - 1)) ≡ chunk.upto

-- the same by a wide key
abbrev pub WideKeysAnswerBounds : Type 0
WideKeysAnswerBounds = (database : Database) (object : Object) (indices : List ℕ)
    (whole : List (List Cell)) (all : AllInWideOrder database object indices whole) (rows : ℕ)
    → 1 ≤ rows → (i : ℕ) (chunk : KeyRange (List ℤ))
    → slice_get (chunks_of rows all.keys) i ≡ Some chunk → (found : List (List Cell))
    → AreInWideOrder database object indices (wide_chunk_bounds (without_upto chunk)) found
    → option_and_then (integers_at object.columns indices) (slice_get found (rows - 1))
    ≡ chunk.upto
