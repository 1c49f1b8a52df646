-- The answers to the queries of chunks, for keys of one column and of several.
use Rattle.std.proofs.Common.{◌≡◌, ℕ, ◌+◌, ◌*◌, ◌<◌, ◌≤◌, refl, ap, sym, ◌∙◌, subst, arith, Bool, true, false, cond, ◌&&◌, List, [], ◌∷◌, Option, Some, None, length, map, take, drop, filter}
use Rattle.std.specs.Prelude.{◌-◌, ℤ, int_lt, option_and_then, slice_get}
use Rattle.std.proofs.lemmas.Bool.{false≢true}
use Rattle.std.proofs.lemmas.Option.{slice_get_within}
use Rattle.plain_data.proofs.Options.{same_some}
use Rattle.chunk_forms.specs.Chunk.{bounds_of, chunks_of, without_upto}
use Rattle.chunk_forms.specs.declared.key_range.KeyRange.{KeyRange}
use Rattle.chunk_forms.proofs.Cuts.{begins, chunk_at, chunks_length}
use Rattle.chunk_forms.proofs.KeyKinds.{holds_so, holds_wide_so}
use Rattle.chunk_forms.proofs.Orders.{IsOrder, Rises, int_order, rises, rises_all, wide_order}
use Rattle.honest_server.specs.Answer.{everything, is_between, keys_rise}
use Rattle.honest_server.specs.Columns.{integer_at}
use Rattle.honest_server.specs.WideKey.{comes_first, integers_at, is_within, no_bounds, wide_keys_rise}
use Rattle.server_data.specs.Bag.{count_of}
use Rattle.server_data.specs.Fold.{rows_of}
use Rattle.sql_cells.specs.declared.cell.Cell.{Cell}
use Rattle.chunk_rows.specs.ChunkRows.{ChunksAnswerInTurn, KeysAnswerBounds, WideChunksAnswerInTurn, WideKeysAnswerBounds, chunk_bounds, wide_chunk_bounds}
use Rattle.chunk_rows.proofs.Bags.{count_filter, filter_rises, in_one_order}
use Rattle.chunk_rows.proofs.RowOrders.{bound_found, by_key, row_order, rows_above, rows_of_chunk, within}

module _ {N : Type 0} (less : N → N → Bool) (order : IsOrder less) (key : List Cell → Option N) where
  chunk_is : (rows : ℕ) (keys : List N) (i : ℕ) (chunk : KeyRange N) → slice_get (chunks_of rows keys) i ≡ Some chunk
      → (i ≤ length (bounds_of rows keys)) × (record { above = begins None (bounds_of rows keys) i; upto = slice_get (bounds_of rows keys) i } ≡ chunk)
  chunk_is rows keys i chunk is =
      let inside = fewer (subst (λ n. i < n) (chunks_length None (bounds_of rows keys)) (slice_get_within (chunks_of rows keys) i chunk is)) in
      (inside, same_some (sym (chunk_at None (bounds_of rows keys) i inside) ∙ is))
    where
      fewer : {a b : ℕ} → a < b + 1 → a ≤ b
      fewer h = omega (arith, h)

  -- rows that rise, and of which there are as many as of those of the table that pass the chunk's test
  answer_is : (test all : Option N → Bool) → ((o : Option N) → test o ≡ true → all o ≡ true)
      → (table whole found : List (List Cell))
      → ((row : List Cell) → count_of row whole ≡ count_of row (filter (λ one. all (key one)) table))
      → ((row : List Cell) → count_of row found ≡ count_of row (filter (λ one. test (key one)) table))
      → Rises (λ (one other : List Cell). by_key less (key one) (key other)) whole → Rises (λ (one other : List Cell). by_key less (key one) (key other)) found
      → found ≡ filter (λ one. test (key one)) whole
  answer_is test all part table whole found of_whole of_found rise found_rise =
      in_one_order (λ (one other : List Cell). by_key less (key one) (key other)) (row_order less order key) found (filter (λ one. test (key one)) whole) found_rise
      (filter_rises (λ (one other : List Cell). by_key less (key one) (key other)) (row_order less order key) (λ one. test (key one)) whole rise)
      (λ row. of_found row ∙ (count_filter (λ one. test (key one)) row table ∙ (as_many row (test (key row)) refl ∙ sym (count_filter (λ one. test (key one)) row whole))))
    where
      as_many : (row : List Cell) (b : Bool) → test (key row) ≡ b → cond (test (key row)) (count_of row table) 0 ≡ cond (test (key row)) (count_of row whole) 0
      as_many row true is =
          ap (λ n. cond (test (key row)) n 0) (sym (of_whole row ∙ (count_filter (λ one. all (key one)) row table ∙ ap (λ b. cond b (count_of row table) 0) (part (key row) is))))
      as_many row false is = ap (λ b. cond b (count_of row table) 0) is ∙ sym (ap (λ b. cond b (count_of row whole) 0) is)

  in_turn : (test : KeyRange N → Option N → Bool) → ((chunk : KeyRange N) (o : Option N) → test chunk o ≡ within less chunk o)
      → (whole : List (List Cell)) (keys : List N) → map key whole ≡ map Some keys → Rises (λ (one other : List Cell). by_key less (key one) (key other)) whole
      → (rows : ℕ) → 1 ≤ rows → (i : ℕ) (chunk : KeyRange N) → slice_get (chunks_of rows keys) i ≡ Some chunk
      → filter (λ one. test chunk (key one)) whole ≡ take rows (drop (i * rows) whole)
  in_turn test agrees whole keys same rise rows some i chunk is =
      let parts = chunk_is rows keys i chunk is in
      alike whole ∙ (ap (λ (c : KeyRange N). filter (λ one. within less c (key one)) whole) (sym parts.1) ∙ rows_of_chunk less key order rows whole keys some same rise i parts.0)
    where
      alike : (xs : List (List Cell)) → filter (λ one. test chunk (key one)) xs ≡ filter (λ one. within less chunk (key one)) xs
      alike [] = refl
      alike (x ∷ xs) = ap (λ b. cond b (x ∷ filter (λ one. test chunk (key one)) xs) (filter (λ one. test chunk (key one)) xs)) (agrees chunk (key x)) ∙ ap (λ (l : List (List Cell)). cond (within less chunk (key x)) (x ∷ l) l) (alike xs)

  bound_in_turn : (test : KeyRange N → Option N → Bool) → ((chunk : KeyRange N) (o : Option N) → test chunk o ≡ within less chunk o)
      → (whole : List (List Cell)) (keys : List N) → map key whole ≡ map Some keys → Rises (λ (one other : List Cell). by_key less (key one) (key other)) whole
      → (rows : ℕ) → 1 ≤ rows → (i : ℕ) (chunk : KeyRange N) → slice_get (chunks_of rows keys) i ≡ Some chunk
      → option_and_then key (slice_get (filter (λ one. test (without_upto chunk) (key one)) whole) (rows - 1)) ≡ chunk.upto
  bound_in_turn test agrees whole keys same rise rows some i chunk is =
      let parts = chunk_is rows keys i chunk is in
      ap (λ (l : List (List Cell)). option_and_then key (slice_get l (rows - 1)))
      (alike whole ∙ (ap (λ (c : KeyRange N). filter (λ one. within less (without_upto c) (key one)) whole) (sym parts.1) ∙ rows_above less key order rows whole keys some same rise i parts.0))
      ∙ (bound_found less key rows whole keys some same i ∙ ap (λ (c : KeyRange N). c.upto) parts.1)
    where
      alike : (xs : List (List Cell)) → filter (λ one. test (without_upto chunk) (key one)) xs ≡ filter (λ one. within less (without_upto chunk) (key one)) xs
      alike [] = refl
      alike (x ∷ xs) = ap (λ b. cond b (x ∷ filter (λ one. test (without_upto chunk) (key one)) xs) (filter (λ one. test (without_upto chunk) (key one)) xs)) (agrees (without_upto chunk) (key x)) ∙ ap (λ (l : List (List Cell)). cond (within less (without_upto chunk) (key x)) (x ∷ l) l) (alike xs)

-- keys of one column

rise_so : (key : List Cell → Option ℤ) (rows : List (List Cell)) → keys_rise (map key rows) ≡ rises (λ (one other : List Cell). by_key int_lt (key one) (key other)) rows
rise_so key [] = refl
rise_so key (one ∷ []) = refl
rise_so key (one ∷ next ∷ rows) = step (key one) (key next) refl (rise_so key (next ∷ rows))
  where
    step : (o u : Option ℤ) → key next ≡ u → keys_rise (map key (next ∷ rows)) ≡ rises (λ (one other : List Cell). by_key int_lt (key one) (key other)) (next ∷ rows)
        → keys_rise (o ∷ u ∷ map key rows) ≡ (by_key int_lt o u && rises (λ (one other : List Cell). by_key int_lt (key one) (key other)) (next ∷ rows))
    step None u is rest = refl
    step (Some a) None is rest = refl
    step (Some a) (Some b) is rest = ap (λ t. int_lt a b && t) (ap (λ (o : Option ℤ). keys_rise (o ∷ map key rows)) (sym is) ∙ rest)

agrees : (chunk : KeyRange ℤ) (o : Option ℤ) → is_between (chunk_bounds chunk) o ≡ within int_lt chunk o
agrees chunk None = refl
agrees chunk (Some key) = ap (λ (h : KeyRange ℤ → ℤ → Bool). h chunk key) (sym holds_so)

part : (chunk : KeyRange ℤ) (o : Option ℤ) → is_between (chunk_bounds chunk) o ≡ true → is_between everything o ≡ true
part chunk None e = absurd (false≢true e)
part chunk (Some key) e = refl

pub chunks_in_turn : ChunksAnswerInTurn
chunks_in_turn database object index whole all rows some i chunk is found answers =
    let key = integer_at object.columns index in
    let rise = rises_all (λ (one other : List Cell). by_key int_lt (key one) (key other)) (row_order int_lt int_order key) in
    let whole_rise = rise whole (sym (rise_so key whole) ∙ all.in_order.rise) in
    answer_is int_lt int_order key (is_between (chunk_bounds chunk)) (is_between everything) (part chunk) (rows_of database object.schema object.name) whole found
    all.in_order.same.counts answers.same.counts whole_rise (rise found (sym (rise_so key found) ∙ answers.rise))
    ∙ in_turn int_lt int_order key (λ c. is_between (chunk_bounds c)) agrees whole all.keys all.keys_are whole_rise rows some i chunk is

-- keys of several columns

wide_rise_so : (key : List Cell → Option (List ℤ)) (rows : List (List Cell)) → wide_keys_rise (map key rows) ≡ rises (λ (one other : List Cell). by_key comes_first (key one) (key other)) rows
wide_rise_so key [] = refl
wide_rise_so key (one ∷ []) = refl
wide_rise_so key (one ∷ next ∷ rows) = step (key one) (key next) refl (wide_rise_so key (next ∷ rows))
  where
    step : (o u : Option (List ℤ)) → key next ≡ u → wide_keys_rise (map key (next ∷ rows)) ≡ rises (λ (one other : List Cell). by_key comes_first (key one) (key other)) (next ∷ rows)
        → wide_keys_rise (o ∷ u ∷ map key rows) ≡ (by_key comes_first o u && rises (λ (one other : List Cell). by_key comes_first (key one) (key other)) (next ∷ rows))
    step None u is rest = refl
    step (Some a) None is rest = refl
    step (Some a) (Some b) is rest = ap (λ t. comes_first a b && t) (ap (λ (o : Option (List ℤ)). wide_keys_rise (o ∷ map key rows)) (sym is) ∙ rest)

wide_agrees : (chunk : KeyRange (List ℤ)) (o : Option (List ℤ)) → is_within (wide_chunk_bounds chunk) o ≡ within comes_first chunk o
wide_agrees chunk None = refl
wide_agrees chunk (Some key) = ap (λ (h : KeyRange (List ℤ) → List ℤ → Bool). h chunk key) (sym holds_wide_so)

wide_part : (chunk : KeyRange (List ℤ)) (o : Option (List ℤ)) → is_within (wide_chunk_bounds chunk) o ≡ true → is_within no_bounds o ≡ true
wide_part chunk None e = absurd (false≢true e)
wide_part chunk (Some key) e = refl

pub wide_chunks_in_turn : WideChunksAnswerInTurn
wide_chunks_in_turn database object indices whole all rows some i chunk is found answers =
    let key = integers_at object.columns indices in
    let rise = rises_all (λ (one other : List Cell). by_key comes_first (key one) (key other)) (row_order comes_first wide_order key) in
    let whole_rise = rise whole (sym (wide_rise_so key whole) ∙ all.in_order.rise) in
    answer_is comes_first wide_order key (is_within (wide_chunk_bounds chunk)) (is_within no_bounds) (wide_part chunk) (rows_of database object.schema object.name) whole found
    all.in_order.same.counts answers.same.counts whole_rise (rise found (sym (wide_rise_so key found) ∙ answers.rise))
    ∙ in_turn comes_first wide_order key (λ c. is_within (wide_chunk_bounds c)) wide_agrees whole all.keys all.keys_are whole_rise rows some i chunk is

pub keys_in_turn : KeysAnswerBounds
keys_in_turn database object index whole all rows some i chunk is found answers =
    let key = integer_at object.columns index in
    let rise = rises_all (λ (one other : List Cell). by_key int_lt (key one) (key other)) (row_order int_lt int_order key) in
    let whole_rise = rise whole (sym (rise_so key whole) ∙ all.in_order.rise) in
    ap (λ (l : List (List Cell)). option_and_then key (slice_get l (rows - 1)))
    (answer_is int_lt int_order key (is_between (chunk_bounds (without_upto chunk))) (is_between everything) (part (without_upto chunk)) (rows_of database object.schema object.name) whole found
    all.in_order.same.counts answers.same.counts whole_rise (rise found (sym (rise_so key found) ∙ answers.rise)))
    ∙ bound_in_turn int_lt int_order key (λ c. is_between (chunk_bounds c)) agrees whole all.keys all.keys_are whole_rise rows some i chunk is

pub wide_keys_in_turn : WideKeysAnswerBounds
wide_keys_in_turn database object indices whole all rows some i chunk is found answers =
    let key = integers_at object.columns indices in
    let rise = rises_all (λ (one other : List Cell). by_key comes_first (key one) (key other)) (row_order comes_first wide_order key) in
    let whole_rise = rise whole (sym (wide_rise_so key whole) ∙ all.in_order.rise) in
    ap (λ (l : List (List Cell)). option_and_then key (slice_get l (rows - 1)))
    (answer_is comes_first wide_order key (is_within (wide_chunk_bounds (without_upto chunk))) (is_within no_bounds) (wide_part (without_upto chunk)) (rows_of database object.schema object.name) whole found
    all.in_order.same.counts answers.same.counts whole_rise (rise found (sym (wide_rise_so key found) ∙ answers.rise)))
    ∙ bound_in_turn comes_first wide_order key (λ c. is_within (wide_chunk_bounds c)) wide_agrees whole all.keys all.keys_are whole_rise rows some i chunk is
