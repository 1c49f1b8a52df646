-- Lists of rows in an order, by how often each row stands in them.
use Rattle.std.proofs.Common.{◌≡◌, ℕ, ◌+◌, ◌≤◌, refl, ap, sym, ◌∙◌, subst, arith, Bool, true, false, cond, List, [], ◌∷◌, filter}
use Rattle.std.proofs.lemmas.Bool.{true≢false}
use Rattle.std.proofs.lemmas.List.Sums.{sum_by-cons}
use Rattle.std.proofs.lemmas.Slice.Eq.{slice_eq-Decides}
use Rattle.chunk_forms.proofs.Orders.{IsFirst, IsOrder, Rises, turned}
use Rattle.server_data.proofs.Equals.{cell_eq-Decides, row_is}
use Rattle.server_data.specs.Bag.{count_of}
use Rattle.server_data.specs.Equal.{row_eq}
use Rattle.sql_cells.specs.declared.cell.Cell.{Cell}

row_itself : (row : List Cell) → row_eq row row ≡ true
row_itself row = (slice_eq-Decides cell_eq-Decides row row (row_eq row row) refl).1 refl

none_of : (row : List Cell) → count_of row [] ≡ 0
unfolding count_of
none_of row = refl

count_first : (row one : List Cell) (rows : List (List Cell)) → count_of row (one ∷ rows) ≡ cond (row_eq row one) 1 0 + count_of row rows
unfolding count_of
count_first row one rows = sum_by-cons (λ other. cond (row_eq row other) 1 0) one rows

count_itself : (row : List Cell) (rows : List (List Cell)) → count_of row (row ∷ rows) ≡ 1 + count_of row rows
count_itself row rows = count_first row row rows ∙ ap (λ b. cond b 1 0 + count_of row rows) (row_itself row)

count_other : (row one : List Cell) (rows : List (List Cell)) → row_eq row one ≡ false → count_of row (one ∷ rows) ≡ count_of row rows
count_other row one rows e = count_first row one rows ∙ (ap (λ b. cond b 1 0 + count_of row rows) e ∙ less (count_of row rows))
  where
    less : (n : ℕ) → 0 + n ≡ n
    less n = omega arith

-- rows that pass a test are counted as before, and others not at all
pub count_filter : (p : List Cell → Bool) (row : List Cell) (rows : List (List Cell)) → count_of row (filter p rows) ≡ cond (p row) (count_of row rows) 0
count_filter p row [] = none_of row ∙ sym (both (p row) (none_of row))
  where
    both : (b : Bool) → count_of row [] ≡ 0 → cond b (count_of row []) 0 ≡ 0
    both true e = e
    both false e = refl
count_filter p row (one ∷ rows) = step (p one) (row_eq row one) refl refl (count_filter p row rows)
  where
    rest : ℕ
    rest = count_of row rows

    step : (a b : Bool) → p one ≡ a → row_eq row one ≡ b → count_of row (filter p rows) ≡ cond (p row) (count_of row rows) 0
        → count_of row (cond a (one ∷ filter p rows) (filter p rows)) ≡ cond (p row) (count_of row (one ∷ rows)) 0
    step true true is same e =
        count_first row one (filter p rows)
        ∙ (ap (λ b. cond b 1 0 + count_of row (filter p rows)) same
        ∙ (ap (λ n. 1 + n) (e ∙ ap (λ b. cond b (count_of row rows) 0) passes)
        ∙ (sym (ap (λ b. cond b 1 0 + count_of row rows) same)
        ∙ (sym (count_first row one rows) ∙ sym (ap (λ b. cond b (count_of row (one ∷ rows)) 0) passes)))))
      where
        passes : p row ≡ true
        passes = ap p (row_is row one same) ∙ is
    step false true is same e =
        e ∙ (ap (λ b. cond b (count_of row rows) 0) fails ∙ sym (ap (λ b. cond b (count_of row (one ∷ rows)) 0) fails))
      where
        fails : p row ≡ false
        fails = ap p (row_is row one same) ∙ is
    step true false is same e = count_other row one (filter p rows) same ∙ (e ∙ ap (λ n. cond (p row) n 0) (sym (count_other row one rows same)))
    step false false is same e = e ∙ ap (λ n. cond (p row) n 0) (sym (count_other row one rows same))

module _ (before : List Cell → List Cell → Bool) (order : IsOrder before) where
  stands_after : (first row : List Cell) (rows : List (List Cell)) → IsFirst before first rows → 1 ≤ count_of row rows → before first row ≡ true
  stands_after first row [] h some = absurd (nowhere (count_of row []) (none_of row) some)
    where
      nowhere : (n : ℕ) → n ≡ 0 → 1 ≤ n → ⊥
      nowhere n e k = omega (arith, e, k)
  stands_after first row (one ∷ rows) h some = step (row_eq row one) refl (stands_after first row rows h.1)
    where
      step : (b : Bool) → row_eq row one ≡ b → (1 ≤ count_of row rows → before first row ≡ true) → before first row ≡ true
      step true e rest = subst (λ (x : List Cell). before first x ≡ true) (sym (row_is row one e)) h.0
      step false e rest = rest (subst (λ n. 1 ≤ n) (count_other row one rows e) some)

  -- lists in the order with the same rows are the same
  pub in_one_order : (rows others : List (List Cell)) → Rises before rows → Rises before others → ((row : List Cell) → count_of row rows ≡ count_of row others) → rows ≡ others
  in_one_order [] [] h k same = refl
  in_one_order [] (other ∷ others) h k same = absurd (missing (count_of other others) (sym (none_of other) ∙ (same other ∙ count_itself other others)))
    where
      missing : (n : ℕ) → 0 ≡ 1 + n → ⊥
      missing n e = omega (arith, e)
  in_one_order (row ∷ rows) [] h k same = absurd (missing (count_of row rows) (sym (count_itself row rows) ∙ (same row ∙ none_of row)))
    where
      missing : (n : ℕ) → 1 + n ≡ 0 → ⊥
      missing n e = omega (arith, e)
  in_one_order (row ∷ rows) (other ∷ others) h k same = step (row_eq row other) refl (in_one_order rows others h.1 k.1)
    where
      less : (a b c : ℕ) → a + b ≡ a + c → b ≡ c
      less a b c e = omega (arith, e)

      there : (a b n : ℕ) → a ≡ 1 + n → a ≡ b → 1 ≤ b
      there a b n e f = omega (arith, e, f)

      not_back : row_eq row other ≡ false → (b : Bool) → row_eq other row ≡ b → row_eq other row ≡ false
      not_back e true is = absurd (true≢false (sym (row_itself other) ∙ (ap (λ (x : List Cell). row_eq x other) (row_is other row is) ∙ e)))
      not_back e false is = is

      turned_back : before row other ≡ true → before other row ≡ true → ⊥
      turned_back e f = true≢false (sym f ∙ turned before order row other e)

      step : (b : Bool) → row_eq row other ≡ b → (((one : List Cell) → count_of one rows ≡ count_of one others) → rows ≡ others) → row ∷ rows ≡ other ∷ others
      step true e rest =
          let is = row_is row other e in
          ap (λ (x : List Cell). x ∷ rows) is
          ∙ ap (λ (l : List (List Cell)). other ∷ l) (rest (λ one. less (cond (row_eq one other) 1 0) (count_of one rows) (count_of one others)
          (sym (count_first one other rows) ∙ (ap (λ (x : List Cell). count_of one (x ∷ rows)) (sym is) ∙ (same one ∙ count_first one other others)))))
      step false e rest = absurd (turned_back
          (stands_after row other rows h.0 (there (count_of other (other ∷ others)) (count_of other rows) (count_of other others) (count_itself other others) (sym (same other) ∙ count_other other row rows (not_back e (row_eq other row) refl))))
          (stands_after other row others k.0 (there (count_of row (row ∷ rows)) (count_of row others) (count_of row rows) (count_itself row rows) (same row ∙ count_other row other others e))))

  first_of_filter : (p : List Cell → Bool) (row : List Cell) (rows : List (List Cell)) → IsFirst before row rows → IsFirst before row (filter p rows)
  first_of_filter p row [] h = tt
  first_of_filter p row (one ∷ rows) h = step (p one) (first_of_filter p row rows h.1)
    where
      step : (b : Bool) → IsFirst before row (filter p rows) → IsFirst before row (cond b (one ∷ filter p rows) (filter p rows))
      step true rest = (h.0, rest)
      step false rest = rest

  -- rows in the order stay in it where some are left out
  pub filter_rises : (p : List Cell → Bool) (rows : List (List Cell)) → Rises before rows → Rises before (filter p rows)
  filter_rises p [] h = tt
  filter_rises p (row ∷ rows) h = step (p row) (first_of_filter p row rows h.0) (filter_rises p rows h.1)
    where
      step : (b : Bool) → IsFirst before row (filter p rows) → Rises before (filter p rows) → Rises before (cond b (row ∷ filter p rows) (filter p rows))
      step true first rest = (first, rest)
      step false first rest = rest
