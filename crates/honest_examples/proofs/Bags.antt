-- Bags of rows.
use Rattle.std.proofs.Common.{◌≡◌, ◌+◌, ◌≤◌, ℕ, Bool, true, false, cond, List, [], ◌∷◌, ◌⊎◌, inl, inr, refl, ap, arith, Decides}
use Rattle.std.proofs.lemmas.List.Sums.{sum_by-cons}
use Rattle.std.proofs.lemmas.Slice.Eq.{bytes_eq-Decides, slice_eq-Decides}
use Rattle.server_data.specs.Bag.{IsSameBag, count_of}
use Rattle.server_data.specs.Equal.{cell_eq, row_eq}
use Rattle.sql_cells.specs.declared.cell.Cell.{Cell}
use Rattle.sql_cells.specs.declared.cell.Cell.TheVariants.{Null, Value}

cell_eq-Decides : (a b : Cell) → Decides (cell_eq a b) (a ≡ b)
cell_eq-Decides Null Null = (λ e. refl, λ e. refl)
cell_eq-Decides (Value a) (Value b) = (λ e. ap (λ (l : List ℕ). Value l) ((bytes_eq-Decides a b).0 e), λ e. (bytes_eq-Decides a b).1 (cc))
cell_eq-Decides Null (Value b) = (λ e. cc, λ e. cc)
cell_eq-Decides (Value a) Null = (λ e. cc, λ e. cc)

row_decides : (a b : List Cell) → Decides (row_eq a b) (a ≡ b)
row_decides a b = slice_eq-Decides cell_eq-Decides a b (row_eq a b) refl

-- rows in their own order, and two in the other
pub same_rows : (rows : List (List Cell)) → IsSameBag rows rows
same_rows rows = record { counts = λ row. refl }

pub other_order : (first second : List Cell) → IsSameBag (first ∷ second ∷ []) (second ∷ first ∷ [])
unfolding count_of
other_order first second = record { counts = λ row. by_tests (row_eq row first) (row_eq row second) }
  where
    by_tests : (a b : Bool) → (0 + cond a 1 0) + cond b 1 0 ≡ (0 + cond b 1 0) + cond a 1 0
    by_tests true true = refl
    by_tests true false = refl
    by_tests false true = refl
    by_tests false false = refl

-- and of three the first behind the others
pub rotated : (first second third : List Cell) → IsSameBag (first ∷ second ∷ third ∷ []) (third ∷ first ∷ second ∷ [])
unfolding count_of
rotated first second third = record { counts = λ row. by_tests (row_eq row first) (row_eq row second) (row_eq row third) }
  where
    by_tests : (a b c : Bool) → ((0 + cond a 1 0) + cond b 1 0) + cond c 1 0 ≡ ((0 + cond c 1 0) + cond a 1 0) + cond b 1 0
    by_tests true true true = refl
    by_tests true true false = refl
    by_tests true false true = refl
    by_tests true false false = refl
    by_tests false true true = refl
    by_tests false true false = refl
    by_tests false false true = refl
    by_tests false false false = refl

-- a row stands in rows that begin with it
stands_in_front : (row : List Cell) (rows : List (List Cell)) → 1 ≤ count_of row (row ∷ rows)
unfolding count_of
stands_in_front row rows = rw (sum_by-cons (λ other. cond (row_eq row other) 1 0) row rows, (row_decides row row).1 refl) (omega arith)

-- rows that begin with one aren't none
pub some_row : (row : List Cell) (rows : List (List Cell)) → IsSameBag (row ∷ rows) [] → ⊥
unfolding count_of
some_row row rows same = omega (arith, stands_in_front row rows, same.counts row)

-- rows that are the same as two begin with one of them
pub first_of_two : (row first second : List Cell) (rows : List (List Cell)) → IsSameBag (row ∷ rows) (first ∷ second ∷ []) → (row ≡ first) ⊎ (row ≡ second)
unfolding count_of
first_of_two row first second rows same = by_tests (row_eq row first) (row_eq row second) (row_decides row first).0 (row_decides row second).0 (omega (arith, stands_in_front row rows, same.counts row))
  where
    by_tests : (a b : Bool) → (a ≡ true → row ≡ first) → (b ≡ true → row ≡ second) → 1 ≤ (0 + cond a 1 0) + cond b 1 0 → (row ≡ first) ⊎ (row ≡ second)
    by_tests true b is_first is_second some = inl (is_first refl)
    by_tests false true is_first is_second some = inr (is_second refl)
    by_tests false false is_first is_second some = absurd (omega arith)

-- and rows that are the same as three with one of those
pub first_of_three : (row first second third : List Cell) (rows : List (List Cell)) → IsSameBag (row ∷ rows) (first ∷ second ∷ third ∷ []) → (row ≡ first) ⊎ ((row ≡ second) ⊎ (row ≡ third))
unfolding count_of
first_of_three row first second third rows same =
    by_tests (row_eq row first) (row_eq row second) (row_eq row third) (row_decides row first).0 (row_decides row second).0 (row_decides row third).0 (omega (arith, stands_in_front row rows, same.counts row))
  where
    by_tests : (a b c : Bool) → (a ≡ true → row ≡ first) → (b ≡ true → row ≡ second) → (c ≡ true → row ≡ third) → 1 ≤ ((0 + cond a 1 0) + cond b 1 0) + cond c 1 0 → (row ≡ first) ⊎ ((row ≡ second) ⊎ (row ≡ third))
    by_tests true b c is_first is_second is_third some = inl (is_first refl)
    by_tests false true c is_first is_second is_third some = inr (inl (is_second refl))
    by_tests false false true is_first is_second is_third some = inr (inr (is_third refl))
    by_tests false false false is_first is_second is_third some = absurd (omega arith)
