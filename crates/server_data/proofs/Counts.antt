-- Members that are counted, and tests that all members pass.
use Rattle.std.proofs.Common.{◌≡◌, ◌<◌, ◌≤◌, ◌-◌, length, get_or, take, drop, subst, arith, ℕ, Bool, true, false, ◌&&◌, ◌||◌, not, ◌⊎◌, ◌+◌, ◌*◌, length-drop, List, [], ◌∷◌, ◌++◌, cond, refl, sym, ◌∙◌, ap, inl, inr}
use Rattle.std.specs.Prelude.{count_by}
use Rattle.std.specs.List.{list_all, list_any}
use Rattle.std.proofs.lemmas.List.{take_rest}
use Rattle.std.proofs.lemmas.List.Sums.{sum_by-append, sum_by-cons}
use Rattle.sql_cells.specs.declared.cell.Cell.{Cell}
use Rattle.server_data.specs.Bag.{count_of}
use Rattle.server_data.specs.Equal.{row_eq}
use Rattle.server_data.specs.Fold.{is_of_table, rows_in}
use Rattle.server_data.specs.declared.data.TableRows.{TableRows}

pub and_left : (a b : Bool) → (a && b) ≡ true → a ≡ true
and_left true b e = refl
and_left false b e = e

pub and_right : (a b : Bool) → (a && b) ≡ true → b ≡ true
and_right true b e = e
and_right false b e = absurd (cc)

pub and_both : (a b : Bool) → a ≡ true → b ≡ true → (a && b) ≡ true
and_both a b e f = rw (e, f) refl

pub or_right : (a b : Bool) → b ≡ true → (a || b) ≡ true
or_right true b e = refl
or_right false b e = e

pub where_not : (a b : Bool) → a ≡ true → (not a || b) ≡ true → b ≡ true
where_not true b e f = f
where_not false b e f = absurd (cc)

module _ {X : Type 0} where
  -- what all pass, each passes
  pub every : (f : X → Bool) (xs : List X) → ((x : X) → f x ≡ true) → list_all f xs ≡ true
  every f [] all = refl
  every f (x ∷ xs) all = and_both (f x) (list_all f xs) (all x) (every f xs all)

  -- no member counts, or there is one that counts and passes
  pub counted : (p f : X → Bool) (Q : Type 0) → ((x : X) → p x ≡ true → f x ≡ true → Q) → (xs : List X) → list_all f xs ≡ true → (count_by p xs ≡ 0) ⊎ Q
  counted p f Q gives [] all = inl refl
  counted p f Q gives (x ∷ xs) all = by_test (p x) refl (counted p f Q gives xs (and_right (f x) (list_all f xs) all))
    where
      by_test : (b : Bool) → p x ≡ b → (count_by p xs ≡ 0) ⊎ Q → (count_by p (x ∷ xs) ≡ 0) ⊎ Q
      by_test true e rest = inr (gives x e (and_left (f x) (list_all f xs) all))
      by_test false e (inl none) = inl (rw e none)
      by_test false e (inr q) = inr q

  -- no member is found, or there is one that is and passes
  pub found : (p f : X → Bool) (Q : Type 0) → ((x : X) → p x ≡ true → f x ≡ true → Q) → (xs : List X) → list_all f xs ≡ true → (list_any p xs ≡ false) ⊎ Q
  found p f Q gives [] all = inl refl
  found p f Q gives (x ∷ xs) all = by_test (p x) refl (found p f Q gives xs (and_right (f x) (list_all f xs) all))
    where
      by_test : (b : Bool) → p x ≡ b → (list_any p xs ≡ false) ⊎ Q → (list_any p (x ∷ xs) ≡ false) ⊎ Q
      by_test true e rest = inr (gives x e (and_left (f x) (list_all f xs) all))
      by_test false e (inl none) = inl (rw e none)
      by_test false e (inr q) = inr q

  -- what is tested alike is counted alike
  pub alike : (p q : X → Bool) → ((x : X) → p x ≡ q x) → (xs : List X) → count_by p xs ≡ count_by q xs
  alike p q same [] = refl
  alike p q same (x ∷ xs) =
      let front : cond (p x) 1 0 + count_by p xs ≡ cond (q x) 1 0 + count_by q xs = rw (same x) (ap (λ (n : ℕ). cond (q x) 1 0 + n) (alike p q same xs)) in
      sum_by-cons (λ (y : X). cond (p y) 1 0) x xs ∙ (front ∙ sym (sum_by-cons (λ (y : X). cond (q y) 1 0) x xs))

-- two counts that are none, or equal
pub equal : (a b : ℕ) → (a ≡ 0) ⊎ (a ≡ b) → (b ≡ 0) ⊎ (a ≡ b) → a ≡ b
equal a b (inr e) other = e
equal a b (inl none) (inr e) = e
equal a b (inl none) (inl nor) = none ∙ sym nor

-- the rows of a table are counted where they stand, and then in those that follow
pub count_front : (row : List Cell) (schema name : List ℕ) (one : TableRows) (others : List TableRows)
    → count_of row (rows_in schema name (one ∷ others)) ≡ cond (is_of_table schema name one) (count_of row one.rows) 0 + count_of row (rows_in schema name others)
unfolding count_of
count_front row schema name one others = by_test (is_of_table schema name one)
  where
    by_test : (b : Bool) → count_by (row_eq row) (cond b (one.rows ++ rows_in schema name others) (rows_in schema name others)) ≡ cond b (count_by (row_eq row) one.rows) 0 + count_by (row_eq row) (rows_in schema name others)
    by_test true = sum_by-append (λ (other : List Cell). cond (row_eq row other) 1 0) one.rows (rows_in schema name others)
    by_test false = omega arith

pub count_none : (row : List Cell) → count_of row [] ≡ 0
unfolding count_of
count_none row = refl

-- what is counted so far, and in the tables that are left
pub count_step : (row : List Cell) (schema name : List ℕ) (left : List TableRows) (one : TableRows) (count more all : ℕ)
    → one ≡ get_or left 0 one → 1 ≤ length left → more ≡ cond (is_of_table schema name one) (count_of row one.rows) 0
    → count + count_of row (rows_in schema name left) ≡ all
    → (count + more) + count_of row (rows_in schema name (take (length left - 1) (drop 1 left))) ≡ all
count_step row schema name left one count more all is some told before = rw (take_rest left 1) (by_head left is some before)
  where
    by_head : (left : List TableRows) → one ≡ get_or left 0 one → 1 ≤ length left → count + count_of row (rows_in schema name left) ≡ all
        → (count + more) + count_of row (rows_in schema name (drop 1 left)) ≡ all
    by_head [] is some before = absurd (omega arith)
    by_head (x ∷ xs) is some before =
        let front = count_front row schema name x xs in
        let here : more ≡ cond (is_of_table schema name x) (count_of row x.rows) 0 = subst (λ (y : TableRows). more ≡ cond (is_of_table schema name y) (count_of row y.rows) 0) is told in
        omega arith

pub count_end : (row : List Cell) (schema name : List ℕ) (left : List TableRows) (count all : ℕ) → length left < 1 → count + count_of row (rows_in schema name left) ≡ all → count ≡ all
count_end row schema name [] count all none before = let nothing = count_none row in omega arith
count_end row schema name (x ∷ xs) count all none before = absurd (omega arith)

pub bound_step : (left : List TableRows) (count more size : ℕ) → 1 ≤ length left → more < 18446744073709551616
    → count + 18446744073709551616 * length left ≤ 18446744073709551616 * size
    → (count + more) + 18446744073709551616 * length (take (length left - 1) (drop 1 left)) ≤ 18446744073709551616 * size
bound_step left count more size some small before = rw (take_rest left 1, length-drop 1 left) (omega arith)
