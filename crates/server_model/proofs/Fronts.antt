-- Lists that are made of members of others.
use Rattle.std.proofs.Common.{◌≡◌, ◌≤◌, ◌-◌, length, get_or, take, drop, subst, arith, Bool, true, false, List, [], ◌∷◌, ◌++◌, Option, Some, None, cond, refl, ap, sym, ◌∙◌, append_assoc}
use Rattle.std.specs.Prelude.{ℕ, filter, option_map}
use Rattle.std.proofs.lemmas.List.{take_rest}
use Rattle.sql_cells.specs.declared.cell.Cell.{Cell}
use Rattle.server_data.specs.Fold.{found_or_later, is_of_table, without_first, without_row}
use Rattle.server_data.specs.declared.data.TableRows.{TableRows}

-- a member is kept, and then those after it that are
pub kept : {X : Type 0} (f : X → Bool) (made : List X) (x : X) (rest : List X) → (made ++ cond (f x) (x ∷ []) []) ++ filter f rest ≡ made ++ filter f (x ∷ rest)
kept {X = X} f made x rest = by_test (f x)
  where
    by_test : (b : Bool) → (made ++ cond b (x ∷ []) []) ++ filter f rest ≡ made ++ cond b (x ∷ filter f rest) (filter f rest)
    by_test true = append_assoc made (x ∷ []) (filter f rest)
    by_test false = append_assoc made [] (filter f rest)

-- what stands in front of a list that may be there, by one member more
pub more_in_front : {X : Type 0} (front : List X) (x : X) (found : Option (List X)) → option_map (λ (rest : List X). (front ++ x ∷ []) ++ rest) found ≡ option_map (λ (rest : List X). front ++ rest) (option_map (λ (rest : List X). x ∷ rest) found)
more_in_front {X = X} front x None = refl
more_in_front {X = X} front x (Some rest) = ap (λ (whole : List X). Some whole) (append_assoc front (x ∷ []) rest)

-- the row isn't among the first of the rows
pub not_here : (front : List TableRows) (one : TableRows) (others : List TableRows) (here : Option (List (List Cell))) (later : Option (List TableRows)) → here ≡ None
    → option_map (λ (rest : List TableRows). front ++ rest) (found_or_later one others here later) ≡ option_map (λ (rest : List TableRows). (front ++ one ∷ []) ++ rest) later
not_here front one others here later none = rw none (sym (more_in_front front one later))

-- the row is among the first of the rows
pub is_here : (front : List TableRows) (one : TableRows) (others : List TableRows) (here : Option (List (List Cell))) (later : Option (List TableRows)) (rows : List (List Cell)) → here ≡ Some rows
    → option_map (λ (rest : List TableRows). front ++ rest) (found_or_later one others here later) ≡ Some ((front ++ record one { rows = rows } ∷ []) ++ others)
is_here front one others here later rows some = rw some (ap (λ (whole : List TableRows). Some whole) (sym (append_assoc front (record one { rows = rows } ∷ []) others)))

-- the row isn't among the first of the rows that are left
pub passed_by : (schema name : List ℕ) (row : List Cell) (front next left : List TableRows) (one made : TableRows) (all : Option (List TableRows))
    → one ≡ get_or left 0 one → 1 ≤ length left → cond (is_of_table schema name one) (without_first row one.rows) None ≡ None → made ≡ one → next ≡ front ++ made ∷ []
    → all ≡ option_map (λ (rest : List TableRows). front ++ rest) (without_row schema name row left)
    → all ≡ option_map (λ (rest : List TableRows). next ++ rest) (without_row schema name row (take (length left - 1) (drop 1 left)))
passed_by schema name row front next left one made all is some none same pushed before = rw (take_rest left 1, pushed, same) (by_head left is some before)
  where
    by_head : (left : List TableRows) → one ≡ get_or left 0 one → 1 ≤ length left → all ≡ option_map (λ (rest : List TableRows). front ++ rest) (without_row schema name row left)
        → all ≡ option_map (λ (rest : List TableRows). (front ++ one ∷ []) ++ rest) (without_row schema name row (drop 1 left))
    by_head [] is some before = absurd (omega arith)
    by_head (x ∷ xs) is some before = before ∙ subst (λ (y : TableRows). option_map (λ (rest : List TableRows). front ++ rest) (without_row schema name row (y ∷ xs)) ≡ option_map (λ (rest : List TableRows). (front ++ one ∷ []) ++ rest) (without_row schema name row xs)) is (not_here front one xs _ (without_row schema name row xs) none)
