-- The lengths of names with commas between them, and of pieces.
use Rattle.std.proofs.Common.{◌≡◌, subst, sym, ap, ◌∙◌, ℕ, ℤ, pos, ◌+◌, ◌<◌, ◌≤◌, List, [], ◌∷◌, ◌++◌, length, take, get_or, append_assoc, length-append}
use Rattle.std.specs.Fmt.{signed_decimal}
use Rattle.std.specs.List.{flat_map, fold}
use Rattle.std.proofs.lemmas.List.{append-nil}
use Rattle.std.proofs.lemmas.List.Folds.{length-flat_map-take}
use Rattle.sql_cells.specs.Name.{quoted_name}
use Rattle.sql_statements.specs.Piece.{piece_text, pieces_text, later_name, later_number}
use Rattle.statement_forms.specs.Text.{names, numbers}
use Rattle.sql_statements.specs.declared.piece.Piece.{Piece}

-- some names at the front and the next one are no longer than all
pub later_names_fit : (names : List (List ℕ)) (i : ℕ) (name : List ℕ) → name ≡ get_or names i name → i < length names → length (flat_map later_name (take i names)) + length (later_name name) ≤ length (flat_map later_name names)
later_names_fit names i name is within =
    subst (λ (n : List ℕ). length (flat_map later_name (take i names)) + length (later_name n) ≤ length (flat_map later_name names)) (sym is) (length-flat_map-take later_name names i name within)

-- the same of numbers
pub later_numbers_fit : (numbers : List ℤ) (i : ℕ) → i < length numbers → length (flat_map later_number (take i numbers)) + length (later_number (get_or numbers i (pos 0))) ≤ length (flat_map later_number numbers)
later_numbers_fit numbers i within = length-flat_map-take later_number numbers i (pos 0) within

-- the same of pieces
pub pieces_fit : (pieces : List Piece) (i : ℕ) (piece : Piece) → piece ≡ get_or pieces i piece → i < length pieces → length (flat_map piece_text (take i pieces)) + length (piece_text piece) ≤ length (flat_map piece_text pieces)
pieces_fit pieces i piece is within =
    subst (λ (p : Piece). length (flat_map piece_text (take i pieces)) + length (piece_text p) ≤ length (flat_map piece_text pieces)) (sym is) (length-flat_map-take piece_text pieces i piece within)

-- names with commas between them are the first one and each later one after a comma
first_and_later : (name : List ℕ) (later : List (List ℕ)) → names (name ∷ later) ≡ quoted_name name ++ flat_map later_name later
first_and_later name [] = sym (append-nil (quoted_name name))
first_and_later name (next ∷ later) = ap (λ t. quoted_name name ++ 44 ∷ t) (first_and_later next later)

pub names_is : (all later : List (List ℕ)) (name : List ℕ) → all ≡ name ∷ later → names all ≡ quoted_name name ++ flat_map later_name later
names_is all later name is = ap (λ (a : List (List ℕ)). names a) is ∙ first_and_later name later

pub names_length_is : (all later : List (List ℕ)) (name : List ℕ) → all ≡ name ∷ later → length (names all) ≡ length (quoted_name name) + length (flat_map later_name later)
names_length_is all later name is = ap length (names_is all later name is) ∙ length-append (quoted_name name) (flat_map later_name later)

-- numbers with commas between them are the first one and each later one after a comma
first_and_later_number : (number : ℤ) (later : List ℤ) → numbers (number ∷ later) ≡ signed_decimal number ++ flat_map later_number later
first_and_later_number number [] = sym (append-nil (signed_decimal number))
first_and_later_number number (next ∷ later) = ap (λ t. signed_decimal number ++ 44 ∷ t) (first_and_later_number next later)

pub numbers_is : (all later : List ℤ) (number : ℤ) → all ≡ number ∷ later → numbers all ≡ signed_decimal number ++ flat_map later_number later
numbers_is all later number is = ap (λ (a : List ℤ). numbers a) is ∙ first_and_later_number number later

pub numbers_length_is : (all later : List ℤ) (number : ℤ) → all ≡ number ∷ later → length (numbers all) ≡ length (signed_decimal number) + length (flat_map later_number later)
numbers_length_is all later number is = ap length (numbers_is all later number is) ∙ length-append (signed_decimal number) (flat_map later_number later)

joined_after : (front : List ℕ) (pieces : List Piece) → fold (λ text piece. text ++ piece_text piece) front pieces ≡ front ++ flat_map piece_text pieces
joined_after front [] = sym (append-nil front)
joined_after front (piece ∷ pieces) = joined_after (front ++ piece_text piece) pieces ∙ append_assoc front (piece_text piece) (flat_map piece_text pieces)

pub pieces_text_is : (pieces : List Piece) → pieces_text pieces ≡ flat_map piece_text pieces
pieces_text_is pieces = joined_after [] pieces
