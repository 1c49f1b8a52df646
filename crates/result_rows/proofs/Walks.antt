-- Walks over strings and cells, one at a time.
use Rattle.std.proofs.Common.{◌≡◌, ℕ, suc, zero, ◌+◌, ◌-◌, ◌<◌, List, [], ◌∷◌, length, Option, Some, None, option_map, option_and_then, unwrap_or, is_some, IsSome, refl, sym, ◌∙◌, ap, arith}
use Rattle.wire_forms.specs.Definition.{after_strings}
use Rattle.plain_data.specs.Cell.{Cell}
use Rattle.wire_forms.specs.Row.{string_of, cell_in_front, cells_of, cells_or_none}

-- one string off the front of those that are left
pub after_strings_next : (n i : ℕ) (bytes : List ℕ) → i < n → after_strings (n - i) bytes ≡ option_and_then (λ (string : List ℕ × List ℕ). after_strings (n - (i + 1)) string.1) (string_of bytes)
after_strings_next n i bytes below = let e : n - i ≡ suc (n - (i + 1)) = omega arith in rw e

-- one cell off the front of those that are left
pub cells_of_next : (n i : ℕ) (bytes : List ℕ) → i < n → cells_of (n - i) bytes ≡ option_and_then (λ (first : Cell × List ℕ). option_map (λ (cells : List Cell). first.0 ∷ cells) (cells_of (n - (i + 1)) first.1)) (cell_in_front bytes)
cells_of_next n i bytes below = let e : n - i ≡ suc (n - (i + 1)) = omega arith in rw e

is_some-map : {A B : Type 0} (f : A → B) (found : Option A) → is_some (option_map f found) ≡ is_some found
is_some-map f None = refl
is_some-map f (Some x) = refl

-- where one cell is there, the others are there exactly where all are
pub are_cells_next : (n i : ℕ) (bytes : List ℕ) (cell : Cell) (rest : List ℕ) → i < n → cell_in_front bytes ≡ Some (cell, rest) → is_some (cells_of (n - i) bytes) ≡ is_some (cells_of (n - (i + 1)) rest)
are_cells_next n i bytes cell rest below found = rw (cells_of_next n i bytes below, found) (is_some-map (λ (cells : List Cell). cell ∷ cells) (cells_of (n - (i + 1)) rest))

cells_or_none-map : (cell : Cell) (found : Option (List Cell)) → IsSome found → unwrap_or (option_map (λ (cells : List Cell). cell ∷ cells) found) [] ≡ cell ∷ unwrap_or found []
cells_or_none-map cell None there = cc
cells_or_none-map cell (Some cells) there = refl

-- the cell that begins so many cells, and the others
pub record Splits (n : ℕ) (bytes : List ℕ) (cell : Cell) (rest : List ℕ) : Type 0 where
  pub there : IsSome (cells_of (n - 1) rest)
  pub cells : cells_or_none n bytes ≡ cell ∷ cells_or_none (n - 1) rest

pub split_cells : (n : ℕ) (bytes : List ℕ) (cell : Cell) (rest : List ℕ) → 0 < n → IsSome (cells_of n bytes) → cell_in_front bytes ≡ Some (cell, rest) → Splits n bytes cell rest
split_cells n bytes cell rest more there found =
    let all : n - 0 ≡ n = omega arith in
    let one : is_some (cells_of n bytes) ≡ is_some (cells_of (n - 1) rest) = rw all at (are_cells_next n 0 bytes cell rest more found) in
    let next : cells_of n bytes ≡ option_and_then (λ (first : Cell × List ℕ). option_map (λ (cells : List Cell). first.0 ∷ cells) (cells_of (n - 1) first.1)) (cell_in_front bytes) = rw all at (cells_of_next n 0 bytes more) in
    let there_is : IsSome (cells_of (n - 1) rest) = sym one ∙ there in
    record {
      there = there_is;
      cells = rw (next, found) (cells_or_none-map cell (cells_of (n - 1) rest) there_is);
    }

length-map : (cell : Cell) (n : ℕ) (found : Option (List Cell)) → IsSome (option_map (λ (cells : List Cell). cell ∷ cells) found) → (IsSome found → length (unwrap_or found []) ≡ n) → length (unwrap_or (option_map (λ (cells : List Cell). cell ∷ cells) found) []) ≡ suc n
length-map cell n None there others = cc
length-map cell n (Some cells) there others = ap suc (others refl)

length-and_then : (n : ℕ) (found : Option (Cell × List ℕ)) → IsSome (option_and_then (λ (first : Cell × List ℕ). option_map (λ (cells : List Cell). first.0 ∷ cells) (cells_of n first.1)) found) → ((rest : List ℕ) → IsSome (cells_of n rest) → length (cells_or_none n rest) ≡ n) → length (unwrap_or (option_and_then (λ (first : Cell × List ℕ). option_map (λ (cells : List Cell). first.0 ∷ cells) (cells_of n first.1)) found) []) ≡ suc n
length-and_then n None there others = cc
length-and_then n (Some first) there others = length-map first.0 n (cells_of n first.1) there (others first.1)

-- there are as many cells as were counted
pub length_cells : (n : ℕ) (bytes : List ℕ) → IsSome (cells_of n bytes) → length (cells_or_none n bytes) ≡ n
length_cells zero [] there = refl
length_cells zero (byte ∷ bytes) there = cc
length_cells (suc n) bytes there = length-and_then n (cell_in_front bytes) there (length_cells n)
