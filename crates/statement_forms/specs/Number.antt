-- The numbers of queries.
use Rattle.std.specs.Prelude.{◌≡◌, ℕ, ◌<◌, ◌≤◌, ◌^◌, ℤ, pos, negsuc, List, [], ◌∷◌, ◌++◌, length, take}
use Rattle.std.specs.List.{All}

-- a number of 128 bits
abbrev pub IsI128 : ℤ → Type 0
IsI128 (pos n) = n < 2 ^ 127
IsI128 (negsuc n) = n < 2 ^ 127

-- two to four numbers of 128 bits
pub record IsNumberRow (numbers : List ℤ) : Type 0 where
  pub least : 2 ≤ length numbers
  pub most : length numbers ≤ 4
  pub ranges : All IsI128 numbers

-- the numbers, and zeros after them up to four
abbrev pub four_places : List ℤ → List ℤ
four_places numbers = take 4 (numbers ++ pos 0 ∷ pos 0 ∷ pos 0 ∷ pos 0 ∷ [])

-- a row in four places, of which so many count
pub record InPlaces (places : List ℤ) (count : ℕ) : Type 0 where
  pub most : count ≤ 4
  pub row : IsNumberRow (take count places)
  pub size : length (take count places) ≡ count
  pub rest : four_places (take count places) ≡ places
