-- Worked chunks of keys.
use Rattle.std.specs.Prelude.{◌≡◌, true, false, ℤ, pos, negsuc, List, [], ◌∷◌, Option, Some, None, map}
use Rattle.chunk_forms.specs.Chunk.{bounds_of, chunks_of, holds, holds_wide, keys_in}
use Rattle.chunk_forms.specs.Laws.{Rise, WideRise}
use Rattle.chunk_forms.specs.declared.key_range.KeyRange.{KeyRange}

-- a key of two columns
abbrev pub pair : ℤ → ℤ → List ℤ
pair first second = first ∷ second ∷ []

-- the range above the one bound, up to the other
abbrev pub between : {K : Type 0} → Option K → Option K → KeyRange K
between above upto = record { above = above; upto = upto }

-- (1,1), (1,2), (2,0), (2,1) and (3,-5)
abbrev pub pairs : List (List ℤ)
pairs =
    pair (pos 1) (pos 1) ∷ pair (pos 1) (pos 2) ∷ pair (pos 2) (pos 0) ∷ pair (pos 2) (pos 1)
    ∷ pair (pos 3) (negsuc 4) ∷ []

-- five keys of two columns in chunks of two rows
pub record PairsInTwos : Type 0 where
  pub rise : WideRise pairs
  pub bounds : bounds_of 2 pairs ≡ pair (pos 1) (pos 2) ∷ pair (pos 2) (pos 1) ∷ []
  pub chunks : chunks_of 2 pairs ≡ between None (Some (pair (pos 1) (pos 2)))
      ∷ between (Some (pair (pos 1) (pos 2))) (Some (pair (pos 2) (pos 1)))
      ∷ between (Some (pair (pos 2) (pos 1))) None ∷ []
  pub held : map (keys_in holds_wide pairs) (chunks_of 2 pairs) ≡
      (pair (pos 1) (pos 1) ∷ pair (pos 1) (pos 2) ∷ [])
      ∷ (pair (pos 2) (pos 0) ∷ pair (pos 2) (pos 1) ∷ []) ∷ (pair (pos 3) (negsuc 4) ∷ []) ∷ []

-- the least number of a bigint column (MySQL 8.0 Reference Manual, 13.1.2 "Integer Types")
abbrev pub least_key : ℤ
least_key = negsuc 9223372036854775807

-- the greatest one
abbrev pub greatest_key : ℤ
greatest_key = pos 9223372036854775807

-- both, and 0 between them
abbrev pub signed : List ℤ
signed = least_key ∷ pos 0 ∷ greatest_key ∷ []

-- three keys in chunks of one row: the fourth chunk is empty
pub record SignedInOnes : Type 0 where
  pub rise : Rise signed
  pub bounds : bounds_of 1 signed ≡ signed
  pub chunks : chunks_of 1 signed ≡ between None (Some least_key)
      ∷ between (Some least_key) (Some (pos 0)) ∷ between (Some (pos 0)) (Some greatest_key)
      ∷ between (Some greatest_key) None ∷ []
  pub held : map (keys_in holds signed) (chunks_of 1 signed) ≡
      (least_key ∷ []) ∷ (pos 0 ∷ []) ∷ (greatest_key ∷ []) ∷ [] ∷ []

-- six keys
abbrev pub six_keys : List ℤ
six_keys = negsuc 0 ∷ pos 2 ∷ pos 3 ∷ pos 5 ∷ pos 8 ∷ pos 13 ∷ []

-- one more in front
abbrev pub seven_keys : List ℤ
seven_keys = negsuc 9 ∷ six_keys

-- the last chunk has what is left
pub record SevenInThrees : Type 0 where
  pub rise : Rise seven_keys
  pub bounds : bounds_of 3 seven_keys ≡ pos 2 ∷ pos 8 ∷ []
  pub held : map (keys_in holds seven_keys) (chunks_of 3 seven_keys) ≡
      (negsuc 9 ∷ negsuc 0 ∷ pos 2 ∷ []) ∷ (pos 3 ∷ pos 5 ∷ pos 8 ∷ []) ∷ (pos 13 ∷ []) ∷ []

-- the last chunk is empty
pub record SixInThrees : Type 0 where
  pub rise : Rise six_keys
  pub bounds : bounds_of 3 six_keys ≡ pos 3 ∷ pos 13 ∷ []
  pub held : map (keys_in holds six_keys) (chunks_of 3 six_keys) ≡
      (negsuc 0 ∷ pos 2 ∷ pos 3 ∷ []) ∷ (pos 5 ∷ pos 8 ∷ pos 13 ∷ []) ∷ [] ∷ []

-- a bound is in the chunk that ends there and not in the next; the first column decides where it differs
pub record BoundsAreInOneChunk : Type 0 where
  pub end : holds (between (Some (pos 2)) (Some (pos 8))) (pos 8) ≡ true
  pub begin : holds (between (Some (pos 2)) (Some (pos 8))) (pos 2) ≡ false
  pub wide_end : holds_wide (between None (Some (pair (pos 1) (pos 2)))) (pair (pos 1) (pos 2))
      ≡ true
  pub wide_begin : holds_wide (between (Some (pair (pos 1) (pos 2))) None) (pair (pos 1) (pos 2))
      ≡ false
  pub first_column : holds_wide (between None (Some (pair (pos 2) (pos 0)))) (pair (pos 1) (pos 9))
      ≡ true
  pub second_column : holds_wide (between None (Some (pair (pos 2) (pos 0)))) (pair (pos 2) (pos 1))
      ≡ false
