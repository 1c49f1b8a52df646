-- Patterns of names: `*` stands for any bytes, perhaps none, `?` for one byte, and every other byte for itself.
use Rattle.std.specs.Prelude.{ℕ, ◌≡◌, ◌==◌, ◌&&◌, ◌||◌, if◌then◌else◌, Bool, true, false, List, [], ◌∷◌, length, bytes_eq}
use Rattle.std.specs.List.{flat_map}

-- the text, or what is left of it after some of its first bytes, passes the test
abbrev pub any_suffix : (List ℕ → Bool) → List ℕ → Bool
any_suffix test [] = test []
any_suffix test (byte ∷ rest) = test (byte ∷ rest) || any_suffix test rest

-- the text begins with a byte for which this byte of a pattern stands, and what is left passes the test
abbrev pub begins_with : ℕ → (List ℕ → Bool) → List ℕ → Bool
begins_with byte test [] = false
begins_with byte test (first ∷ rest) = (byte == 63 || byte == first) && test rest

-- the pattern matches the whole text
unfoldable pub matches : List ℕ → List ℕ → Bool
matches [] [] = true
matches [] (first ∷ rest) = false
matches (byte ∷ pattern) text =
    if byte == 42 then any_suffix (matches pattern) text
    else begins_with byte (matches pattern) text

-- the bytes may stand for this byte of a pattern: any bytes for `*`, one byte for `?`, a byte itself for every other
abbrev pub may_stand : ℕ → List ℕ → Bool
may_stand byte part =
    if byte == 42 then true
    else (if byte == 63 then length part == 1 else bytes_eq part (byte ∷ []))

-- there is a part for each byte of the pattern, which may stand for it
abbrev pub stand_for : List ℕ → List (List ℕ) → Bool
stand_for [] [] = true
stand_for [] (part ∷ parts) = false
stand_for (byte ∷ pattern) [] = false
stand_for (byte ∷ pattern) (part ∷ parts) = may_stand byte part && stand_for pattern parts

-- the whole text is the pattern with each `*` replaced by any bytes and each `?` by one byte
pub record IsReplaced (pattern text : List ℕ) : Type 0 where
  pub parts : List (List ℕ)
  pub stand : stand_for pattern parts ≡ true
  pub joined : flat_map (λ (part : List ℕ). part) parts ≡ text
