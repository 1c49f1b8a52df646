-- Names as they are spelled in names of files, read.
use Rattle.std.specs.Prelude.{◌≡◌, ◌≢◌, ◌≤◌, ◌<◌, ⊤, ℕ, List, [], ◌∷◌, ◌++◌, length, IsUtf8}
use Rattle.server_data.specs.Names.{escaped_name, file_name_byte, lower_digit}

-- the value of a digit, which is written so
pub record IsDigit (digit : ℕ) (byte : ℕ) : Type 0 where
  pub low : digit ≤ 15
  pub is : lower_digit digit ≡ byte

-- all are bytes
abbrev pub AreBytes : List ℕ → Type 0
AreBytes [] = ⊤
AreBytes (byte ∷ bytes) = (byte < 256) × AreBytes bytes

-- the text begins with the spelling of a byte
pub record IsFront (text : List ℕ) (byte : ℕ) (rest : List ℕ) : Type 0 where
  pub is : text ≡ file_name_byte byte ++ rest
  pub shorter : length rest < length text

-- the text begins with the spelling of no byte
abbrev pub IsNoFront : List ℕ → Type 0
IsNoFront text = (byte : ℕ) (rest : List ℕ) → byte < 256 → text ≢ file_name_byte byte ++ rest

-- the text spells no bytes
abbrev pub SpellsNone : List ℕ → Type 0
SpellsNone text = (bytes : List ℕ) → AreBytes bytes → escaped_name bytes ≢ text

-- the text spells the name
pub record IsSpelt (text : List ℕ) (name : List ℕ) : Type 0 where
  pub is : escaped_name name ≡ text
  pub utf8 : IsUtf8 name
  pub there : name ≢ []

-- the text spells no name
abbrev pub SpellsNoName : List ℕ → Type 0
SpellsNoName text = (name : List ℕ) → ¬ IsSpelt text name
