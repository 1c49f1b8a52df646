-- Languages of bytes, and how far some bytes go along with one.
use Rattle.std.specs.Prelude.{◌≡◌, ℕ, zero, suc, ◌<◌, ◌≤◌, ◌⊎◌, Bool, true, List, [], ◌∷◌, ◌++◌, length, take, Result, MatchResult}
use Rattle.grammar.specs.Reading.{size_of}

-- which lists of bytes are texts
abbrev pub Language : Type 1
Language = List ℕ → Type 0

-- some text of the language begins with these bytes
unfoldable pub Begins : Language → List ℕ → Type 0
Begins L front = (more : List ℕ) × L (front ++ more)

-- the longest prefix of the bytes with which some text begins has this length
pub record IsPlace (L : Language) (bytes : List ℕ) (place : ℕ) : Type 0 where
  pub within : place ≤ length bytes
  pub begins : Begins L (take place bytes)
  pub ends : (n : ℕ) → place < n → n ≤ length bytes → ¬ Begins L (take n bytes)

-- What a reader inside a grammar answers: how far the bytes go along with the language, and whether that prefix is a text.
pub record Reads (L : Language) (bytes : List ℕ) (reading : Result ℕ ℕ) : Type 0 where
  pub place : IsPlace L bytes (size_of reading)
  pub text : MatchResult reading (λ size. L (take size bytes)) (λ size. ¬ L (take size bytes))

-- the whole bytes are no text, and leave the language at that place
pub record Refused (L : Language) (bytes : List ℕ) (place : ℕ) : Type 0 where
  pub at : IsPlace L bytes place
  pub no_text : ¬ L bytes

-- no prefix of the bytes is a text
pub record HasNone (L : Language) (bytes : List ℕ) : Type 0 where
  pub none : (n : ℕ) → n ≤ length bytes → ¬ L (take n bytes)

-- the longest prefix that is a text has this length
pub record Longest (L : Language) (bytes : List ℕ) (size : ℕ) : Type 0 where
  pub within : size ≤ length bytes
  pub text : L (take size bytes)
  pub longer : (n : ℕ) → size < n → n ≤ length bytes → ¬ L (take n bytes)

-- no prefix is a text, and the bytes leave the language at that place
pub record Absent (L : Language) (bytes : List ℕ) (place : ℕ) : Type 0 where
  pub at : IsPlace L bytes place
  pub no_text : HasNone L bytes

-- What passes over a text at the front answers: the length of the longest prefix that is a text, or, where none is, the place.
abbrev pub Skips : Language → List ℕ → Result ℕ ℕ → Type 0
Skips L bytes reading = MatchResult reading (Longest L bytes) (Absent L bytes)

-- the empty text
unfoldable pub Nothing : Language
Nothing bytes = bytes ≡ []

-- one text
unfoldable pub Fixed : List ℕ → Language
Fixed word bytes = bytes ≡ word

-- one byte that passes the test
unfoldable pub One : (ℕ → Bool) → Language
One test bytes = (b : ℕ) × (bytes ≡ b ∷ []) × (test b ≡ true)

-- a text of the one, and then a text of the other
unfoldable pub Then : Language → Language → Language
Then A B bytes = (a : List ℕ) × (b : List ℕ) × (bytes ≡ a ++ b) × A a × B b

-- a text of the one, and then a text of what that one asks for
unfoldable pub Next : Language → (List ℕ → Language) → Language
Next A B bytes = (a : List ℕ) × (b : List ℕ) × (bytes ≡ a ++ b) × A a × B a b

-- a text of the one or of the other
unfoldable pub Or : Language → Language → Language
Or A B bytes = A bytes ⊎ B bytes

-- so many texts one after another
unfoldable pub Times : Language → ℕ → Language
Times L zero = Nothing
Times L (suc n) = Then L (Times L n)

-- texts one after another, however many
unfoldable pub Many : Language → Language
Many L bytes = (n : ℕ) × Times L n bytes
