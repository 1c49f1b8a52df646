-- Literals of SQL as they are read: which bytes are literals, and which cell each spells.
-- Beside what is written they take \b for 08, a doubled quote for one, any byte but the quote and the backslash as it is, and lower-case hexadecimal digits.
use Rattle.std.specs.Prelude.{ℕ, ◌≡◌, ◌-◌, ◌+◌, ◌==◌, ◌||◌, ◌⊎◌, ⊤, if◌then◌else◌, Bool, true, false, List, [], ◌∷◌, ◌++◌, length, take, drop, codes, Option, Some, None, option_map, Result, Ok, Err}
use Rattle.hex.specs.Hex.{is_hex_digit, decode_pairs}
use Rattle.hex.specs.declared.error.FromHexError.{FromHexError}
use Rattle.grammar.specs.Language.{Language, Fixed, One, Then, Or, Many, Longest}
use Rattle.sql_cells.specs.Number.{Number}
use Rattle.plain_data.specs.Cell.{Cell}
use Rattle.sql_cells.specs.Literal.{literal}
use Rattle.sql_cells.specs.declared.cell_kind.CellKind.{CellKind}
use Rattle.sql_cells.specs.declared.cell_kind.CellKind.TheVariants as Kind

-- the word NULL, in capitals
unfoldable pub Null : Language
Null = Fixed (codes "NULL")

-- a byte that stands for itself between single quotes
abbrev pub is_plain : ℕ → Bool
is_plain byte = if byte == 39 then false else (if byte == 92 then false else true)

-- the letters that stand after a backslash: 0 b n r Z " ' \
abbrev pub is_escape_letter : ℕ → Bool
is_escape_letter byte =
    byte == 48 || byte == 98 || byte == 110 || byte == 114 || byte == 90 || byte == 34 || byte == 39
    || byte == 92

-- a backslash and a letter
unfoldable pub Escape : Language
Escape = Then (Fixed (92 ∷ [])) (One is_escape_letter)

-- one byte between quotes
unfoldable pub Inner : Language
Inner = Or (One is_plain) Escape

-- a quote and what stands between quotes, with no closing quote yet
unfoldable pub Opened : Language
Opened = Then (Fixed (39 ∷ [])) (Many Inner)

-- from a quote to the next one that isn't after a backslash
unfoldable pub Quoted : Language
Quoted = Then Opened (Fixed (39 ∷ []))

-- parts from quote to quote, one after another: a doubled quote is where one ends and the next begins
unfoldable pub Text : Language
Text = Then Quoted (Many Quoted)

-- two hexadecimal digits
unfoldable pub Pair : Language
Pair = Then (One is_hex_digit) (One is_hex_digit)

-- X' and pairs of digits, with no closing quote yet
unfoldable pub OpenedHex : Language
OpenedHex = Then (Fixed (88 ∷ 39 ∷ [])) (Many Pair)

-- pairs of hexadecimal digits between X' and a quote
unfoldable pub Hex : Language
Hex = Then OpenedHex (Fixed (39 ∷ []))

-- CONVERT( and a text, with nothing after it yet
unfoldable pub OpenedConverted : Language
OpenedConverted = Then (Fixed (codes "CONVERT(")) Text

-- a text as one of utf8mb4, in this spelling only (MySQL 8.0 Reference Manual, 14.10 "Cast Functions and Operators")
unfoldable pub Converted : Language
Converted = Then OpenedConverted (Fixed (codes " USING utf8mb4)"))

-- NULL, a number, a text, hexadecimal digits, or a converted text
unfoldable pub Literal : Language
Literal = Or Null (Or Number (Or Text (Or Hex Converted)))

-- the byte that a letter after a backslash stands for
abbrev pub letter_value : ℕ → ℕ
letter_value letter =
    if letter == 48 then 0 else
    (if letter == 98 then 8
    else (if letter == 110 then 10
    else (if letter == 114 then 13 else (if letter == 90 then 26 else letter))))

-- what the bytes between the first and the last quote stand for: two bytes stand for one after a backslash and after a quote
abbrev pub text_value : List ℕ → List ℕ
text_value [] = []
text_value (byte ∷ []) = byte ∷ []
text_value (byte ∷ next ∷ bytes) =
    if byte == 92 then letter_value next ∷ text_value bytes
    else (if byte == 39 then 39 ∷ text_value bytes else byte ∷ text_value (next ∷ bytes))

-- the bytes that pairs of digits stand for
abbrev pub hex_bytes : Result (List ℕ) FromHexError → List ℕ
hex_bytes (Ok bytes) = bytes
hex_bytes (Err fault) = []

-- the bytes without the first and the last ones, of which there are so many
abbrev pub inside : ℕ → ℕ → List ℕ → List ℕ
inside first last bytes = take (length bytes - (first + last)) (drop first bytes)

-- the cell that a literal spells: NULL, what stands between the quotes, or the bytes themselves where they are a number
abbrev pub cell_of : List ℕ → Cell
cell_of [] = None
cell_of (byte ∷ bytes) =
    if byte == 78 then None else (
    if byte == 39 then Some (text_value (inside 1 1 (byte ∷ bytes))) else (
    if byte == 88 then Some (hex_bytes (decode_pairs 0 (inside 2 1 (byte ∷ bytes)))) else (
    if byte == 67 then Some (text_value (inside 9 16 (byte ∷ bytes))) else Some (byte ∷ bytes))))

-- the kind as which a literal is spelled, by its first byte: NULL has none
abbrev pub literal_kind : List ℕ → Option CellKind
literal_kind [] = None
literal_kind (byte ∷ bytes) =
    if byte == 78 then None else (
    if byte == 39 then Some Kind.Text else (
    if byte == 88 then Some Kind.Hex else (
    if byte == 67 then Some Kind.Converted else Some Kind.Number)))

-- the bytes are a literal, and spell the cell
pub record Spells (bytes : List ℕ) (cell : Cell) : Type 0 where
  pub literal : Literal bytes
  pub cell_is : cell ≡ cell_of bytes

-- nothing follows, or a comma or a closing parenthesis does
abbrev pub EndsThere : List ℕ → Type 0
EndsThere [] = ⊤
EndsThere (byte ∷ bytes) = (byte ≡ 44) ⊎ (byte ≡ 41)

-- what is written spells its cell, as the kind that was asked for, and is read back whole where nothing, a comma or a closing parenthesis follows
pub record IsReadBack (kind : CellKind) (cell : Cell) : Type 0 where
  pub spells : Spells (literal kind cell) cell
  pub kind_is : literal_kind (literal kind cell) ≡ option_map (λ _. kind) cell
  pub whole : (more : List ℕ) → EndsThere more →
      Longest Literal (literal kind cell ++ more) (length (literal kind cell))
