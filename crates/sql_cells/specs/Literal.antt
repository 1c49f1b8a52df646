-- Literals of SQL as they are written (MySQL 8.0 Reference Manual, 11.1.1 "String Literals", 11.1.2 "Numeric Literals", 11.1.4 "Hexadecimal Literals", 11.1.7 "NULL Values"; 14.10 "Cast Functions and Operators").
use Rattle.std.specs.Prelude.{ℕ, ◌==◌, ◌||◌, if◌then◌else◌, Bool, true, List, [], ◌∷◌, ◌++◌, Option, Some, None, codes}
use Rattle.std.specs.List.{flat_map}
use Rattle.plain_data.specs.Cell.{Cell}
use Rattle.hex.specs.Hex.{encode_upper}
use Rattle.sql_cells.specs.Number.{is_number}
use Rattle.sql_cells.specs.declared.cell_kind.CellKind.{CellKind}
use Rattle.sql_cells.specs.declared.cell_kind.CellKind.TheVariants.{Number, Text, Hex, Converted}

-- the bytes that stand after a backslash: 00, line feed, carriage return, 1a, both quotes, the backslash
abbrev pub is_special : ℕ → Bool
is_special byte =
    byte == 0 || byte == 10 || byte == 13 || byte == 26 || byte == 34 || byte == 39 || byte == 92

-- the letter that stands for a special byte: 0, n, r, Z, and each other one for itself
abbrev pub letter_of : ℕ → ℕ
letter_of byte =
    if byte == 0 then 48 else
    (if byte == 10 then 110 else (if byte == 13 then 114 else (if byte == 26 then 90 else byte)))

-- a byte as it stands between quotes: a special one as its letter after a backslash, each other one as it is
abbrev pub escaped_byte : ℕ → List ℕ
escaped_byte byte = if is_special byte then 92 ∷ letter_of byte ∷ [] else byte ∷ []

-- the bytes between single quotes, each special byte escaped
abbrev pub text_literal : List ℕ → List ℕ
text_literal bytes = 39 ∷ flat_map escaped_byte bytes ++ 39 ∷ []

-- two upper-case digits for each byte, between X' and a quote
abbrev pub hex_literal : List ℕ → List ℕ
hex_literal bytes = 88 ∷ 39 ∷ encode_upper bytes ++ 39 ∷ []

-- a text literal as a text of utf8mb4, so that a column of JSON takes it
abbrev pub converted_literal : List ℕ → List ℕ
converted_literal bytes = codes "CONVERT(" ++ text_literal bytes ++ codes " USING utf8mb4)"

-- the literal of a cell
abbrev pub literal : CellKind → Cell → List ℕ
literal Number None = codes "NULL"
literal Text None = codes "NULL"
literal Hex None = codes "NULL"
literal Converted None = codes "NULL"
literal Number (Some bytes) = bytes
literal Text (Some bytes) = text_literal bytes
literal Hex (Some bytes) = hex_literal bytes
literal Converted (Some bytes) = converted_literal bytes

-- whether the cell has a literal of that kind: a number has to be one
abbrev pub has_literal : CellKind → Cell → Bool
has_literal Number None = true
has_literal Text None = true
has_literal Hex None = true
has_literal Converted None = true
has_literal Number (Some bytes) = is_number bytes
has_literal Text (Some bytes) = true
has_literal Hex (Some bytes) = true
has_literal Converted (Some bytes) = true
