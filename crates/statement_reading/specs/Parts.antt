-- The variable parts of statements as languages: each has exactly the texts that are written for its values.
use Rattle.std.specs.Prelude.{◌≡◌, ℕ, ◌<◌, ◌≤◌, ◌^◌, ◌==◌, ◌&&◌, ◌||◌, nat_le, if◌then◌else◌, Bool, true, false, ℤ, List, [], ◌∷◌, ◌+◌, decimal}
use Rattle.std.specs.Fmt.{signed_decimal}
use Rattle.std.specs.List.{slice_index_or}
use Rattle.grammar.specs.Language.{Language, Nothing, Fixed, One, Then, Or, Times, Many}
use Rattle.sql_cells.specs.Literal.{is_special}
use Rattle.statement_forms.specs.Insert.{is_inside, QuotedName, NextName}
use Rattle.statement_forms.specs.Statement.{is_lower_digit}
use Rattle.statement_forms.specs.Number.{IsI128}
use Rattle.statement_reading.specs.declared.reading.kind.PartKind.{PartKind}
use Rattle.statement_reading.specs.declared.reading.kind.PartKind.TheVariants.{Name, NameList, Keys, TextLiteral, Digest, Count, Bound, Bounds}

-- names with commas between them, at least one
unfoldable pub Names : Language
Names = Then QuotedName (Many NextName)

-- a fourth name, or none
unfoldable pub FourthKey : Language
FourthKey = Or NextName Nothing

-- a third name and maybe a fourth
unfoldable pub ThirdKey : Language
ThirdKey = Then NextName FourthKey

-- a third name and maybe a fourth, or none
unfoldable pub LaterKeys : Language
LaterKeys = Or ThirdKey Nothing

-- the names after the first: one to three
unfoldable pub NextKeys : Language
NextKeys = Then NextName LaterKeys

-- two to four names with commas between them
unfoldable pub KeyNames : Language
KeyNames = Then QuotedName NextKeys

-- whether a name goes on after a byte
abbrev pub inside_after : Bool → ℕ → Bool
inside_after true byte = is_inside byte
inside_after false byte = byte == 96

-- one for a comma between names
abbrev pub comma_count : Bool → ℕ → ℕ
comma_count true byte = 0
comma_count false byte = if byte == 44 then 1 else 0

-- how many commas stand between names
abbrev pub commas : Bool → List ℕ → ℕ
commas inside [] = 0
commas inside (byte ∷ bytes) = comma_count inside byte + commas (inside_after inside byte) bytes

-- a byte that is written as it is between single quotes
abbrev pub is_own : ℕ → Bool
is_own byte = if is_special byte then false else true

-- the letters that are written after a backslash: 0 n r Z " ' \
abbrev pub is_written_letter : ℕ → Bool
is_written_letter byte =
    byte == 48 || byte == 110 || byte == 114 || byte == 90 || byte == 34 || byte == 39 || byte == 92

-- a backslash and the letter for a special byte
unfoldable pub WrittenEscape : Language
WrittenEscape = Then (Fixed (92 ∷ [])) (One is_written_letter)

-- one byte between single quotes
unfoldable pub WrittenByte : Language
WrittenByte = Or (One is_own) WrittenEscape

-- a single quote and bytes after it, as they are written before the closing one
unfoldable pub OpenedText : Language
OpenedText = Then (Fixed (39 ∷ [])) (Many WrittenByte)

-- a text between single quotes, as it is written
unfoldable pub WrittenText : Language
WrittenText = Then OpenedText (Fixed (39 ∷ []))

-- 40 lower-case hexadecimal digits
unfoldable pub DigestText : Language
DigestText = Times (One is_lower_digit) 40

-- a decimal digit
abbrev pub is_decimal_digit : ℕ → Bool
is_decimal_digit byte = nat_le 48 byte && nat_le byte 57

-- a number from the least one up to below the limit
unfoldable pub Within : ℕ → ℕ → Language
Within least limit text = (n : ℕ) × (least ≤ n) × (n < limit) × (text ≡ decimal n)

-- a number of 128 bits
unfoldable pub BoundText : Language
BoundText text = (z : ℤ) × IsI128 z × (text ≡ signed_decimal z)

-- a comma and a number of 128 bits
unfoldable pub NextBound : Language
NextBound = Then (Fixed (44 ∷ [])) BoundText

-- one more than so many numbers with commas between them
unfoldable pub BoundsAnd : ℕ → Language
BoundsAnd more = Then BoundText (Times NextBound more)

-- two to four numbers with commas between them
pub record IsBoundRow (text : List ℕ) : Type 0 where
  pub more : ℕ
  pub least : 1 ≤ more
  pub most : more ≤ 3
  pub bounds : BoundsAnd more text

-- the texts of a part, after the parts before it
abbrev pub part_language : PartKind → List (List ℕ) → Language
part_language Name before = QuotedName
part_language NameList before = Names
part_language Keys before = KeyNames
part_language TextLiteral before = WrittenText
part_language Digest before = DigestText
part_language Count before = Within 0 (2 ^ 64)
part_language Bound before = BoundText
part_language (Bounds index) before = BoundsAnd (commas false (slice_index_or before index []))
