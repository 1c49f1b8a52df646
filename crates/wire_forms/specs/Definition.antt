-- Column definitions and column counts (MySQL source documentation, Protocol::ColumnDefinition41, ProtocolText::Resultset).
use Rattle.std.specs.Prelude.{ℕ, ◌==◌, ◌&&◌, nat_le, if◌then◌else◌, Bool, false, zero, suc, List, [], ◌∷◌, length, Option, Some, None, option_and_then}
use Rattle.wire_forms.specs.Lenenc.{lenenc_of}
use Rattle.wire_forms.specs.Row.{string_of}

-- what stands after so many length-encoded strings
abbrev pub after_strings : ℕ → List ℕ → Option (List ℕ)
after_strings zero bytes = Some bytes
after_strings (suc count) bytes =
    option_and_then (λ (string : List ℕ × List ℕ). after_strings count string.1) (string_of bytes)

-- the fields of a fixed length: their length 0c, charset 2, column length 4, type 1, flags 2, decimals 1, and two bytes
abbrev pub is_fixed_part : Option (List ℕ) → Bool
is_fixed_part None = false
is_fixed_part (Some []) = false
is_fixed_part (Some (byte ∷ bytes)) = byte == 12 && length bytes == 12

-- six length-encoded strings, and the fields of a fixed length
abbrev pub is_definition : List ℕ → Bool
is_definition payload = is_fixed_part (after_strings 6 payload)

-- the number of columns of a result set: from 1 to 65,535, and nothing after it
abbrev pub column_count : List ℕ → Option ℕ
column_count payload =
    option_and_then (λ (number : ℕ × ℕ).
    if number.1 == length payload && nat_le 1 number.0 && nat_le number.0 65535 then Some number.0
    else None) (lenenc_of payload)
