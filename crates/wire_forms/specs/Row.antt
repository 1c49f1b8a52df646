-- Rows of a text result set (MySQL source documentation, ProtocolText::ResultsetRow).
use Rattle.std.specs.Prelude.{ℕ, ◌==◌, nat_lt, if◌then◌else◌, zero, suc, List, [], ◌∷◌, length, take, drop, Option, Some, None, option_and_then, option_map, unwrap_or}
use Rattle.plain_data.specs.Cell.{Cell}
use Rattle.wire_forms.specs.Lenenc.{lenenc_of}

-- so many bytes at the front, and the rest, where there are so many
abbrev pub front_of : ℕ → List ℕ → Option (List ℕ × List ℕ)
front_of size bytes =
    if nat_lt (length bytes) size then None else Some (take size bytes, drop size bytes)

-- the length-encoded string that begins the bytes, and the rest (Protocol::LengthEncodedString)
abbrev pub string_of : List ℕ → Option (List ℕ × List ℕ)
string_of bytes =
    option_and_then (λ (number : ℕ × ℕ). front_of number.0 (drop number.1 bytes)) (lenenc_of bytes)

-- the cell that begins the bytes, and the rest: the byte fb is NULL
abbrev pub cell_in_front : List ℕ → Option (Cell × List ℕ)
cell_in_front [] = None
cell_in_front (byte ∷ bytes) =
    if byte == 251 then Some (None, bytes)
    else option_map (λ (string : List ℕ × List ℕ). (Some string.0, string.1))
    (string_of (byte ∷ bytes))

-- so many cells one after the other, and nothing after them
abbrev pub cells_of : ℕ → List ℕ → Option (List Cell)
cells_of zero [] = Some []
cells_of zero (byte ∷ bytes) = None
cells_of (suc count) bytes =
    option_and_then (λ (first : Cell × List ℕ). option_map (λ (cells : List Cell). first.0 ∷ cells)
    (cells_of count first.1)) (cell_in_front bytes)

-- the cells, where the bytes are so many
abbrev pub cells_or_none : ℕ → List ℕ → List Cell
cells_or_none count bytes = unwrap_or (cells_of count bytes) []
