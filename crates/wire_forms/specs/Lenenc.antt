-- Length-encoded integers (MySQL source documentation, Protocol::LengthEncodedInteger).
use Rattle.std.specs.Prelude.{ℕ, ◌+◌, ◌*◌, ◌/◌, ◌%◌, ◌==◌, nat_lt, if◌then◌else◌, List, [], ◌∷◌, length, take, Option, Some, None}
use Rattle.std.specs.Int.{to_le_bytes, from_le_bytes, w64}

-- the shortest spelling of a number below 2 ^ 64: the least significant byte comes first
abbrev pub lenenc : ℕ → List ℕ
lenenc n =
    if nat_lt n 251 then n ∷ [] else
    (if nat_lt n 65536 then 252 ∷ n % 256 ∷ n / 256 ∷ [] else
    (if nat_lt n 16777216 then 253 ∷ n % 256 ∷ n / 256 % 256 ∷ n / 65536 ∷ [] else
    (254 ∷ to_le_bytes w64 n)))

-- a number of two bytes after the first one, and the length of the whole spelling
abbrev pub two_bytes : List ℕ → Option (ℕ × ℕ)
two_bytes (a ∷ b ∷ rest) = Some (a + 256 * b, 3)
two_bytes rest = None

-- a number of three bytes after the first one, and the length of the whole spelling
abbrev pub three_bytes : List ℕ → Option (ℕ × ℕ)
three_bytes (a ∷ b ∷ c ∷ rest) = Some (a + 256 * b + 65536 * c, 4)
three_bytes rest = None

-- a number of eight bytes after the first one, and the length of the whole spelling
abbrev pub eight_bytes : List ℕ → Option (ℕ × ℕ)
eight_bytes rest =
    if nat_lt (length rest) 8 then None else Some (from_le_bytes w64 (take 8 rest), 9)

-- the number that begins the bytes, and the length of its spelling, which may be longer than need be
abbrev pub lenenc_of : List ℕ → Option (ℕ × ℕ)
lenenc_of [] = None
lenenc_of (first ∷ rest) =
    if nat_lt first 251 then Some (first, 1) else
    (if first == 252 then two_bytes rest else
    (if first == 253 then three_bytes rest else
    (if first == 254 then eight_bytes rest else None)))
