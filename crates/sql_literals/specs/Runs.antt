-- Runs of bytes that stand for themselves.
use Rattle.std.specs.Prelude.{ℕ, Bool, ◌≡◌, ◌==◌, ◌||◌, ◌+◌, ◌*◌, ◌<◌, ◌≤◌, ◌++◌, nat_lt, false, List, length, map, slice_index, take, if◌then◌else◌}
use Rattle.std.specs.List.{flat_map}
use Rattle.plain_data.specs.Buffer.{BufferView}
use Rattle.sql_cells.specs.Literal.{is_special, escaped_byte}

-- the bytes from the one place up to the other are there, and none of them is special
pub record PlainRun (bytes : List ℕ) (from to : ℕ) : Type 0 where
  pub low : from ≤ to
  pub high : to ≤ length bytes
  pub plain : (k : ℕ) → from ≤ k → k < to → is_special (slice_index bytes k) ≡ false

-- a byte that may be special: a control character, a quote or a backslash
abbrev pub is_suspect : ℕ → Bool
is_suspect byte = nat_lt byte 32 || byte == 34 || byte == 39 || byte == 92

-- 255 at each byte that passes the test, and 0 elsewhere
abbrev pub marks : (ℕ → Bool) → List ℕ → List ℕ
marks test bytes = map (λ byte. if test byte then 255 else 0) bytes

-- so many of the bytes stand escaped at the front of the room, up to a place
pub record Escaped (bytes : List ℕ) (done : ℕ) (room : List ℕ) (at : ℕ) : Type 0 where
  pub within : at ≤ 2 * done
  pub bytes_are : take at room ≡ flat_map escaped_byte (take done bytes)

-- the bytes were appended, each special one escaped, in the room that was there
pub record AppendsEscaped (bytes : List ℕ) (old new : BufferView) : Type 0 where
  pub text : new.bytes ≡ old.bytes ++ flat_map escaped_byte bytes
  pub room : new.spare + length (flat_map escaped_byte bytes) ≡ old.spare
