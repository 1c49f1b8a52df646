-- Answers of readers: a size where a text was read, a place where none was.
use Rattle.std.specs.Prelude.{ℕ, zero, suc, ◌+◌, Result, Ok, Err}

-- how far it went
abbrev pub size_of : Result ℕ ℕ → ℕ
size_of (Ok size) = size
size_of (Err place) = place

-- the reading of what follows n bytes, as a reading of all
abbrev pub shift : ℕ → Result ℕ ℕ → Result ℕ ℕ
shift n (Ok size) = Ok (n + size)
shift n (Err place) = Err (n + place)

-- the reading of what may be there or not
abbrev pub optional : Result ℕ ℕ → Result ℕ ℕ
optional (Ok size) = Ok size
optional (Err zero) = Ok 0
optional (Err (suc place)) = Err (suc place)
