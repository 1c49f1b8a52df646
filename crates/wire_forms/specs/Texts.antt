-- Texts that end at a 00 (MySQL source documentation, Protocol::NullTerminatedString), and the name of the one plugin that is answered.
use Rattle.std.specs.Prelude.{ℕ, ◌+◌, ◌==◌, nat_lt, if◌then◌else◌, List, length, take, drop, Option, Some, None, codes}
use Rattle.std.specs.List.{position_or_len}

-- how many bytes stand before the first 00, or how many there are without one
abbrev pub text_size : List ℕ → ℕ
text_size bytes = position_or_len (λ byte. byte == 0) bytes

-- the bytes up to the first 00, and those after it
abbrev pub to_zero : List ℕ → Option (List ℕ × List ℕ)
to_zero bytes =
    if nat_lt (text_size bytes) (length bytes)
    then Some (take (text_size bytes) bytes, drop (text_size bytes + 1) bytes) else None

-- the plugin whose answer to a scramble is computed
abbrev pub native_password : List ℕ
native_password = codes "mysql_native_password"
