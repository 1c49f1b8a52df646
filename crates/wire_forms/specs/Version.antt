-- The version of a server, and what it has (MySQL Reference Manual, SHOW BINARY LOG STATUS).
use Rattle.std.specs.Prelude.{ℕ, ◌+◌, ◌-◌, ◌*◌, ◌==◌, ◌&&◌, ◌||◌, nat_le, nat_lt, min, Bool, false, List, [], ◌∷◌, take, drop, fold}
use Rattle.std.specs.List.{prefix_len}
use Rattle.plain_data.specs.Byte.{is_digit, digits_value}

-- how many digits stand at the front
abbrev pub digit_count : List ℕ → ℕ
digit_count bytes = prefix_len is_digit bytes

-- the number that the digits at the front spell, or the first nine of more
abbrev pub front_number : List ℕ → ℕ
front_number bytes = digits_value (take (min (digit_count bytes) 9) bytes)

-- a version of these two numbers is 8.2 or a later one
abbrev pub is_from_8_2 : ℕ → ℕ → Bool
is_from_8_2 first second = nat_lt 8 first || (first == 8 && nat_le 2 second)

-- what stands after a version's first number: a dot and a second number, and the two are 8.2 or a later version
abbrev pub is_newer_after : ℕ → List ℕ → Bool
is_newer_after first [] = false
is_newer_after first (byte ∷ bytes) =
    byte == 46 && nat_le 1 (digit_count bytes) && is_from_8_2 first (front_number bytes)

-- a version that has SHOW BINARY LOG STATUS: it begins with one to nine digits, a dot and digits, and is 8.2 or a later one
abbrev pub is_newer : List ℕ → Bool
is_newer version =
    nat_le 1 (digit_count version) && nat_le (digit_count version) 9 && is_newer_after
    (front_number version) (drop (digit_count version) version)
