-- Digits and white space of ASCII.
use Rattle.std.specs.Prelude.{ℕ, ◌+◌, ◌-◌, ◌*◌, ◌==◌, ◌&&◌, ◌||◌, nat_le, Bool, List, fold}

-- a decimal digit
abbrev pub is_digit : ℕ → Bool
is_digit byte = nat_le 48 byte && nat_le byte 57

-- a space, a tab, a line feed or a carriage return
abbrev pub is_white : ℕ → Bool
is_white byte = byte == 32 || byte == 9 || byte == 10 || byte == 13

-- the number that digits spell, the first of them the highest
abbrev pub digits_value : List ℕ → ℕ
digits_value digits = fold (λ n digit. n * 10 + (digit - 48)) 0 digits
