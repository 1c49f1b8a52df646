-- How names are spelled in the names of files.
use Rattle.std.specs.Prelude.{ℕ, ◌+◌, ◌/◌, ◌%◌, ◌==◌, ◌||◌, ◌&&◌, nat_le, nat_lt, if◌then◌else◌, Bool, List, [], ◌∷◌}
use Rattle.std.specs.List.{flat_map}

-- a letter, a digit or `_` of ASCII stands as it is
abbrev pub stands_as_it_is : ℕ → Bool
stands_as_it_is byte =
    (nat_le 97 byte && nat_le byte 122) ||
    ((nat_le 65 byte && nat_le byte 90) || ((nat_le 48 byte && nat_le byte 57) || byte == 95))

-- a hexadecimal digit in lower case
abbrev pub lower_digit : ℕ → ℕ
lower_digit digit = if nat_lt digit 10 then digit + 48 else digit + 87

-- any other byte is `@` and two hexadecimal digits
abbrev pub file_name_byte : ℕ → List ℕ
file_name_byte byte =
    if stands_as_it_is byte then byte ∷ []
    else 64 ∷ lower_digit (byte / 16) ∷ lower_digit (byte % 16) ∷ []

-- how a name is spelled in the name of a file: letters, digits and `_` as they are, each other byte as `@` and two digits
abbrev pub escaped_name : List ℕ → List ℕ
escaped_name name = flat_map file_name_byte name
