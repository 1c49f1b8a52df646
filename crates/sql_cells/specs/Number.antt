-- Numbers of SQL without an exponent (MySQL 8.0 Reference Manual, 11.1.2 "Numeric Literals").
use Rattle.std.specs.Prelude.{ℕ, ◌==◌, ◌&&◌, nat_le, if◌then◌else◌, Bool, true, false, List, [], ◌∷◌}
use Rattle.std.specs.List.{list_all}
use Rattle.plain_data.specs.Byte.{is_digit}
use Rattle.grammar.specs.Language.{Language, Nothing, Fixed, One, Then, Or, Many}

-- one digit or more
unfoldable pub Digits : Language
Digits = Then (One is_digit) (Many (One is_digit))

-- nothing, or a minus
unfoldable pub Sign : Language
Sign = Or (Fixed (45 ∷ [])) Nothing

-- a point and digits
unfoldable pub Point : Language
Point = Then (Fixed (46 ∷ [])) Digits

-- nothing, or a point and digits
unfoldable pub Fraction : Language
Fraction = Or Point Nothing

-- an optional `-`, digits, and optionally a point and digits
unfoldable pub Number : Language
Number = Then (Then Sign Digits) Fraction

-- The same as a test.

-- one digit or more, and nothing else
abbrev pub is_digits : List ℕ → Bool
is_digits [] = false
is_digits (byte ∷ bytes) = list_all is_digit (byte ∷ bytes)

-- nothing, or a point and digits
abbrev pub is_fraction : List ℕ → Bool
is_fraction [] = true
is_fraction (byte ∷ bytes) = byte == 46 && is_digits bytes

-- digits, and after them nothing, or a point and digits
abbrev pub is_unsigned_after : Bool → List ℕ → Bool
is_unsigned_after any [] = any
is_unsigned_after any (byte ∷ bytes) =
    if is_digit byte then is_unsigned_after true bytes else any && is_fraction (byte ∷ bytes)

-- an optional minus, digits, and optionally a point and digits
abbrev pub is_number : List ℕ → Bool
is_number [] = false
is_number (byte ∷ bytes) =
    if byte == 45 then is_unsigned_after false bytes else is_unsigned_after false (byte ∷ bytes)
