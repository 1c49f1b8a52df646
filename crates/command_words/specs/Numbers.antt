-- Numbers in decimal.
use Rattle.std.specs.Prelude.{ℕ, ◌≤◌, ◌==◌, ◌&&◌, ◌||◌, not, nat_le, if◌then◌else◌, Bool, false, List, [], ◌∷◌, length, Result, Ok, Err}
use Rattle.std.specs.List.{list_all}
use Rattle.std.specs.Str.Parse.{digits_value}
use Rattle.plain_data.specs.Byte.{is_digit}
use Rattle.command_words.specs.declared.fault.WordsFault.{WordsFault}
use Rattle.command_words.specs.declared.fault.WordsFault.TheVariants.{NotRead}

-- from `least` to `most`
abbrev pub LiesIn : ℕ → ℕ → ℕ → Type 0
LiesIn least most number = (least ≤ number) × (number ≤ most)

-- decimal digits without a sign, and without a zero (48) before other digits
abbrev pub is_plain_number : List ℕ → Bool
is_plain_number [] = false
is_plain_number (first ∷ others) =
    list_all is_digit (first ∷ others) && (not (first == 48) || length others == 0)

-- the number that the text spells, where it lies in this range
abbrev pub number_in : ℕ → ℕ → List ℕ → Result ℕ WordsFault
number_in least most text =
    let number = digits_value 10 text in
    if is_plain_number text && (nat_le least number && nat_le number most) then Ok number
    else Err NotRead
