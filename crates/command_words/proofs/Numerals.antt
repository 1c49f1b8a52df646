-- Plain numbers, as std reads them.
use Rattle.std.proofs.Common.{◌≡◌, ◌≢◌, ◌<◌, ◌^◌, ◌&&◌, ℕ, Bool, true, false, List, [], ◌∷◌, Ok, Err, refl, arith, sym, subst, inl, inr, if◌then◌else◌}
use Rattle.std.specs.List.{list_all}
use Rattle.std.specs.Char.{digit_value}
use Rattle.std.specs.Str.Parse.{AllDigits, IsNumeral, digits_value, without_leading_plus}
use Rattle.std.proofs.lemmas.Str.Parse.{without_leading_plus_none}
use Rattle.std.proofs.lemmas.Bool.{cases_lt, lt-leb}
use Rattle.plain_data.specs.Byte.{is_digit}
use Rattle.command_words.specs.Numbers.{is_plain_number, number_in}
use Rattle.command_words.specs.declared.fault.WordsFault.TheVariants.{NotRead}

and_first : (a b : Bool) → (a && b) ≡ true → a ≡ true
and_first true b both = refl
and_first false b both = both

and_second : (a b : Bool) → (a && b) ≡ true → b ≡ true
and_second true b both = both
and_second false b both = cc

digit_small : (byte : ℕ) → is_digit byte ≡ true → digit_value byte < 10
digit_small byte h = grind arith

all_digits : (text : List ℕ) → list_all is_digit text ≡ true → AllDigits 10 text
all_digits [] all = tt
all_digits (byte ∷ rest) all = (digit_small byte (and_first (is_digit byte) _ all), all_digits rest (and_second (is_digit byte) _ all))

no_plus : (byte : ℕ) → is_digit byte ≡ true → byte ≢ 43
no_plus byte h is =
    let bad : is_digit 43 ≡ true = subst (λ (b : ℕ). is_digit b ≡ true) is h in
    cc

-- a plain number is a numeral, and has no sign to be taken off
pub plain_is_numeral : (text : List ℕ) → is_plain_number text ≡ true → IsNumeral 10 text × (without_leading_plus text ≡ text)
plain_is_numeral [] plain = cc
plain_is_numeral (first ∷ others) plain =
    let digits : list_all is_digit (first ∷ others) ≡ true = and_first (list_all is_digit (first ∷ others)) _ plain in
    let first_is : is_digit first ≡ true = and_first (is_digit first) _ digits in
    ((omega arith, all_digits (first ∷ others) digits), without_leading_plus_none (first ∷ others) (no_plus first first_is))

too_high : (plain above below : Bool) (n : ℕ) → below ≡ false
    → (if plain && (above && below) then Ok n else Err NotRead) ≡ Err NotRead
too_high false above below n out = refl
too_high true false below n out = refl
too_high true true false n out = refl
too_high true true true n out = cc

-- a plain number that std doesn't read is too large
pub too_large : (least most : ℕ) (text : List ℕ) → is_plain_number text ≡ true → most < 2 ^ 32
    → ((IsNumeral 10 (without_leading_plus text) × (digits_value 10 (without_leading_plus text) < 2 ^ 32)) → ⊥)
    → number_in least most text ≡ Err NotRead
too_large least most text plain fits none =
    let numeral = plain_is_numeral text plain in
    let refused : (digits_value 10 text < 2 ^ 32) → ⊥ = λ small. none
    (subst (λ (t : List ℕ). IsNumeral 10 t × (digits_value 10 t < 2 ^ 32)) (sym numeral.1) (numeral.0, small)) in
    elim (cases_lt most (digits_value 10 text)) [
      | inl past ↦ too_high (is_plain_number text) _ _ (digits_value 10 text) (lt-leb (digits_value 10 text) most past)
      | inr within ↦ absurd (refused (omega arith))
    ]
