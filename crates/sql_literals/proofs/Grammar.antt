-- The test of numbers and their grammar are the same.
use Rattle.std.proofs.Common.{◌≡◌, ◌==◌, ◌&&◌, inl, inr, ℕ, zero, suc, true, false, Bool, List, [], ◌∷◌, ◌++◌, refl, ap, ◌∙◌, arith, cond}
use Rattle.std.specs.List.{list_all}
use Rattle.std.proofs.lemmas.Bool.{and_parts}
use Rattle.std.proofs.lemmas.Bool.Decides.{nat_tests}
use Rattle.grammar.specs.Language.{Nothing, Fixed, One, Then, Or, Times, Many}
use Rattle.plain_data.specs.Byte.{is_digit}
use Rattle.sql_cells.specs.Number.{is_digits, is_fraction, is_unsigned_after, is_number, Digits, Sign, Point, Fraction, Number}

more_digits : (x : ℕ) (xs : List ℕ) → is_digit x ≡ true → Many (One is_digit) xs → Many (One is_digit) (x ∷ xs)
unfolding Many Times Then One
more_digits x xs digit (n, digits) = (suc n, (x ∷ [], xs, refl, (x, refl, digit), digits))

first_digit : (x : ℕ) (xs : List ℕ) → is_digit x ≡ true → Many (One is_digit) xs → Digits (x ∷ xs)
unfolding Digits Then One
first_digit x xs digit digits = (x ∷ [], xs, refl, (x, refl, digit), digits)

many_hold : (xs : List ℕ) → list_all is_digit xs ≡ true → Many (One is_digit) xs
unfolding Many Times Nothing
many_hold [] h = (0, refl)
many_hold (x ∷ xs) h = let parts = and_parts (is_digit x) (list_all is_digit xs) h in more_digits x xs parts.0 (many_hold xs parts.1)

many_pass : (n : ℕ) (xs : List ℕ) → Times (One is_digit) n xs → list_all is_digit xs ≡ true
unfolding Times Nothing Then One
many_pass zero xs none = ap (list_all is_digit) none
many_pass (suc n) xs (a, b, are, (x, is, digit), digits) =
    ap (list_all is_digit) (are ∙ ap (λ t. t ++ b) is) ∙ ap (λ t. t && list_all is_digit b) digit ∙ many_pass n b digits

pub digits_hold : (xs : List ℕ) → is_digits xs ≡ true → Digits xs
digits_hold [] h = absurd (cc)
digits_hold (x ∷ xs) h = let parts = and_parts (is_digit x) (list_all is_digit xs) h in first_digit x xs parts.0 (many_hold xs parts.1)

fraction_holds : (xs : List ℕ) → is_fraction xs ≡ true → Fraction xs
unfolding Fraction Or Nothing Point Then Fixed
fraction_holds [] h = inr refl
fraction_holds (x ∷ xs) h =
    let parts = and_parts (x == 46) (is_digits xs) h in
    let point : x ≡ 46 = grind (arith, nat_tests, parts.0) in
    inl (46 ∷ [], xs, ap (λ byte. byte ∷ xs) point, refl, digits_hold xs parts.1)

pub digits_pass : (xs : List ℕ) → Digits xs → is_digits xs ≡ true
unfolding Digits Then One Many
digits_pass xs (a, b, are, (x, is, digit), (n, digits)) =
    ap is_digits (are ∙ ap (λ t. t ++ b) is) ∙ ap (λ t. t && list_all is_digit b) digit ∙ many_pass n b digits

-- after a digit the rest is digits and maybe a fraction

after_holds : (xs : List ℕ) → is_unsigned_after true xs ≡ true → Then (Many (One is_digit)) Fraction xs
unfolding Then Many Times Nothing Fraction Or
after_holds [] h = ([], [], refl, (0, refl), inr refl)
after_holds (x ∷ xs) h = first (is_digit x) refl h (λ h. after_holds xs h) where
  first : (digit : Bool) → is_digit x ≡ digit → cond digit (is_unsigned_after true xs) (is_fraction (x ∷ xs)) ≡ true → (is_unsigned_after true xs ≡ true → Then (Many (One is_digit)) Fraction xs) → Then (Many (One is_digit)) Fraction (x ∷ xs)
  first true digit h more = let rest = more h in (x ∷ rest.0, rest.1, ap (λ t. x ∷ t) rest.2, more_digits x rest.0 digit rest.3, rest.4)
  first false digit h more = ([], x ∷ xs, refl, (0, refl), fraction_holds (x ∷ xs) h)

unsigned_holds : (xs : List ℕ) → is_unsigned_after false xs ≡ true → Then Digits Fraction xs
unfolding Then
unsigned_holds [] h = absurd (cc)
unsigned_holds (x ∷ xs) h = first (is_digit x) refl h where
  first : (digit : Bool) → is_digit x ≡ digit → cond digit (is_unsigned_after true xs) false ≡ true → Then Digits Fraction (x ∷ xs)
  first true digit h = let rest = after_holds xs h in (x ∷ rest.0, rest.1, ap (λ t. x ∷ t) rest.2, first_digit x rest.0 digit rest.3, rest.4)
  first false digit h = absurd (cc)

fraction_passes : (xs : List ℕ) → Fraction xs → is_unsigned_after true xs ≡ true
unfolding Fraction Or Point Then Fixed Nothing
fraction_passes xs (inl (a, b, are, is, digits)) = ap (is_unsigned_after true) (are ∙ ap (λ t. t ++ b) is) ∙ digits_pass b digits
fraction_passes xs (inr none) = ap (is_unsigned_after true) none

after_passes : (n : ℕ) (a b : List ℕ) → Times (One is_digit) n a → Fraction b → is_unsigned_after true (a ++ b) ≡ true
unfolding Times Nothing Then One
after_passes zero a b none fraction = ap (λ t. is_unsigned_after true (t ++ b)) none ∙ fraction_passes b fraction
after_passes (suc n) a b (c, d, are, (x, is, digit), digits) fraction =
    ap (λ t. is_unsigned_after true (t ++ b)) (are ∙ ap (λ t. t ++ d) is) ∙ rw digit (after_passes n d b digits fraction)

unsigned_passes : (a b : List ℕ) → Digits a → Fraction b → (x : ℕ) × (xs : List ℕ) × (a ++ b ≡ x ∷ xs) × (is_digit x ≡ true) × (is_unsigned_after false (x ∷ xs) ≡ true)
unfolding Digits Then One Many
unsigned_passes a b (c, d, are, (x, is, digit), (n, digits)) fraction =
    (x, d ++ b, ap (λ t. t ++ b) (are ∙ ap (λ t. t ++ d) is), digit, rw digit (after_passes n d b digits fraction))

pub number_holds : (bytes : List ℕ) → is_number bytes ≡ true → Number bytes
unfolding Number Then Sign Or Nothing Fixed
number_holds [] h = absurd (cc)
number_holds (x ∷ xs) h = first (x == 45) refl h where
  first : (minus : Bool) → (x == 45) ≡ minus → cond minus (is_unsigned_after false xs) (is_unsigned_after false (x ∷ xs)) ≡ true → Number (x ∷ xs)
  first true is h =
      let parts = unsigned_holds xs h in
      let point : x ≡ 45 = grind (arith, nat_tests) in
      (45 ∷ parts.0, parts.1, ap (λ byte. byte ∷ xs) point ∙ ap (λ t. 45 ∷ t) parts.2, (45 ∷ [], parts.0, refl, inl refl, parts.3), parts.4)
  first false is h = let parts = unsigned_holds (x ∷ xs) h in (parts.0, parts.1, parts.2, ([], parts.0, refl, inr refl, parts.3), parts.4)

pub number_passes : (bytes : List ℕ) → Number bytes → is_number bytes ≡ true
unfolding Number Then Sign Or Nothing Fixed
number_passes bytes (a, b, are, (c, d, parts, sign, digits), fraction) =
    let unsigned = unsigned_passes d b digits fraction in
    elim sign [
      | inl minus ↦ ap is_number (are ∙ ap (λ t. t ++ b) (parts ∙ ap (λ t. t ++ d) minus)) ∙ ap (is_unsigned_after false) unsigned.2 ∙ unsigned.4
      | inr none ↦
          let other : (unsigned.0 == 45) ≡ false = grind (arith, nat_tests, unsigned.3) in
          ap is_number (are ∙ ap (λ t. t ++ b) (parts ∙ ap (λ t. t ++ d) none) ∙ unsigned.2) ∙ rw other unsigned.4
    ]
