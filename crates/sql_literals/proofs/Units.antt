-- What stands between quotes, run by run and byte by byte.
use Rattle.std.proofs.Common.{◌≡◌, ◌≢◌, ◌==◌, ℕ, suc, ◌+◌, ◌-◌, ◌<◌, Bool, true, false, cond, List, [], ◌∷◌, ◌++◌, length, get_or, take, drop, refl, sym, ap, ◌∙◌, arith}
use Rattle.std.specs.List.{flat_map}
use Rattle.std.proofs.lemmas.Bool.Decides.{nat_tests}
use Rattle.std.proofs.lemmas.List.{take-append-drop, take_all, drop-drop, get_or-drop, get_or-take, length-drop, length-take-le}
use Rattle.sql_cells.specs.Literal.{is_special, letter_of, escaped_byte}
use Rattle.sql_literals.specs.Runs.{PlainRun}
use Rattle.sql_cells.specs.Spelling.{letter_value, text_value}

-- a byte that is neither the backslash nor the quote stands for itself
pub plain_unit : (x : ℕ) (xs : List ℕ) → (x == 92) ≡ false → (x == 39) ≡ false → text_value (x ∷ xs) ≡ x ∷ text_value xs
plain_unit x [] back quote = refl
plain_unit x (y ∷ xs) back quote = rw (back, quote) refl

not_special : (x : ℕ) → is_special x ≡ false → ((x == 92) ≡ false) × ((x == 39) ≡ false)
not_special x h = (grind (arith, nat_tests), grind (arith, nat_tests))

plain_front : (xs ys : List ℕ) → ((k : ℕ) → k < length xs → is_special (get_or xs k 0) ≡ false) → text_value (xs ++ ys) ≡ xs ++ text_value ys
plain_front [] ys h = refl
plain_front (x ∷ xs) ys h =
    let here = not_special x (h 0 (omega arith)) in
    plain_unit x (xs ++ ys) here.0 here.1 ∙ ap (λ t. x ∷ t) (plain_front xs ys (λ k l. h (suc k) (omega arith)))

-- a run of plain bytes stands for itself
pub run_unit : (xs : List ℕ) (i j : ℕ) → PlainRun xs i j → text_value (drop i xs) ≡ take (j - i) (drop i xs) ++ text_value (drop j xs)
run_unit xs i j r =
    let sum : i + (j - i) ≡ j = omega (arith, r.low) in
    let rest : drop (j - i) (drop i xs) ≡ drop j xs = drop-drop (j - i) i xs ∙ ap (λ n. drop n xs) sum in
    ap text_value (sym (take-append-drop (j - i) (drop i xs)))
    ∙ plain_front (take (j - i) (drop i xs)) (drop (j - i) (drop i xs)) (λ k l.
    let long : length (take (j - i) (drop i xs)) ≡ j - i = length-take-le (j - i) (drop i xs) (omega (arith, length-drop i xs, r.high)) in
    let short : k < j - i = omega arith in
    rw (get_or-take (j - i) (drop i xs) k 0 short, get_or-drop i xs k 0) (r.plain (i + k) (omega arith) (omega arith)))
    ∙ ap (λ t. take (j - i) (drop i xs) ++ text_value t) rest

-- the first byte

pub last_unit : (xs : List ℕ) → length xs ≡ 1 → text_value xs ≡ get_or xs 0 0 ∷ text_value (drop 1 xs)
last_unit [] e = absurd (omega arith)
last_unit (x ∷ []) e = refl
last_unit (x ∷ y ∷ xs) e = absurd (omega arith)

pub escape_unit : (xs : List ℕ) → 1 < length xs → get_or xs 0 0 ≡ 92 → text_value xs ≡ letter_value (get_or xs 1 0) ∷ text_value (drop 2 xs)
escape_unit [] long is = absurd (omega arith)
escape_unit (x ∷ []) long is = absurd (omega arith)
escape_unit (x ∷ y ∷ xs) long is = rw is refl

pub quote_unit : (xs : List ℕ) → 1 < length xs → get_or xs 0 0 ≡ 39 → text_value xs ≡ 39 ∷ text_value (drop 2 xs)
quote_unit [] long is = absurd (omega arith)
quote_unit (x ∷ []) long is = absurd (omega arith)
quote_unit (x ∷ y ∷ xs) long is = rw is refl

pub other_unit : (xs : List ℕ) → 0 < length xs → get_or xs 0 0 ≢ 92 → get_or xs 0 0 ≢ 39 → text_value xs ≡ get_or xs 0 0 ∷ text_value (drop 1 xs)
other_unit [] long back quote = absurd (omega arith)
other_unit (x ∷ xs) long back quote = plain_unit x xs (grind (arith, nat_tests)) (grind (arith, nat_tests))

pub next_unit : (xs : List ℕ) (i size byte : ℕ) → text_value (take (length xs - i) (drop i xs)) ≡ byte ∷ text_value (drop size (take (length xs - i) (drop i xs))) → text_value (drop i xs) ≡ byte ∷ text_value (drop (i + size) xs)
next_unit xs i size byte unit =
    let rest : take (length xs - i) (drop i xs) ≡ drop i xs = take_all _ _ (omega (arith, length-drop i xs)) in
    ap text_value (sym rest) ∙ unit ∙ ap (λ t. byte ∷ text_value (drop size t)) rest ∙ ap (λ t. byte ∷ text_value t) (drop-drop size i xs)

-- a letter after a backslash stands for the byte that it is written for
letter_back : (x : ℕ) → is_special x ≡ true → letter_value (letter_of x) ≡ x
letter_back x special = grind (arith, nat_tests)

byte_back : (special : Bool) (x : ℕ) (rest : List ℕ) → is_special x ≡ special → text_value (cond special (92 ∷ letter_of x ∷ []) (x ∷ []) ++ rest) ≡ x ∷ text_value rest
byte_back true x rest is = ap (λ b. b ∷ text_value rest) (letter_back x is)
byte_back false x rest is = let plain = not_special x is in plain_unit x rest plain.0 plain.1

pub escaped_back : (xs : List ℕ) → text_value (flat_map escaped_byte xs) ≡ xs
escaped_back [] = refl
escaped_back (x ∷ xs) = byte_back (is_special x) x (flat_map escaped_byte xs) refl ∙ ap (λ t. x ∷ t) (escaped_back xs)
