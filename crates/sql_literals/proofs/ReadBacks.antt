-- What is written for a cell is a literal, spells the cell, and ends where it ends.
use Rattle.std.proofs.Common.{◌≡◌, ◌≢◌, ◌==◌, ℕ, suc, ◌+◌, ◌-◌, ◌/◌, ◌%◌, ◌<◌, ◌≤◌, ◌⊎◌, inl, inr, Bool, true, false, cond, List, [], ◌∷◌, ◌++◌, length, take, drop, refl, sym, ◌∙◌, ap, subst, arith, append_assoc, append-nil, length-append, Some, Ok}
use Rattle.std.specs.Prelude.{codes, is_some, slice_index}
use Rattle.std.specs.List.{flat_map}
use Rattle.std.proofs.Math.Seq.{take-append_seam, take-append-add, drop-append_seam}
use Rattle.std.proofs.lemmas.Bool.Decides.{nat_tests}
use Rattle.hex.specs.Hex.{IsBytes, encode_with, encode_upper, upper_digits, is_hex_digit}
use Rattle.hex.proofs.HexLemmas.{IsDigits-upper_digits}
use Rattle.grammar.specs.Language.{Language, Nothing, Fixed, One, Then, Or, Times, Many, Longest}
use Rattle.grammar.proofs.Places.{begins_front}
use Rattle.grammar.proofs.Sets.{Starts, Lengthens}
use Rattle.plain_data.specs.Byte.{is_digit}
use Rattle.sql_cells.specs.Number.{Number}
use Rattle.sql_cells.specs.Literal.{is_special, letter_of, escaped_byte, text_literal, hex_literal, converted_literal}
use Rattle.sql_cells.specs.Spelling.{is_plain, is_escape_letter, Null, Escape, Inner, Opened, Quoted, Text, Pair, OpenedHex, Hex, OpenedConverted, Converted, Literal, inside, cell_of, literal_kind, EndsThere}
use Rattle.sql_cells.specs.declared.cell_kind.CellKind.TheVariants as Kind
use Rattle.sql_literals.proofs.NumberReads.{no_empty_number, IsDigit, IsNumberStart, IsNumberMore, starts_number, lengthens_number}
use Rattle.sql_literals.proofs.TextReads.{lengthens_text}
use Rattle.sql_literals.proofs.ConvertedReads.{lengthens_converted}
use Rattle.sql_literals.proofs.HexReads.{lengthens_hex}
use Rattle.sql_literals.proofs.LiteralReads.{lengthens_null, skips_null, skips_number, skips_text, skips_hex, skips_converted}

-- A text is the longest one where no byte after it lengthens it.
longest_after : (L : Language) (P : ℕ → Type 0) (text more : List ℕ) → Lengthens L P → L text → ((c : ℕ) (y : List ℕ) → more ≡ c ∷ y → ¬ P c) → Longest L (text ++ more) (length text)
unfolding Lengthens
longest_after L P text more longer is ends = record {
  within = omega (arith, length-append text more);
  text = subst L (sym (take-append_seam text more)) is;
  longer = λ n past fits further. by_more more ends n past fits further;
} where
  by_more : (more : List ℕ) → ((c : ℕ) (y : List ℕ) → more ≡ c ∷ y → ¬ P c) → (n : ℕ) → length text < n → n ≤ length (text ++ more) → ¬ L (take n (text ++ more))
  by_more [] ends n past fits further = absurd (omega (arith, length-append text []))
  by_more (c ∷ y) ends n past fits further =
      let front : List ℕ = text ++ c ∷ [] in
      let size : n ≡ length front + (n - length front) = omega (arith, length-append text (c ∷ [])) in
      let split : take n (text ++ c ∷ y) ≡ front ++ take (n - length front) y =
      ap (take n) (sym (append_assoc text (c ∷ []) y)) ∙ ap (λ m. take m (front ++ y)) size ∙ take-append-add front y (n - length front) in
      ends c y refl (longer text c is (begins_front L front (take (n - length front) y) (subst L split further)))

-- what may follow lengthens neither a number nor a string

not_number_more : (c : ℕ) → (c ≡ 44) ⊎ (c ≡ 41) → ¬ IsNumberMore c
not_number_more c follows (inl point) = elim follows [ inl comma ↦ absurd (omega arith) | inr closing ↦ absurd (omega arith) ]
not_number_more c (inl comma) (inr digit) = let wrong : IsDigit 44 = subst IsDigit comma digit in cc
not_number_more c (inr closing) (inr digit) = let wrong : IsDigit 41 = subst IsDigit closing digit in cc

ends_number : (more : List ℕ) → EndsThere more → (c : ℕ) (y : List ℕ) → more ≡ c ∷ y → ¬ IsNumberMore c
ends_number [] ends c y is = cc
ends_number (d ∷ more) ends c y is = let same_byte : d ≡ c = cc in subst (λ c. ¬ IsNumberMore c) same_byte (not_number_more d ends)

ends_text : (more : List ℕ) → EndsThere more → (c : ℕ) (y : List ℕ) → more ≡ c ∷ y → c ≢ 39
ends_text [] ends c y is = cc
ends_text (d ∷ more) (inl comma) c y is = let same_byte : d ≡ c = cc in omega arith
ends_text (d ∷ more) (inr closing) c y is = let same_byte : d ≡ c = cc in omega arith

-- the written literals are of the grammar

one_more : (L : Language) (a b : List ℕ) → L a → Many L b → Many L (a ++ b)
unfolding Many Times Then
one_more L a b first (n, rest) = (suc n, (a, b, refl, first, rest))

special_letter : (x : ℕ) → is_special x ≡ true → is_escape_letter (letter_of x) ≡ true
special_letter x special = grind (arith, nat_tests)

not_special_plain : (x : ℕ) → is_special x ≡ false → is_plain x ≡ true
not_special_plain x plain = grind (arith, nat_tests)

escaped_inner : (special : Bool) (x : ℕ) → is_special x ≡ special → Inner (cond special (92 ∷ letter_of x ∷ []) (x ∷ []))
unfolding Inner Or Escape Then Fixed One
escaped_inner true x is = inr (92 ∷ [], letter_of x ∷ [], refl, refl, (letter_of x, refl, special_letter x is))
escaped_inner false x is = inl (x, refl, not_special_plain x is)

escaped_inners : (xs : List ℕ) → Many Inner (flat_map escaped_byte xs)
unfolding Many Times Nothing
escaped_inners [] = (0, refl)
escaped_inners (x ∷ xs) = one_more Inner (escaped_byte x) (flat_map escaped_byte xs) (escaped_inner (is_special x) x refl) (escaped_inners xs)

pub quoted_text : (xs : List ℕ) → Text (text_literal xs)
unfolding Text Quoted Opened Then Fixed Many Times Nothing
quoted_text xs = (text_literal xs, [], sym (append-nil (text_literal xs)), (39 ∷ flat_map escaped_byte xs, 39 ∷ [], refl, (39 ∷ [], flat_map escaped_byte xs, refl, refl, escaped_inners xs), refl), (0, refl))

upper_digit : (d : ℕ) → d < 16 → is_hex_digit (slice_index upper_digits d) ≡ true
upper_digit d low = ap is_some (IsDigits-upper_digits d low)

encoded_pairs : (xs : List ℕ) → IsBytes xs → Many Pair (encode_upper xs)
unfolding encode_with Many Times Nothing Pair Then One
encoded_pairs [] bytes = (0, refl)
encoded_pairs (x ∷ xs) bytes =
    let small : x < 256 = bytes 0 in
    let high : ℕ = slice_index upper_digits (x / 16) in
    let low : ℕ = slice_index upper_digits (x % 16) in
    one_more Pair (high ∷ low ∷ []) (encode_upper xs)
    (high ∷ [], low ∷ [], refl, (high, refl, upper_digit (x / 16) (omega arith)), (low, refl, upper_digit (x % 16) (omega arith)))
    (encoded_pairs xs (λ i. bytes (suc i)))

pub encoded_hex : (xs : List ℕ) → IsBytes xs → Hex (hex_literal xs)
unfolding Hex OpenedHex Then Fixed
encoded_hex xs bytes = (88 ∷ 39 ∷ encode_upper xs, 39 ∷ [], refl, (88 ∷ 39 ∷ [], encode_upper xs, refl, refl, encoded_pairs xs bytes), refl)

pub converted_text : (xs : List ℕ) → Converted (converted_literal xs)
unfolding Converted OpenedConverted Then Fixed
converted_text xs = (codes "CONVERT(" ++ text_literal xs, codes " USING utf8mb4)", refl, (codes "CONVERT(", text_literal xs, refl, refl, quoted_text xs), refl)

-- what stands between what opens and what closes
pub inside_of : (front inner back : List ℕ) → inside (length front) (length back) (front ++ (inner ++ back)) ≡ inner
inside_of front inner back =
    let long : length (front ++ (inner ++ back)) - (length front + length back) ≡ length inner = omega (arith, length-append front (inner ++ back), length-append inner back) in
    ap (λ n. take n (drop (length front) (front ++ (inner ++ back)))) long ∙ ap (take (length inner)) (drop-append_seam front (inner ++ back)) ∙ take-append_seam inner back

-- what stands between the quotes of a converted text
pub inside_text : (xs : List ℕ) → inside 9 16 (converted_literal xs) ≡ flat_map escaped_byte xs
inside_text xs =
    ap (λ t. inside 9 16 (codes "CONVERT('" ++ t)) (append_assoc (flat_map escaped_byte xs) (39 ∷ []) (codes " USING utf8mb4)"))
    ∙ inside_of (codes "CONVERT('") (flat_map escaped_byte xs) (codes "' USING utf8mb4)")

-- the bytes with which a literal of another kind begins
abbrev pub IsOtherStart : ℕ → Type 0
IsOtherStart b = (b ≡ 78) ⊎ ((b ≡ 39) ⊎ ((b ≡ 88) ⊎ (b ≡ 67)))

-- the first byte of a number
number_first : (x : ℕ) (xs : List ℕ) → Number (x ∷ xs) → ¬ IsOtherStart x
unfolding Starts
number_first x xs number = by_first (starts_number x xs number) where
  not_one : (b : ℕ) → is_digit b ≡ false → is_digit x ≡ true → x ≢ b
  not_one b other digit is = let wrong : IsDigit b = subst IsDigit is digit in cc

  by_first : IsNumberStart x → ¬ IsOtherStart x
  by_first (inl minus) (inl is) = absurd (omega arith)
  by_first (inl minus) (inr (inl is)) = absurd (omega arith)
  by_first (inl minus) (inr (inr (inl is))) = absurd (omega arith)
  by_first (inl minus) (inr (inr (inr is))) = absurd (omega arith)
  by_first (inr digit) (inl is) = not_one 78 refl digit is
  by_first (inr digit) (inr (inl is)) = not_one 39 refl digit is
  by_first (inr digit) (inr (inr (inl is))) = not_one 88 refl digit is
  by_first (inr digit) (inr (inr (inr is))) = not_one 67 refl digit is

pub read_null : (more : List ℕ) → Longest Literal (codes "NULL" ++ more) 4
unfolding Null Fixed
read_null more = skips_null (codes "NULL" ++ more) (Ok 4) refl (longest_after Null (λ _. ⊥) (codes "NULL") more (lengthens_null _) refl (λ c y is no. no))

pub read_number : (bytes more : List ℕ) → Number bytes → EndsThere more → Longest Literal (bytes ++ more) (length bytes)
read_number [] more number ends = absurd (no_empty_number number)
read_number (x ∷ xs) more number ends =
    let other : ¬ IsOtherStart x = number_first x xs number in
    skips_number (x ∷ xs ++ more) (Ok (length (x ∷ xs))) (λ is. other (inl is)) (λ is. other (inr (inl is))) (λ is. other (inr (inr (inl is)))) (λ is. other (inr (inr (inr is))))
    (longest_after Number IsNumberMore (x ∷ xs) more lengthens_number number (ends_number more ends))

pub read_quoted : (xs more : List ℕ) → EndsThere more → Longest Literal (text_literal xs ++ more) (length (text_literal xs))
read_quoted xs more ends = skips_text (text_literal xs ++ more) (Ok (length (text_literal xs))) refl (longest_after Text (λ c. c ≡ 39) (text_literal xs) more lengthens_text (quoted_text xs) (ends_text more ends))

pub read_hexadecimal : (xs more : List ℕ) → IsBytes xs → Longest Literal (hex_literal xs ++ more) (length (hex_literal xs))
read_hexadecimal xs more bytes = skips_hex (hex_literal xs ++ more) (Ok (length (hex_literal xs))) refl (longest_after Hex (λ _. ⊥) (hex_literal xs) more (lengthens_hex _) (encoded_hex xs bytes) (λ c y is no. no))

pub read_converted : (xs more : List ℕ) → Longest Literal (converted_literal xs ++ more) (length (converted_literal xs))
read_converted xs more = skips_converted (converted_literal xs ++ more) (Ok (length (converted_literal xs))) refl (longest_after Converted (λ _. ⊥) (converted_literal xs) more (lengthens_converted _) (converted_text xs) (λ c y is no. no))

-- a number is spelled as one, and stands for its own bytes

no_other_start : (x : ℕ) → ¬ IsOtherStart x → ((x == 78) ≡ false) × ((x == 39) ≡ false) × ((x == 88) ≡ false) × ((x == 67) ≡ false)
no_other_start x other =
    let null : x ≢ 78 = λ is. other (inl is) in
    let text : x ≢ 39 = λ is. other (inr (inl is)) in
    let digits : x ≢ 88 = λ is. other (inr (inr (inl is))) in
    let converted : x ≢ 67 = λ is. other (inr (inr (inr is))) in
    (grind (arith, nat_tests), grind (arith, nat_tests), grind (arith, nat_tests), grind (arith, nat_tests))

pub spells_number : (bytes : List ℕ) → Number bytes → Some bytes ≡ cell_of bytes
spells_number [] number = absurd (no_empty_number number)
spells_number (x ∷ xs) number = let tests = no_other_start x (number_first x xs number) in rw (tests.0, tests.1, tests.2, tests.3) refl

pub kind_number : (bytes : List ℕ) → Number bytes → literal_kind bytes ≡ Some Kind.Number
kind_number [] number = absurd (no_empty_number number)
kind_number (x ∷ xs) number = let tests = no_other_start x (number_first x xs number) in rw (tests.0, tests.1, tests.2, tests.3) refl
