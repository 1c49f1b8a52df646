-- How an escaped text grows byte by byte and run by run.
use Rattle.std.proofs.Common.{◌≡◌, ◌==◌, subst, ℕ, suc, ◌+◌, ◌-◌, ◌*◌, ◌<◌, ◌≤◌, false, true, length-append, append_assoc, List, [], ◌∷◌, ◌++◌, length, get_or, take, drop, refl, sym, ap, ◌∙◌, take-add, arith, cond, None}
use Rattle.std.specs.Prelude.{codes}
use Rattle.std.specs.List.{flat_map, count_by}
use Rattle.std.proofs.lemmas.List.{take_all, take_more, drop_more, take-append-drop, append-nil, drop-drop, get_or-drop, get_or-take, length-drop, length-take-le}
use Rattle.std.proofs.lemmas.List.Sums.{count_by-le-length, sum_by-cons}
use Rattle.std.proofs.lemmas.List.Concat.{flat_map-append}
use Rattle.sql_cells.specs.Literal.{escaped_byte, is_special, letter_of, text_literal, converted_literal, literal, has_literal}
use Rattle.sql_cells.specs.declared.cell_kind.CellKind.{CellKind}
use Rattle.sql_cells.specs.declared.cell_kind.CellKind.TheVariants.{Number, Text, Hex, Converted}
use Rattle.sql_cells.specs.Name.{name_byte, quoted_name}
use Rattle.plain_data.specs.Buffer.{BufferView}
use Rattle.sql_literals.specs.Runs.{PlainRun, AppendsEscaped}

pub one_more : (f : ℕ → List ℕ) (xs : List ℕ) (i : ℕ) → i < length xs → flat_map f (take (i + 1) xs) ≡ flat_map f (take i xs) ++ f (get_or xs i 0)
one_more f xs i h = ap (flat_map f) (take_more xs i 0 h) ∙ flat_map-append f (take i xs) (get_or xs i 0 ∷ []) ∙ ap (λ t. flat_map f (take i xs) ++ t) (append-nil _)

pub one_less : (f : ℕ → List ℕ) (xs : List ℕ) (i : ℕ) → i < length xs → flat_map f (drop i xs) ≡ f (get_or xs i 0) ++ flat_map f (drop (i + 1) xs)
one_less f xs i h = ap (flat_map f) (drop_more xs i 0 h)

-- A list up to one place and from there up to another, and so what is left.

pub piece_more : (f : ℕ → List ℕ) (xs : List ℕ) (i j : ℕ) → i ≤ j → flat_map f (take j xs) ≡ flat_map f (take i xs) ++ flat_map f (take (j - i) (drop i xs))
piece_more f xs i j low =
    let sum : i + (j - i) ≡ j = omega arith in
    let split : take j xs ≡ take i xs ++ take (j - i) (drop i xs) = subst (λ (n : ℕ). take n xs ≡ take i xs ++ take (j - i) (drop i xs)) sum (take-add i (j - i) xs) in
    ap (flat_map f) split ∙ flat_map-append f (take i xs) (take (j - i) (drop i xs))

pub piece_less : (f : ℕ → List ℕ) (xs : List ℕ) (i j : ℕ) → i ≤ j → flat_map f (drop i xs) ≡ flat_map f (take (j - i) (drop i xs)) ++ flat_map f (drop j xs)
piece_less f xs i j low =
    let sum : i + (j - i) ≡ j = omega arith in
    let rest : drop (j - i) (drop i xs) ≡ drop j xs = drop-drop (j - i) i xs ∙ ap (λ n. drop n xs) sum in
    ap (flat_map f) (sym (take-append-drop (j - i) (drop i xs)) ∙ ap (λ t. take (j - i) (drop i xs) ++ t) rest) ∙ flat_map-append f (take (j - i) (drop i xs)) (drop j xs)

plain_byte : (b : ℕ) → is_special b ≡ false → escaped_byte b ≡ b ∷ []
plain_byte b h = rw h

plain_list : (xs : List ℕ) → ((k : ℕ) → k < length xs → is_special (get_or xs k 0) ≡ false) → flat_map escaped_byte xs ≡ xs
plain_list [] h = refl
plain_list (x ∷ xs) h =
    let here : escaped_byte x ≡ x ∷ [] = plain_byte x (h 0 (omega arith)) in
    let rest : flat_map escaped_byte xs ≡ xs = plain_list xs (λ k l. h (suc k) (omega arith)) in
    ap (λ t. t ++ flat_map escaped_byte xs) here ∙ ap (λ t. x ∷ t) rest

pub run_is_plain : (xs : List ℕ) (i j : ℕ) → PlainRun xs i j → flat_map escaped_byte (take (j - i) (drop i xs)) ≡ take (j - i) (drop i xs)
run_is_plain xs i j r =
    plain_list _ (λ k l.
    let long : length (take (j - i) (drop i xs)) ≡ j - i = length-take-le (j - i) (drop i xs) (omega (arith, length-drop i xs, r.high)) in
    let short : k < j - i = omega arith in
    rw (get_or-take (j - i) (drop i xs) k 0 short, get_or-drop i xs k 0) (r.plain (i + k) (omega arith) (omega arith)))

pub run_more : (xs : List ℕ) (i j : ℕ) → PlainRun xs i j → flat_map escaped_byte (take j xs) ≡ flat_map escaped_byte (take i xs) ++ take (j - i) (drop i xs)
run_more xs i j r = piece_more escaped_byte xs i j r.low ∙ ap (λ t. flat_map escaped_byte (take i xs) ++ t) (run_is_plain xs i j r)

pub run_less : (xs : List ℕ) (i j : ℕ) → PlainRun xs i j → flat_map escaped_byte (drop i xs) ≡ take (j - i) (drop i xs) ++ flat_map escaped_byte (drop j xs)
run_less xs i j r = piece_less escaped_byte xs i j r.low ∙ ap (λ t. t ++ flat_map escaped_byte (drop j xs)) (run_is_plain xs i j r)

pub byte_length : (b : ℕ) → length (escaped_byte b) ≡ 1 + cond (is_special b) 1 0
byte_length b = elim (is_special b) as (λ s. length (cond s (92 ∷ letter_of b ∷ []) (b ∷ [])) ≡ 1 + cond s 1 0) [ true ↦ refl | false ↦ refl ]

escaped_length : (xs : List ℕ) → length (flat_map escaped_byte xs) ≡ length xs + count_by is_special xs
escaped_length [] = refl
escaped_length (x ∷ xs) =
    let more : count_by is_special (x ∷ xs) ≡ cond (is_special x) 1 0 + count_by is_special xs = sum_by-cons (λ byte. cond (is_special byte) 1 0) x xs in
    simp length-append (omega (arith, byte_length x, escaped_length xs))

pub quoted_length : (xs : List ℕ) → length (text_literal xs) ≡ length xs + count_by is_special xs + 2
quoted_length xs = simp length-append (omega (arith, escaped_length xs))

pub literal_length : (xs : List ℕ) → length (text_literal xs) ≡ length (flat_map escaped_byte xs) + 2
literal_length xs = simp length-append (omega arith)

pub converted_length : (xs : List ℕ) → length (converted_literal xs) ≡ length (text_literal xs) + 23
converted_length xs = length-append (codes "CONVERT(" ++ text_literal xs) (codes " USING utf8mb4)") ∙ omega (arith, length-append (codes "CONVERT(") (text_literal xs))

pub converted_appended : (out xs : List ℕ) → ((out ++ codes "CONVERT(") ++ text_literal xs) ++ codes " USING utf8mb4)" ≡ out ++ converted_literal xs
converted_appended out xs =
    ap (λ t. t ++ codes " USING utf8mb4)") (append_assoc out (codes "CONVERT(") (text_literal xs))
    ∙ append_assoc out (codes "CONVERT(" ++ text_literal xs) (codes " USING utf8mb4)")

name_byte_length : (b : ℕ) → length (name_byte b) ≡ 1 + cond (b == 96) 1 0
name_byte_length b = elim (b == 96) as (λ s. length (cond s (96 ∷ 96 ∷ []) (b ∷ [])) ≡ 1 + cond s 1 0) [ true ↦ refl | false ↦ refl ]

doubled_length : (xs : List ℕ) → length (flat_map name_byte xs) ≡ length xs + count_by (λ byte. byte == 96) xs
doubled_length [] = refl
doubled_length (x ∷ xs) =
    let more : count_by (λ byte. byte == 96) (x ∷ xs) ≡ cond (x == 96) 1 0 + count_by (λ byte. byte == 96) xs = sum_by-cons (λ byte. cond (byte == 96) 1 0) x xs in
    simp length-append (omega (arith, name_byte_length x, doubled_length xs))

pub quoted_name_length : (xs : List ℕ) → length (quoted_name xs) ≡ length xs + count_by (λ byte. byte == 96) xs + 2
quoted_name_length xs = simp length-append (omega (arith, doubled_length xs))

pub quoted_bound : (xs : List ℕ) → length (text_literal xs) ≤ 2 * length xs + 2
quoted_bound xs = omega (arith, quoted_length xs, count_by-le-length is_special xs)

-- NULL is spelled alike as every kind

pub null_literal : (kind : CellKind) → literal kind None ≡ codes "NULL"
null_literal Number = refl
null_literal Text = refl
null_literal Hex = refl
null_literal Converted = refl

pub null_has : (kind : CellKind) → has_literal kind None ≡ true
null_has Number = refl
null_has Text = refl
null_has Hex = refl
null_has Converted = refl

-- What stands in front of a place fits where all that is left does.
pub piece_fits : (xs : List ℕ) (i j : ℕ) → i ≤ j → length (flat_map escaped_byte (take (j - i) (drop i xs))) ≤ length (flat_map escaped_byte (drop i xs))
piece_fits xs i j low = omega (arith, simp length-append at (ap length (piece_less escaped_byte xs i j low)))

pub run_length : (xs : List ℕ) (i j : ℕ) → PlainRun xs i j → length (flat_map escaped_byte (take (j - i) (drop i xs))) ≡ j - i
run_length xs i j r = ap length (run_is_plain xs i j r) ∙ length-take-le (j - i) (drop i xs) (omega (arith, length-drop i xs, r.high))

-- a run of plain bytes was appended as it is
pub run_appended : (xs : List ℕ) (i j : ℕ) (old new : BufferView) → PlainRun xs i j → new.bytes ≡ old.bytes ++ take (j - i) (drop i xs) → new.spare + length (take (j - i) (drop i xs)) ≡ old.spare → AppendsEscaped (take (j - i) (drop i xs)) old new
run_appended xs i j old new r text room = record {
  text = text ∙ ap (λ t. old.bytes ++ t) (sym (run_is_plain xs i j r));
  room = ap (λ t. new.spare + length t) (run_is_plain xs i j r) ∙ room;
}

-- the bytes up to one place were appended, and then those from there up to another
pub appended_more : (xs : List ℕ) (i j : ℕ) (old mid new : BufferView) → i ≤ j → AppendsEscaped (take i xs) old mid → AppendsEscaped (take (j - i) (drop i xs)) mid new → AppendsEscaped (take j xs) old new
appended_more xs i j old mid new low one two =
    let more = piece_more escaped_byte xs i j low in
    record {
      text = two.text ∙ ap (λ t. t ++ flat_map escaped_byte (take (j - i) (drop i xs))) one.text ∙ append_assoc old.bytes _ _ ∙ ap (λ t. old.bytes ++ t) (sym more);
      room = omega (arith, one.room, two.room, simp length-append at (ap length more));
    }

-- all bytes were appended
pub appended_whole : (xs : List ℕ) (i : ℕ) (old new : BufferView) → length xs ≤ i → AppendsEscaped (take i xs) old new → AppendsEscaped xs old new
appended_whole xs i old new all done = subst (λ (t : List ℕ). AppendsEscaped t old new) (take_all i xs all) done

-- what is left fits where all fits
pub rest_fits : (xs : List ℕ) (i : ℕ) (old mid : BufferView) → length (flat_map escaped_byte xs) ≤ old.spare → AppendsEscaped (take i xs) old mid → length (flat_map escaped_byte (drop i xs)) ≤ mid.spare
rest_fits xs i old mid fits one =
    let all : flat_map escaped_byte xs ≡ flat_map escaped_byte (take i xs) ++ flat_map escaped_byte (drop i xs) = ap (flat_map escaped_byte) (sym (take-append-drop i xs)) ∙ flat_map-append escaped_byte (take i xs) (drop i xs) in
    omega (arith, one.room, fits, simp length-append at (ap length all))
