-- Bytes as hexadecimal digits, chunk by chunk.
use Rattle.std.proofs.Common.{◌≡◌, ℕ, zero, suc, ◌+◌, ◌-◌, ◌*◌, ◌/◌, ◌%◌, List, [], ◌∷◌, ◌++◌, length, map, take, drop, slice_index, refl, sym, ap, ◌∙◌, arith, length-append}
use Rattle.std.specs.Prelude.{Result, Ok, Err, IsOk, OnOk}
use Rattle.std.specs.Char.{to_ascii_uppercase}
use Rattle.std.proofs.lemmas.List.{take-append-drop, drop-drop}
use Rattle.hex.specs.Hex.{encode_with, encode_lower, encode_upper, lower_digits, upper_digits}
use Rattle.hex.proofs.HexLemmas.{length-encode_with}
use Rattle.sql_cells.specs.Literal.{hex_literal}

pub hexadecimal_length : (xs : List ℕ) → length (hex_literal xs) ≡ 2 * length xs + 3
hexadecimal_length xs = simp length-append (omega (arith, length-encode_with upper_digits xs))

pub digits_length : (xs : List ℕ) → length (encode_upper xs) ≡ 2 * length xs
digits_length = length-encode_with upper_digits

upper_at : (t : List ℕ) (d : ℕ) → to_ascii_uppercase (slice_index t d) ≡ slice_index (map to_ascii_uppercase t) d
upper_at [] d = refl
upper_at (x ∷ t) zero = refl
upper_at (x ∷ t) (suc d) = upper_at t d

pub upper_of_lower : (xs : List ℕ) → map to_ascii_uppercase (encode_lower xs) ≡ encode_upper xs
unfolding encode_with
upper_of_lower [] = refl
upper_of_lower (x ∷ xs) =
    let high = upper_at lower_digits (x / 16) in
    let low = upper_at lower_digits (x % 16) in
    let rest = upper_of_lower xs in
    cc

encode_append : (t xs ys : List ℕ) → encode_with t (xs ++ ys) ≡ encode_with t xs ++ encode_with t ys
unfolding encode_with
encode_append t [] ys = refl
encode_append t (x ∷ xs) ys = ap (λ s. slice_index t (x / 16) ∷ slice_index t (x % 16) ∷ s) (encode_append t xs ys)

-- the digits of a chunk and those of what is left
pub next_chunk : (xs : List ℕ) (i : ℕ) → encode_upper (drop i xs) ≡ encode_upper (take (i + 64 - i) (drop i xs)) ++ encode_upper (drop (i + 64) xs)
next_chunk xs i =
    let size : i + 64 - i ≡ 64 = omega arith in
    let rest : drop 64 (drop i xs) ≡ drop (i + 64) xs = drop-drop 64 i xs in
    ap encode_upper (sym (take-append-drop 64 (drop i xs)))
    ∙ encode_append upper_digits (take 64 (drop i xs)) (drop 64 (drop i xs))
    ∙ ap (λ t. encode_upper (take 64 (drop i xs)) ++ encode_upper t) rest
    ∙ ap (λ n. encode_upper (take n (drop i xs)) ++ encode_upper (drop (i + 64) xs)) (sym size)

-- what holds where a call is right
pub on_ok : {T E : Type 0} (r : Result T E) (P : Type 0) → IsOk r → OnOk r P → P
on_ok (Ok x) P ok h = h
on_ok (Err e) P ok h = absurd (cc ok)
