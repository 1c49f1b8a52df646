-- Numbers by the count of their leading digits.
use Rattle.std.proofs.Common.{◌≡◌, ◌&&◌, ℕ, suc, ◌+◌, ◌-◌, ◌<◌, true, false, List, [], ◌∷◌, length, take, drop, refl, sym, ap, ◌∙◌, arith, cond, eqb, ltb}
use Rattle.std.specs.List.{prefix_len, list_all}
use Rattle.std.proofs.lemmas.List.{take_all, length-drop}
use Rattle.std.proofs.lemmas.Bool.Decides.{nat_tests}
use Rattle.plain_data.specs.Byte.{is_digit}
use Rattle.sql_cells.specs.Number.{is_digits, is_fraction, is_unsigned_after}

eqb_next : (m n : ℕ) → eqb m n ≡ eqb (1 + m) (suc n)
eqb_next m n = grind (arith, nat_tests)

eqb_none : (n : ℕ) → false ≡ eqb 0 (suc n)
eqb_none n = grind (arith, nat_tests)

ltb_next : (n : ℕ) → ltb 0 (1 + n) ≡ true
ltb_next n = grind (arith, nat_tests)

drop_next : (n x : ℕ) (xs : List ℕ) → drop (1 + n) (x ∷ xs) ≡ drop n xs
drop_next n x xs = let e : 1 + n ≡ suc n = omega arith in rw e

pub all_by_count : (xs : List ℕ) → list_all is_digit xs ≡ eqb (prefix_len is_digit xs) (length xs)
all_by_count [] = refl
all_by_count (x ∷ xs) =
    elim (is_digit x) as (λ here. (here && list_all is_digit xs) ≡ eqb (cond here (1 + prefix_len is_digit xs) 0) (suc (length xs)))
    [ true ↦ all_by_count xs ∙ eqb_next (prefix_len is_digit xs) (length xs) | false ↦ eqb_none (length xs) ]

pub digits_by_count : (xs : List ℕ) → is_digits xs ≡ (ltb 0 (prefix_len is_digit xs) && eqb (prefix_len is_digit xs) (length xs))
digits_by_count [] = refl
digits_by_count (x ∷ xs) =
    elim (is_digit x) as (λ here. (here && list_all is_digit xs) ≡ (ltb 0 (cond here (1 + prefix_len is_digit xs) 0) && eqb (cond here (1 + prefix_len is_digit xs) 0) (suc (length xs))))
    [ true ↦ rw ltb_next (all_by_count xs ∙ eqb_next (prefix_len is_digit xs) (length xs)) | false ↦ refl ]

after_digits : (xs : List ℕ) → is_unsigned_after true xs ≡ is_fraction (drop (prefix_len is_digit xs) xs)
after_digits [] = refl
after_digits (x ∷ xs) =
    elim (is_digit x) as (λ here. cond here (is_unsigned_after true xs) (is_fraction (x ∷ xs)) ≡ is_fraction (drop (cond here (1 + prefix_len is_digit xs) 0) (x ∷ xs)))
    [ true ↦ after_digits xs ∙ ap is_fraction (sym (drop_next (prefix_len is_digit xs) x xs)) | false ↦ refl ]

pub unsigned_by_count : (xs : List ℕ) → is_unsigned_after false xs ≡ (ltb 0 (prefix_len is_digit xs) && is_fraction (drop (prefix_len is_digit xs) xs))
unsigned_by_count [] = refl
unsigned_by_count (x ∷ xs) =
    elim (is_digit x) as (λ here. cond here (is_unsigned_after true xs) false ≡ (ltb 0 (cond here (1 + prefix_len is_digit xs) 0) && is_fraction (drop (cond here (1 + prefix_len is_digit xs) 0) (x ∷ xs))))
    [ true ↦ rw ltb_next (after_digits xs ∙ ap is_fraction (sym (drop_next (prefix_len is_digit xs) x xs))) | false ↦ refl ]

pub unsigned_with : (xs : List ℕ) (n : ℕ) → n ≡ prefix_len is_digit xs → 0 < n → is_unsigned_after false xs ≡ is_fraction (take (length xs - n) (drop n xs))
unsigned_with xs n is some =
    let found : ltb 0 (prefix_len is_digit xs) ≡ true = grind (arith, nat_tests) in
    let rest : take (length xs - n) (drop n xs) ≡ drop n xs = take_all _ _ (omega (arith, length-drop n xs)) in
    unsigned_by_count xs ∙ ap (λ t. t && is_fraction (drop (prefix_len is_digit xs) xs)) found ∙ ap (λ k. is_fraction (drop k xs)) (sym is) ∙ ap is_fraction (sym rest)

pub unsigned_without : (xs : List ℕ) → prefix_len is_digit xs ≡ 0 → is_unsigned_after false xs ≡ false
unsigned_without xs none = unsigned_by_count xs ∙ ap (λ k. ltb 0 k && is_fraction (drop k xs)) none
