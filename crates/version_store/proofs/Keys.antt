-- The keys of rows.
use Rattle.std.proofs.Common.{◌≡◌, ℕ, zero, suc, ◌+◌, ◌*◌, ◌^◌, ◌<◌, ◌≤◌, min, arith, true, false, List, Some, None, refl, ◌∙◌}
use Rattle.std.specs.Prelude.{nat_lt, pos, neg_ℤ}
use Rattle.std.proofs.lemmas.Bool.Decides.{nat_tests}
use Rattle.std.proofs.lemmas.List.Sums.{fold_more}
use Rattle.plain_data.specs.Byte.{digits_value}
use Rattle.sql_cells.specs.Number.{is_digits}
use Rattle.version_store.specs.Key.{negative_of, positive_of}
use Rattle.version_store.specs.Read.{is_i128}

-- one digit more
pub capped_more : (n digit : ℕ) → min (min n (2 ^ 127 + 1) * 10 + digit) (2 ^ 127 + 1) ≡ min (n * 10 + digit) (2 ^ 127 + 1)
capped_more n digit = omega arith

pub ruleset sizes = (capped_more, fold_more)

negative_fits : (n : ℕ) → is_i128 (neg_ℤ (pos n)) ≡ nat_lt n (2 ^ 127 + 1)
negative_fits zero = refl
negative_fits (suc n) = grind (arith, nat_tests)

pub negative_there : (digits : List ℕ) (size : ℕ) → is_digits digits ≡ true → size ≡ min (digits_value digits) (2 ^ 127 + 1) → size < 2 ^ 127 + 1 → negative_of digits ≡ Some (neg_ℤ (pos size))
negative_there digits size are told below =
    let same : digits_value digits ≡ size = omega arith in
    let fits : is_i128 (neg_ℤ (pos size)) ≡ true = negative_fits size ∙ grind (arith, nat_tests) in
    rw (are, same, fits) refl

pub negative_beyond : (digits : List ℕ) (size : ℕ) → is_digits digits ≡ true → size ≡ min (digits_value digits) (2 ^ 127 + 1) → 2 ^ 127 + 1 ≤ size → negative_of digits ≡ None
negative_beyond digits size are told above =
    let not : is_i128 (neg_ℤ (pos (digits_value digits))) ≡ false = negative_fits (digits_value digits) ∙ grind (arith, nat_tests) in
    rw (are, not) refl

pub positive_there : (digits : List ℕ) (size : ℕ) → is_digits digits ≡ true → size ≡ min (digits_value digits) (2 ^ 127 + 1) → size < 2 ^ 127 → positive_of digits ≡ Some (pos size)
positive_there digits size are told below =
    let same : digits_value digits ≡ size = omega arith in
    let fits : nat_lt size (2 ^ 127) ≡ true = grind (arith, nat_tests) in
    rw (are, same, fits) refl

pub positive_beyond : (digits : List ℕ) (size : ℕ) → is_digits digits ≡ true → size ≡ min (digits_value digits) (2 ^ 127 + 1) → 2 ^ 127 ≤ size → positive_of digits ≡ None
positive_beyond digits size are told above =
    let not : nat_lt (digits_value digits) (2 ^ 127) ≡ false = grind (arith, nat_tests) in
    rw (are, not) refl
