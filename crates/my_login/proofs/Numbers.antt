-- Digits at the front of bytes, and the number that they spell.
use Rattle.std.proofs.Common.{◌≡◌, ℕ, suc, min, ◌+◌, ◌-◌, ◌*◌, ◌^◌, ◌≤◌, ◌<◌, true, List, length, take, get_or, sym, ◌∙◌, ap, arith}
use Rattle.std.proofs.Math.Nat.{pow-le-pow_right, pow-succ'}
use Rattle.std.proofs.lemmas.Bool.Decides.{nat_tests}
use Rattle.std.proofs.lemmas.List.Sums.{prefix_len-le-length, prefix_len_passes, fold_more}
use Rattle.std.proofs.lemmas.List.Folds.{length-prefix_len}
use Rattle.plain_data.specs.Byte.{is_digit, digits_value}
use Rattle.wire_forms.specs.Version.{digit_count}

pub count_within : (bytes : List ℕ) → digit_count bytes ≤ length bytes
count_within bytes = prefix_len-le-length is_digit bytes

pub counted : (bytes : List ℕ) → length (take (digit_count bytes) bytes) ≡ digit_count bytes
counted bytes = length-prefix_len is_digit bytes

-- a digit's value
record Digit (byte : ℕ) : Type 0 where
  low : 48 ≤ byte
  high : byte ≤ 57

digit_by_test : (byte : ℕ) → is_digit byte ≡ true → Digit byte
digit_by_test byte is = record { low = grind (arith, nat_tests); high = grind (arith, nat_tests) }

-- one digit more of the first nine
pub record OneMore (bytes : List ℕ) (i value byte : ℕ) : Type 0 where
  pub low : 48 ≤ byte
  pub small : value * 10 + (byte - 48) < 1000000000
  pub number : value * 10 + (byte - 48) ≡ digits_value (take (i + 1) bytes)
  pub below : value * 10 + (byte - 48) < 10 ^ (i + 1)

pub one_more : (bytes : List ℕ) (i value found count : ℕ) → found ≡ digit_count bytes → count ≡ min found 9 → i < count → (value ≡ digits_value (take i bytes)) × (value < 10 ^ i) → OneMore bytes i value (get_or bytes i 0)
one_more bytes i value found count found_is count_is before so_far =
    let byte : ℕ = get_or bytes i 0 in
    let there : i < digit_count bytes = omega arith in
    let few : i ≤ 8 = omega arith in
    let digit : Digit byte = digit_by_test byte (prefix_len_passes is_digit bytes i 0 there) in
    let low : 48 ≤ byte = digit.low in
    let high : byte ≤ 57 = digit.high in
    let within = count_within bytes in
    let step = fold_more (λ (n digit : ℕ). n * 10 + (digit - 48)) 0 bytes i 0 (omega arith) in
    let below : value < 10 ^ i = so_far.1 in
    let most : 10 ^ i ≤ 10 ^ 8 = pow-le-pow_right (omega arith) few in
    let suc_is : i + 1 ≡ suc i = omega arith in
    let next : 10 ^ (i + 1) ≡ 10 * 10 ^ i = ap (λ (n : ℕ). 10 ^ n) suc_is ∙ pow-succ' 10 i in
    record {
      low = low;
      small = omega arith;
      number = ap (λ (n : ℕ). n * 10 + (byte - 48)) so_far.0 ∙ sym step;
      below = omega arith;
    }
