-- Tests of each lane as bytes 255 and 0.
use Rattle.std.proofs.Common.{◌≡◌, ℕ, ◌+◌, ◌≤◌, ◌||◌, Bool, true, false, List, [], ◌∷◌, length, get_or, map, replicate, cond, eqb, bit_or, refl, arith}
use Rattle.std.specs.Simd.Lanes.{zip2, sel_l, mask_l, chunk}
use Rattle.std.proofs.lemmas.Bool.Decides.{nat_tests}
use Rattle.std.proofs.lemmas.Simd.{none_from_empty_mask}
use Rattle.sql_cells.specs.Literal.{is_special}
use Rattle.sql_literals.specs.Runs.{PlainRun, marks, is_suspect}

either_mark : (a b : Bool) → bit_or (cond a 255 0) (cond b 255 0) ≡ cond (a || b) 255 0
either_mark true true = refl
either_mark true false = refl
either_mark false true = refl
either_mark false false = refl

pub either_marks : (f g : ℕ → Bool) (v : List ℕ) → zip2 bit_or (marks f v) (marks g v) ≡ marks (λ x. f x || g x) v
either_marks f g [] = refl
either_marks f g (x ∷ v) = let here = either_mark (f x) (g x) in let rest = either_marks f g v in cc

pub selected : (f : ℕ → Bool) (v : List ℕ) → sel_l (map f v) (replicate (length v) 255) (replicate (length v) 0) ≡ marks f v
selected f [] = refl
selected f (x ∷ v) = let rest = selected f v in cc

high : (a : Bool) → eqb (cond a 255 0) 255 ≡ a
high true = refl
high false = refl

pub mark_high : (f : ℕ → Bool) (v : List ℕ) → map (λ x. eqb x 255) (marks f v) ≡ map f v
mark_high f [] = refl
mark_high f (x ∷ v) = let here = high (f x) in let rest = mark_high f v in cc

-- what isn't suspect isn't special
trusted : (byte : ℕ) → is_suspect byte ≡ false → is_special byte ≡ false
trusted byte h = grind (arith, nat_tests)

-- where no bit is set, all 16 bytes are plain
pub none_suspect : (xs : List ℕ) (i : ℕ) → i + 16 ≤ length xs → mask_l (map is_suspect (chunk i 16 xs)) ≡ 0 → PlainRun xs i (i + 16)
none_suspect xs i room none = record {
  low = omega arith;
  high = room;
  plain = λ k low high. trusted (get_or xs k 0) (none_from_empty_mask is_suspect xs i 16 0 room none k low high);
}
