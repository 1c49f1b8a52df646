-- Two texts, byte by byte.
use Rattle.std.proofs.Common.{◌≡◌, ℕ, zero, suc, ◌+◌, ◌<◌, ◌≤◌, List, [], ◌∷◌, ◌++◌, length, take, set, get_or, refl, sym, ◌∙◌, ap, arith}
use Rattle.std.proofs.lemmas.List.{take_all, take_more_set}
use Rattle.std.specs.Prelude.{bit_xor}
use Rattle.wire_forms.specs.Answer.{xor_of}

-- one byte more of each
pub xor_more : (xs ys : List ℕ) (i : ℕ) → i < length xs → i < length ys → xor_of (take (i + 1) xs) (take (i + 1) ys) ≡ xor_of (take i xs) (take i ys) ++ bit_xor (get_or xs i 0) (get_or ys i 0) ∷ []
xor_more [] ys i p q = absurd (omega (arith, p))
xor_more (x ∷ xs) [] i p q = absurd (omega (arith, q))
xor_more (x ∷ xs) (y ∷ ys) zero p q = refl
xor_more (x ∷ xs) (y ∷ ys) (suc i) p q =
    let e : suc i + 1 ≡ suc (i + 1) = omega arith in
    rw e (ap (λ (l : List ℕ). bit_xor x y ∷ l) (xor_more xs ys i (omega (arith, p)) (omega (arith, q))))

pub xor_next : (xs ys both : List ℕ) (i : ℕ) → i < length xs → i < length ys → i < length both → take i both ≡ xor_of (take i xs) (take i ys) → take (i + 1) (set both i (bit_xor (get_or xs i 0) (get_or ys i 0))) ≡ xor_of (take (i + 1) xs) (take (i + 1) ys)
xor_next xs ys both i p q r e =
    let byte : ℕ = bit_xor (get_or xs i 0) (get_or ys i 0) in
    take_more_set both i byte r ∙ ap (λ (l : List ℕ). l ++ byte ∷ []) e ∙ sym (xor_more xs ys i p q)

-- all of them
pub xor_all : (xs ys both : List ℕ) (i : ℕ) → length xs ≤ i → length ys ≤ i → length both ≤ i → take i both ≡ xor_of (take i xs) (take i ys) → both ≡ xor_of xs ys
xor_all xs ys both i p q r e = rw (take_all i xs p, take_all i ys q, take_all i both r) at e
