-- One list that is divided in two ways.
use Rattle.std.proofs.Common.{◌≡◌, ℕ, List, [], ◌∷◌, ◌++◌, refl, sym}

-- where the second division lies
pub data Cuts (a x b y : List ℕ) : Type 0 where
  same : a ≡ b → x ≡ y → Cuts a x b y
  later : (c : ℕ) (m : List ℕ) → b ≡ a ++ c ∷ m → x ≡ c ∷ m ++ y → Cuts a x b y
  earlier : (c : ℕ) (m : List ℕ) → a ≡ b ++ c ∷ m → y ≡ c ∷ m ++ x → Cuts a x b y

later-cons : (c d e : ℕ) (a x b y m : List ℕ) → c ≡ d → b ≡ a ++ e ∷ m → x ≡ e ∷ m ++ y → Cuts (c ∷ a) x (d ∷ b) y
later-cons c d e a x b y m head p q = later e m (cc) q

earlier-cons : (c d e : ℕ) (a x b y m : List ℕ) → c ≡ d → a ≡ b ++ e ∷ m → y ≡ e ∷ m ++ x → Cuts (c ∷ a) x (d ∷ b) y
earlier-cons c d e a x b y m head p q = earlier e m (cc) q

-- Two divisions of one list are the same, or the second lies after or before the first.
pub cuts : (a x b y : List ℕ) → a ++ x ≡ b ++ y → Cuts a x b y
cuts [] x [] y e = same refl e
cuts [] x (c ∷ m) y e = later c m refl e
cuts (c ∷ m) x [] y e = earlier c m refl (sym e)
cuts (c ∷ a) x (d ∷ b) y e =
    let head : c ≡ d = cc in
    elim (cuts a x b y (cc)) [
      | same p q ↦ same (cc) q
      | later k m p q ↦ later-cons c d k a x b y m head p q
      | earlier k m p q ↦ earlier-cons c d k a x b y m head p q
    ]
