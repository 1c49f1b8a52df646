-- The two orders of keys, and lists that rise in an order.
use Rattle.std.proofs.Common.{◌≡◌, ℕ, ◌⊎◌, inl, inr, refl, ap, sym, ◌∙◌, subst, arith, Bool, true, false, not, ◌&&◌, ◌||◌, List, [], ◌∷◌, Some, ℤ, pos, negsuc, map}
use Rattle.std.specs.Prelude.{⊤, ◌≤◌, int_lt, int_le}
use Rattle.std.proofs.lemmas.Bool.{false≢true, true≢false, ltb-true, lt-ltb, ltb-false, le-leb, lt-leb}
use Rattle.std.proofs.Math.Dec.{ltb, leb}
use Rattle.honest_server.specs.Answer.{keys_rise}
use Rattle.honest_server.specs.WideKey.{comes_first, wide_keys_rise}

-- an order of keys by a test
pub record IsOrder {K : Type 0} (before : K → K → Bool) : Type 0 where
  pub apart : (key : K) → before key key ≡ false
  pub joins : (one two three : K) → before one two ≡ true → before two three ≡ true → before one three ≡ true

-- each key comes before the next
abbrev pub rises : {K : Type 0} → (K → K → Bool) → List K → Bool
rises before [] = true
rises before (one ∷ []) = true
rises before (one ∷ next ∷ keys) = before one next && rises before (next ∷ keys)

-- a key comes before all others
abbrev pub IsFirst : {K : Type 0} → (K → K → Bool) → K → List K → Type 0
IsFirst before key [] = ⊤
IsFirst before key (next ∷ keys) = (before key next ≡ true) × IsFirst before key keys

-- each key comes before all later ones
abbrev pub Rises : {K : Type 0} → (K → K → Bool) → List K → Type 0
Rises before [] = ⊤
Rises before (key ∷ keys) = IsFirst before key keys × Rises before keys

pub both : (a b : Bool) → (a && b) ≡ true → (a ≡ true) × (b ≡ true)
both true b e = (refl, e)
both false b e = absurd (false≢true e)

pub not_true : (b : Bool) → (b ≡ true → ⊥) → b ≡ false
not_true true h = absurd (h refl)
not_true false h = refl

module _ {K : Type 0} (before : K → K → Bool) (order : IsOrder before) where
  -- of two keys only one comes before the other
  pub turned : (one other : K) → before one other ≡ true → before other one ≡ false
  turned one other e = not_true (before other one) (λ back. true≢false (sym (order.joins one other one e back) ∙ order.apart one))

  pub first_of_later : (one next : K) (keys : List K) → before one next ≡ true → IsFirst before next keys → IsFirst before one keys
  first_of_later one next [] e h = tt
  first_of_later one next (key ∷ keys) e h = (order.joins one next key e h.0, first_of_later one next keys e h.1)

  pub rises_all : (keys : List K) → rises before keys ≡ true → Rises before keys
  rises_all [] e = tt
  rises_all (one ∷ []) e = (tt, tt)
  rises_all (one ∷ next ∷ keys) e =
      let parts = both (before one next) (rises before (next ∷ keys)) e in
      let rest = rises_all (next ∷ keys) parts.1 in
      ((parts.0, first_of_later one next keys parts.0 rest.0), rest)

  pub all_rises : (keys : List K) → Rises before keys → rises before keys ≡ true
  all_rises [] h = refl
  all_rises (one ∷ []) h = refl
  all_rises (one ∷ next ∷ keys) h = ap (λ b. b && rises before (next ∷ keys)) h.0.0 ∙ all_rises (next ∷ keys) h.1

-- the order of integers

pub keys_rise_so : (keys : List ℤ) → keys_rise (map Some keys) ≡ rises int_lt keys
keys_rise_so [] = refl
keys_rise_so (one ∷ []) = refl
keys_rise_so (one ∷ next ∷ keys) = ap (λ b. int_lt one next && b) (keys_rise_so (next ∷ keys))

ltb_self : (n : ℕ) → ltb n n ≡ false
ltb_self n = not_true (ltb n n) (λ e. let h = ltb-true n n e in absurd (omega (arith, h)))

ltb_joins : (a b c : ℕ) → ltb a b ≡ true → ltb b c ≡ true → ltb a c ≡ true
ltb_joins a b c e f = let h = ltb-true a b e in let k = ltb-true b c f in lt-ltb a c (omega (arith, h, k))

int_apart : (key : ℤ) → int_lt key key ≡ false
int_apart (pos n) = ltb_self n
int_apart (negsuc n) = ltb_self n

int_joins : (one two three : ℤ) → int_lt one two ≡ true → int_lt two three ≡ true → int_lt one three ≡ true
int_joins (pos a) (pos b) (pos c) e f = ltb_joins a b c e f
int_joins (pos a) (pos b) (negsuc c) e f = f
int_joins (pos a) (negsuc b) three e f = absurd (false≢true e)
int_joins (negsuc a) (pos b) (pos c) e f = refl
int_joins (negsuc a) (pos b) (negsuc c) e f = absurd (false≢true f)
int_joins (negsuc a) (negsuc b) (pos c) e f = refl
int_joins (negsuc a) (negsuc b) (negsuc c) e f = ltb_joins c b a f e

pub int_order : IsOrder int_lt
int_order = record { apart = int_apart; joins = int_joins }

tested : (a b : ℕ) (t : Bool) → ltb b a ≡ t → leb a b ≡ not t
tested a b true e = lt-leb a b (ltb-true b a e)
tested a b false e = le-leb a b (ltb-false b a e)

-- an integer is at most a bound where the bound isn't less
pub int_at_most : (key bound : ℤ) → int_le key bound ≡ not (int_lt bound key)
int_at_most (pos a) (pos b) = tested a b (ltb b a) refl
int_at_most (pos a) (negsuc b) = refl
int_at_most (negsuc a) (pos b) = refl
int_at_most (negsuc a) (negsuc b) = tested b a (ltb a b) refl

squeezed : (a b : ℕ) → b ≤ a → a ≤ b → a ≡ b
squeezed a b h k = omega (arith, h, k)

neither : (one other : ℤ) → int_lt one other ≡ false → int_lt other one ≡ false → one ≡ other
neither (pos a) (pos b) e f = ap pos (squeezed a b (ltb-false a b e) (ltb-false b a f))
neither (pos a) (negsuc b) e f = absurd (true≢false f)
neither (negsuc a) (pos b) e f = absurd (true≢false e)
neither (negsuc a) (negsuc b) e f = ap negsuc (squeezed a b (ltb-false a b f) (ltb-false b a e))

-- the order of keys of several columns

pub wide_keys_rise_so : (keys : List (List ℤ)) → wide_keys_rise (map Some keys) ≡ rises comes_first keys
wide_keys_rise_so [] = refl
wide_keys_rise_so (one ∷ []) = refl
wide_keys_rise_so (one ∷ next ∷ keys) = ap (λ b. comes_first one next && b) (wide_keys_rise_so (next ∷ keys))

self_first : (key : List ℤ) → comes_first key key ≡ false
self_first [] = refl
self_first (number ∷ key) = ap (λ b. b || (int_le number number && comes_first key key)) (int_apart number) ∙ (ap (λ b. int_le number number && b) (self_first key) ∙ and_false (int_le number number))
  where
    and_false : (b : Bool) → (b && false) ≡ false
    and_false true = refl
    and_false false = refl

-- the first number is less, or it is the same and what follows comes first
which : (number next : ℤ) (rest : Bool) (less turned : Bool) → int_lt number next ≡ less → int_lt next number ≡ turned
    → (less || (int_le number next && rest)) ≡ true → (int_lt number next ≡ true) ⊎ ((number ≡ next) × (rest ≡ true))
which number next rest true turned e f h = inl e
which number next rest false turned e f h =
    let parts = both (int_le number next) rest h in
    inr (neither number next e (not_turned (int_lt next number) (sym (int_at_most number next) ∙ parts.0)), parts.1)
  where
    not_turned : (b : Bool) → not b ≡ true → b ≡ false
    not_turned true k = absurd (false≢true k)
    not_turned false k = refl

which_of : (number next : ℤ) (rest : Bool) → (int_lt number next || (int_le number next && rest)) ≡ true → (int_lt number next ≡ true) ⊎ ((number ≡ next) × (rest ≡ true))
which_of number next rest h = which number next rest (int_lt number next) (int_lt next number) refl refl h

less_so : (number next : ℤ) (rest : Bool) → int_lt number next ≡ true → (int_lt number next || (int_le number next && rest)) ≡ true
less_so number next rest e = ap (λ b. b || (int_le number next && rest)) e

or_true : (b : Bool) → (b || true) ≡ true
or_true true = refl
or_true false = refl

same_so : (number next : ℤ) (rest : Bool) → number ≡ next → rest ≡ true → (int_lt number next || (int_le number next && rest)) ≡ true
same_so number next rest same e = subst (λ (n : ℤ). (int_lt number n || (int_le number n && rest)) ≡ true) same
    (ap (λ b. int_lt number number || (int_le number number && b)) e
    ∙ (ap (λ b. int_lt number number || (b && true)) (int_at_most number number ∙ ap not (int_apart number)) ∙ or_true (int_lt number number)))

wide_joins : (one two three : List ℤ) → comes_first one two ≡ true → comes_first two three ≡ true → comes_first one three ≡ true
wide_joins [] [] three e f = absurd (false≢true e)
wide_joins [] (b ∷ two) [] e f = absurd (false≢true f)
wide_joins [] (b ∷ two) (c ∷ three) e f = refl
wide_joins (a ∷ one) [] three e f = absurd (false≢true e)
wide_joins (a ∷ one) (b ∷ two) [] e f = absurd (false≢true f)
wide_joins (a ∷ one) (b ∷ two) (c ∷ three) e f = joined (which_of a b (comes_first one two) e) (which_of b c (comes_first two three) f) (wide_joins one two three)
  where
    joined : (int_lt a b ≡ true) ⊎ ((a ≡ b) × (comes_first one two ≡ true)) → (int_lt b c ≡ true) ⊎ ((b ≡ c) × (comes_first two three ≡ true))
        → (comes_first one two ≡ true → comes_first two three ≡ true → comes_first one three ≡ true) → comes_first (a ∷ one) (c ∷ three) ≡ true
    joined (inl less) (inl later) rest = less_so a c (comes_first one three) (int_joins a b c less later)
    joined (inl less) (inr same) rest = less_so a c (comes_first one three) (subst (λ (n : ℤ). int_lt a n ≡ true) same.0 less)
    joined (inr same) (inl later) rest = less_so a c (comes_first one three) (subst (λ (n : ℤ). int_lt n c ≡ true) (sym same.0) later)
    joined (inr same) (inr also) rest = same_so a c (comes_first one three) (same.0 ∙ also.0) (rest same.1 also.1)

pub wide_order : IsOrder comes_first
wide_order = record { apart = self_first; joins = wide_joins }
