-- Whether bytes begin with a word, or are some of its first, and the same with more bytes.
use Rattle.std.proofs.Common.{◌≡◌, ◌&&◌, ℕ, suc, ◌<◌, ◌≤◌, Bool, true, false, List, [], ◌∷◌, ◌++◌, length, drop, refl, sym, ◌∙◌, arith}
use Rattle.std.specs.Prelude.{nat_eq, nat_le}
use Rattle.std.proofs.lemmas.Bool.Decides.{nat_tests}
use Rattle.splitter_forms.specs.Pieces.{begins, is_front_of}

pub both : (a b : Bool) → (a && b) ≡ true → (a ≡ true) × (b ≡ true)
both true b h = (refl, h)
both false b h = (h, absurd (cc))

pub same_back : (m n : ℕ) (e : Bool) → nat_eq m n ≡ e → nat_eq n m ≡ e
same_back m n true h = grind (arith, nat_tests)
same_back m n false h = grind (arith, nat_tests)

le_both : (m n : ℕ) → nat_le (suc m) (suc n) ≡ nat_le m n
le_both m n = grind (arith, nat_tests)

pub front_cons : (w b : ℕ) (ws bs : List ℕ) → is_front_of (w ∷ ws) (b ∷ bs) ≡ (nat_eq b w && is_front_of ws bs)
front_cons w b ws bs = grind (arith, nat_tests, le_both)

pub front_empty : (w : ℕ) (ws : List ℕ) → is_front_of (w ∷ ws) [] ≡ true
front_empty w ws = grind (arith, nat_tests)

pub front_short : (word bytes : List ℕ) → is_front_of word bytes ≡ true → length bytes < length word
front_short word bytes h = grind (arith, nat_tests)

pub begins_more : (word bytes more : List ℕ) → begins word bytes ≡ true → begins word (bytes ++ more) ≡ true
begins_more [] bytes more h = refl
begins_more (w ∷ ws) [] more h = absurd (cc)
begins_more (w ∷ ws) (b ∷ bs) more h =
    let parts = both (nat_eq w b) (begins ws bs) h in
    rw parts.0 (begins_more ws bs more parts.1)

neither_more_by : (w b : ℕ) (ws bs more : List ℕ) (e : Bool) → nat_eq w b ≡ e → begins (w ∷ ws) (b ∷ bs) ≡ false → is_front_of (w ∷ ws) (b ∷ bs) ≡ false → (begins ws bs ≡ false → is_front_of ws bs ≡ false → (begins ws (bs ++ more) ≡ false) × (is_front_of ws (bs ++ more) ≡ false)) → (begins (w ∷ ws) (b ∷ bs ++ more) ≡ false) × (is_front_of (w ∷ ws) (b ∷ bs ++ more) ≡ false)
neither_more_by w b ws bs more true is h k rest =
    let back : nat_eq b w ≡ true = same_back w b true is in
    let r = rest (rw is at h) (rw back at (sym (front_cons w b ws bs) ∙ k)) in
    (rw is r.0, front_cons w b ws (bs ++ more) ∙ rw back r.1)
neither_more_by w b ws bs more false is h k rest =
    let back : nat_eq b w ≡ false = same_back w b false is in
    (rw is, front_cons w b ws (bs ++ more) ∙ rw back)

pub neither_more : (word bytes more : List ℕ) → begins word bytes ≡ false → is_front_of word bytes ≡ false → (begins word (bytes ++ more) ≡ false) × (is_front_of word (bytes ++ more) ≡ false)
neither_more [] bytes more h k = absurd (cc)
neither_more (w ∷ ws) [] more h k = let all = front_empty w ws in absurd (cc)
neither_more (w ∷ ws) (b ∷ bs) more h k = neither_more_by w b ws bs more (nat_eq w b) refl h k (neither_more ws bs more)

pub begins_long : (word bytes : List ℕ) → begins word bytes ≡ true → length word ≤ length bytes
begins_long [] bytes h = omega arith
begins_long (w ∷ ws) [] h = absurd (cc)
begins_long (w ∷ ws) (b ∷ bs) h = let rest = begins_long ws bs (both (nat_eq w b) (begins ws bs) h).1 in omega arith

pub begins_self : (word : List ℕ) → begins word word ≡ true
begins_self [] = refl
begins_self (w ∷ ws) = let same : nat_eq w w ≡ true = grind (arith, nat_tests) in rw same (begins_self ws)

pub begins_split : (word bytes : List ℕ) → begins word bytes ≡ true → word ++ drop (length word) bytes ≡ bytes
begins_split [] bytes h = refl
begins_split (w ∷ ws) [] h = absurd (cc)
begins_split (w ∷ ws) (b ∷ bs) h =
    let parts = both (nat_eq w b) (begins ws bs) h in
    let first : w ≡ b = grind (arith, nat_tests) in
    let rest = begins_split ws bs parts.1 in
    cc

-- what completes the first bytes of a word
pub front_completed : (word bytes : List ℕ) → is_front_of word bytes ≡ true → bytes ++ drop (length bytes) word ≡ word
front_completed word [] h = refl
front_completed [] (b ∷ bs) h = absurd (cc)
front_completed (w ∷ ws) (b ∷ bs) h =
    let parts = both (nat_eq b w) (is_front_of ws bs) (sym (front_cons w b ws bs) ∙ h) in
    let first : b ≡ w = grind (arith, nat_tests) in
    let rest = front_completed ws bs parts.1 in
    cc
