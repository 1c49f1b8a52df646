-- Fixed texts, single bytes and runs of bytes.
use Rattle.std.proofs.Common.{◌≡◌, ◌≢◌, ℕ, zero, suc, ◌<◌, ◌≤◌, Bool, true, false, List, [], ◌∷◌, ◌++◌, length, take, drop, get_or, refl, sym, ◌∙◌, ap, subst, arith, append-nil, length-append, length-drop, drop-cons, add-zero, Ok, Err}
use Rattle.std.proofs.lemmas.List.{take-append-drop, length-take-le, get_or-drop}
use Rattle.grammar.specs.Language.{Language, Begins, Reads, Fixed, One, Then, Many}
use Rattle.grammar.proofs.Empty.{no_empty_one, begins_one}
use Rattle.grammar.proofs.Places.{Stops, whole_of, broken_of}
use Rattle.grammar.proofs.Rows.{Apart}
use Rattle.grammar.proofs.Repeats.{many_more, many_none, some_whole, some_broken}
use Rattle.grammar.proofs.Sets.{apart_free, lengthens_fixed, lengthens_one, starts_one, begins_first}

fixed_stops : (front rest : List ℕ) → Stops (Fixed front) front rest
unfolding Begins Fixed
fixed_stops front rest = record {
  begins = ([], append-nil front);
  ends = λ b more is begins. absurd (omega (arith, length-append (front ++ b ∷ []) begins.0, length-append front (b ∷ []), ap length begins.1));
}

-- The bytes begin with the word.
pub fixed_whole : (word s : List ℕ) → length word ≤ length s → take (length word) s ≡ word → Reads (Fixed word) s (Ok (length word))
unfolding Fixed
fixed_whole word s fits is =
    whole_of (Fixed word) s word (drop (length word) s) (length word) (sym (take-append-drop (length word) s) ∙ ap (λ f. f ++ drop (length word) s) is) refl (fixed_stops word (drop (length word) s)) refl

same_head : (f : List ℕ) (b c : ℕ) (x y : List ℕ) → (f ++ b ∷ []) ++ x ≡ f ++ c ∷ y → b ≡ c
same_head [] b c x y e = cc
same_head (d ∷ f) b c x y e = same_head f b c x y (cc)

nonempty : (f r : List ℕ) (c : ℕ) → f ≢ f ++ c ∷ r
nonempty f r c e = omega (arith, length-append f (c ∷ r), ap length e)

-- the bytes have a front of the word, and then another byte or no more
broken_stops : (f r rest : List ℕ) (c : ℕ) → ((b : ℕ) (more : List ℕ) → rest ≡ b ∷ more → b ≢ c) → Stops (Fixed (f ++ c ∷ r)) f rest
unfolding Begins Fixed
broken_stops f r rest c other = record {
  begins = (c ∷ r, refl);
  ends = λ b more is begins. other b more is (same_head f b c begins.0 r begins.1);
}

-- The bytes and the word are the same up to i, and not there.
pub fixed_broken : (word s : List ℕ) (i : ℕ) → i < length word → i ≤ length s → take i s ≡ take i word → (i < length s → get_or s i 0 ≢ get_or word i 0) → Reads (Fixed word) s (Err i)
unfolding Fixed
fixed_broken word s i inside fits same other =
    let word_is : word ≡ take i s ++ get_or word i 0 ∷ drop (suc i) word = cut_at word i inside ∙ ap (λ f. f ++ get_or word i 0 ∷ drop (suc i) word) (sym same) in
    broken_of (Fixed word) s (take i s) (drop i s) i (sym (take-append-drop i s)) (sym (length-take-le i s fits))
    (subst (λ w. Stops (Fixed w) (take i s) (drop i s)) (sym word_is)
    (broken_stops (take i s) (drop (suc i) word) (drop i s) (get_or word i 0) (λ b more is same_byte. other (reaches b more is) (at_head b more is ∙ same_byte))))
    (λ text. nonempty (take i s) (drop (suc i) word) (get_or word i 0) (text ∙ word_is)) where
      cut_at : (w : List ℕ) (k : ℕ) → k < length w → w ≡ take k w ++ get_or w k 0 ∷ drop (suc k) w
      cut_at w k h = sym (take-append-drop k w) ∙ ap (λ r. take k w ++ r) (drop-cons w k 0 h)

      reaches : (b : ℕ) (more : List ℕ) → drop i s ≡ b ∷ more → i < length s
      reaches b more is = omega (arith, length-drop i s, ap length is)

      at_head : (b : ℕ) (more : List ℕ) → drop i s ≡ b ∷ more → get_or s i 0 ≡ b
      at_head b more is = ap (λ k. get_or s k 0) (sym (add-zero i)) ∙ sym (get_or-drop i s 0 0) ∙ ap (λ l. get_or l 0 0) is

-- Another first byte, or none, leaves a fixed text at once.
pub fixed_other : (b : ℕ) (r s : List ℕ) → (0 < length s → get_or s 0 0 ≢ b) → Reads (Fixed (b ∷ r)) s (Err 0)
fixed_other b r s other = fixed_broken (b ∷ r) s 0 (omega arith) (omega arith) refl other

-- The first byte is the word.
pub fixed_byte : (b : ℕ) (s : List ℕ) → 0 < length s → get_or s 0 0 ≡ b → Reads (Fixed (b ∷ [])) s (Ok 1)
fixed_byte b [] long is = absurd (omega arith)
fixed_byte b (c ∷ s) long is = fixed_whole (b ∷ []) (c ∷ s) (omega arith) (ap (λ d. d ∷ []) is)

-- A fixed text is apart from all that follows.
pub fixed_apart : (word : List ℕ) (B : Language) → Apart (Fixed word) B
fixed_apart word B = apart_free (Fixed word) B (lengthens_fixed word _)

-- A single byte is apart from all that follows.
pub one_apart : (test : ℕ → Bool) (B : Language) → Apart (One test) B
one_apart test B = apart_free (One test) B (lengthens_one test _)

-- The first byte passes.
pub one_whole : (test : ℕ → Bool) (b : ℕ) (rest : List ℕ) → test b ≡ true → Reads (One test) (b ∷ rest) (Ok 1)
unfolding One Begins
one_whole test b rest passes = whole_of (One test) (b ∷ rest) (b ∷ []) rest 1 refl refl (record {
  begins = ([], (b, refl, passes));
  ends = λ c more is begins. cc (begins.1.1);
}) (b, refl, passes)

no_one : (test : ℕ → Bool) (s : List ℕ) → ((b : ℕ) (rest : List ℕ) → s ≡ b ∷ rest → test b ≡ false) → (c : ℕ) (more : List ℕ) → s ≡ c ∷ more → ¬ Begins (One test) (c ∷ [])
no_one test s fails c more is begins = wrong (fails c more is) (begins_first (One test) (λ b. test b ≡ true) (starts_one test) c [] begins) where
  wrong : {t : Bool} → t ≡ false → t ≡ true → ⊥
  wrong fails passes = cc

-- Some byte passes, and the first one, where there is one, doesn't.
pub one_broken : (test : ℕ → Bool) (x : ℕ) → test x ≡ true → (s : List ℕ) → ((b : ℕ) (rest : List ℕ) → s ≡ b ∷ rest → test b ≡ false) → Reads (One test) s (Err 0)
one_broken test x some s fails = broken_of (One test) s [] s 0 refl refl (record {
  begins = begins_one test x some;
  ends = λ c more is begins. no_one test s fails c more is begins;
}) (no_empty_one test)

by_head : (test : ℕ → Bool) (s : List ℕ) → (0 < length s → test (get_or s 0 0) ≡ false) → (b : ℕ) (rest : List ℕ) → s ≡ b ∷ rest → test b ≡ false
by_head test s fails b rest is = subst (λ c. test c ≡ false) (ap (λ l. get_or l 0 0) is) (fails (omega (arith, ap length is)))

-- The byte at index 0 passes.
pub one_there : (test : ℕ → Bool) (s : List ℕ) → 0 < length s → test (get_or s 0 0) ≡ true → Reads (One test) s (Ok 1)
one_there test [] long passes = absurd (omega arith)
one_there test (b ∷ s) long passes = one_whole test b s passes

-- Some byte passes, and the byte at index 0, where there is one, doesn't.
pub one_none : (test : ℕ → Bool) (x : ℕ) → test x ≡ true → (s : List ℕ) → (0 < length s → test (get_or s 0 0) ≡ false) → Reads (One test) s (Err 0)
one_none test x some s fails = one_broken test x some s (by_head test s fails)

-- A run of bytes that pass, up to the end or to one that doesn't.
pub run_whole : (test : ℕ → Bool) (s : List ℕ) (n : ℕ) → n ≤ length s → ((k : ℕ) → k < n → test (get_or s k 0) ≡ true) → (n < length s → test (get_or s n 0) ≡ false) → Reads (Many (One test)) s (Ok n)
run_whole test s zero fits passes stops = many_none (One test) s (no_empty_one test) (no_one test s (by_head test s stops))
run_whole test [] (suc n) fits passes stops = absurd (omega arith)
run_whole test (b ∷ s) (suc n) fits passes stops =
    let rest : Reads (Many (One test)) s (Ok n) = run_whole test s n (omega arith) (λ k h. passes (suc k) (omega arith)) (λ h. stops (omega arith)) in
    subst (λ m. Reads (Many (One test)) (b ∷ s) (Ok m)) (omega arith) (many_more (One test) (b ∷ s) 1 (Ok n) (one_apart test (Many (One test))) (omega arith) (one_whole test b s (passes 0 (omega arith))) rest)

-- A run of at least one such byte.
pub run_some : (test : ℕ → Bool) (s : List ℕ) (n : ℕ) → 0 < n → n ≤ length s → ((k : ℕ) → k < n → test (get_or s k 0) ≡ true) → (n < length s → test (get_or s n 0) ≡ false) → Reads (Then (One test) (Many (One test))) s (Ok n)
run_some test s n some fits passes stops = some_whole (One test) s n some (run_whole test s n fits passes stops)

-- Where at least one such byte is wanted and none is there.
pub run_none : (test : ℕ → Bool) (x : ℕ) → test x ≡ true → (s : List ℕ) → (0 < length s → test (get_or s 0 0) ≡ false) → Reads (Then (One test) (Many (One test))) s (Err 0)
run_none test x some s fails = some_broken (One test) s (no_empty_one test) (begins_one test x some)
    (many_none (One test) s (no_empty_one test) (no_one test s (by_head test s fails)))
