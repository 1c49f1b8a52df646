-- A pattern is matched from its last star on: what earlier stars stand for need not be tried again.
use Rattle.std.proofs.Common.{◌≡◌, ◌≤◌, ◌<◌, ◌+◌, ◌*◌, suc, ◌==◌, ℕ, Bool, true, false, ◌&&◌, ◌||◌, cond, List, [], ◌∷◌, drop, length, refl, sym, ◌∙◌, ap, subst, arith}
use Rattle.std.proofs.lemmas.Bool.Decides.{Decides-eqb}
use Rattle.std.proofs.Math.Nat.{mul-le-mul_right}
use Rattle.server_data.proofs.Counts.{and_right, or_right}
use Rattle.server_data.specs.Pattern.{any_suffix, begins_with, matches}
use Rattle.server_model.specs.Step.{byte_step, next_step}
use Rattle.server_model.specs.declared.pattern.Step.{Step}
use Rattle.server_model.specs.declared.pattern.Step.TheVariants.{Whole, Star, Byte, Miss, Short}

or_false : (b : Bool) → (b || false) ≡ b
or_false true = refl
or_false false = refl

-- what follows from a test that is passed can be left out beside it
either : (a b : Bool) → (b ≡ true → a ≡ true) → (a || b) ≡ a
either true b e = refl
either false true e = sym (e refl)
either false false e = refl

-- what is left after a first byte, or after more, passes the test
abbrev pub any_later : (List ℕ → Bool) → List ℕ → Bool
any_later test [] = false
any_later test (byte ∷ rest) = any_suffix test rest

-- the text itself, or what is left of it later
at_once_or_later : (test : List ℕ → Bool) (text : List ℕ) → any_suffix test text ≡ (test text || any_later test text)
at_once_or_later test [] = sym (or_false (test []))
at_once_or_later test (byte ∷ rest) = refl

at_once : (test : List ℕ → Bool) (text : List ℕ) → test text ≡ true → any_suffix test text ≡ true
at_once test text e = at_once_or_later test text ∙ rw e refl

is_later : (test : List ℕ → Bool) (text : List ℕ) → any_later test text ≡ true → any_suffix test text ≡ true
is_later test text e = at_once_or_later test text ∙ or_right (test text) _ e

-- one of two is so
one_of : (a b : Bool) (Q : Type 0) → (a || b) ≡ true → (a ≡ true → Q) → (b ≡ true → Q) → Q
one_of true b Q e here there = here refl
one_of false b Q e here there = there e

-- a suffix of a suffix is one
of_suffix : (test : List ℕ → Bool) (text : List ℕ) → any_suffix (any_suffix test) text ≡ true → any_suffix test text ≡ true
of_suffix test [] e = e
of_suffix test (byte ∷ rest) e =
    one_of (any_suffix test (byte ∷ rest)) (any_suffix (any_suffix test) rest) (any_suffix test (byte ∷ rest) ≡ true) e
    (λ here. here) (λ there. or_right (test (byte ∷ rest)) _ (of_suffix test rest there))

-- tests that are alike
alike : (test other : List ℕ → Bool) → ((text : List ℕ) → test text ≡ other text) → (text : List ℕ) → any_suffix test text ≡ any_suffix other text
alike test other same [] = same []
alike test other same (byte ∷ rest) = rw (same (byte ∷ rest), alike test other same rest) refl

-- what a byte of a pattern and what follows it match is a byte and what that matches
after_byte : (byte : ℕ) (test : List ℕ → Bool) (text : List ℕ) → any_suffix (begins_with byte test) text ≡ true → any_later test text ≡ true
after_byte byte test [] e = absurd (cc)
after_byte byte test (first ∷ rest) e =
    one_of ((byte == 63 || byte == first) && test rest) (any_suffix (begins_with byte test) rest) (any_suffix test rest ≡ true) e
    (λ here. at_once test rest (and_right (byte == 63 || byte == first) _ here)) (λ there. is_later test rest (after_byte byte test rest there))

-- how far a pattern is matched with a text: what is left of both, the pattern after the last star, and the text from which on that star stands for bytes
pub record Known (pattern text left rest again from : List ℕ) : Type 0 where
  pub told : matches pattern text ≡ (matches left rest || any_later (matches again) from)
  pub later : any_later (matches again) from ≡ true → any_suffix (matches left) rest ≡ true
  pub left_fits : length left ≤ length again
  pub again_fits : length again ≤ length pattern
  pub from_fits : length from ≤ length text
  pub rest_fits : length rest ≤ length text

pub known_first : (pattern text : List ℕ) → Known pattern text pattern text pattern []
known_first pattern text = record {
  told = sym (or_false (matches pattern text));
  later = λ e. absurd (cc);
  left_fits = omega arith;
  again_fits = omega arith;
  from_fits = omega arith;
  rest_fits = omega arith;
}

-- what is left at each step
pub data IsStep : List ℕ → List ℕ → Step → Type 0 where
  whole : IsStep [] [] Whole
  longer : {first : ℕ} {rest : List ℕ} → IsStep [] (first ∷ rest) Miss
  star : {byte : ℕ} {left rest : List ℕ} → (byte == 42) ≡ true → IsStep (byte ∷ left) rest Star
  short : {byte : ℕ} {left : List ℕ} → (byte == 42) ≡ false → IsStep (byte ∷ left) [] Short
  stands : {byte first : ℕ} {left rest : List ℕ} → (byte == 42) ≡ false → (byte == 63 || byte == first) ≡ true → IsStep (byte ∷ left) (first ∷ rest) Byte
  differs : {byte first : ℕ} {left rest : List ℕ} → (byte == 42) ≡ false → (byte == 63 || byte == first) ≡ false → IsStep (byte ∷ left) (first ∷ rest) Miss

step_at : (left rest : List ℕ) → IsStep left rest (next_step left rest)
step_at [] [] = whole
step_at [] (first ∷ rest) = longer
step_at (byte ∷ left) rest = by_star (byte == 42) refl
  where
    by_first : (rest : List ℕ) → (byte == 42) ≡ false → IsStep (byte ∷ left) rest (byte_step byte rest)
    by_first [] no_star = short no_star
    by_first (first ∷ rest) no_star = by_test (byte == 63 || byte == first) refl
      where
        by_test : (b : Bool) → (byte == 63 || byte == first) ≡ b → IsStep (byte ∷ left) (first ∷ rest) (cond b Byte Miss)
        by_test true e = stands no_star e
        by_test false e = differs no_star e

    by_star : (b : Bool) → (byte == 42) ≡ b → IsStep (byte ∷ left) rest (cond b Star (byte_step byte rest))
    by_star true e = star e
    by_star false e = by_first rest e

pub step_is : (left rest : List ℕ) (told made : Step) → told ≡ next_step left rest → told ≡ made → IsStep left rest made
step_is left rest told made e f = subst (IsStep left rest) (sym e ∙ f) (step_at left rest)

at_star : (byte : ℕ) (left : List ℕ) → (byte == 42) ≡ true → (rest : List ℕ) → matches (byte ∷ left) rest ≡ any_suffix (matches left) rest
unfolding matches
at_star byte left e rest = rw e refl

at_byte : (byte : ℕ) (left : List ℕ) → (byte == 42) ≡ false → (rest : List ℕ) → matches (byte ∷ left) rest ≡ begins_with byte (matches left) rest
unfolding matches
at_byte byte left e rest = rw e refl

-- the star stands for nothing at first
pub known_star : (pattern text left rest again from : List ℕ) → IsStep left rest Star → Known pattern text left rest again from
    → Known pattern text (drop 1 left) rest (drop 1 left) rest
known_star pattern text [] rest again from step k = elim step [ ]
known_star pattern text (byte ∷ left) rest again from (star e) k = record {
  told = k.told ∙ (either _ _ (λ f. at_star byte left e rest ∙ earlier f) ∙ (at_star byte left e rest ∙ at_once_or_later (matches left) rest));
  later = is_later (matches left) rest;
  left_fits = omega arith;
  again_fits = omega (arith, k.left_fits, k.again_fits);
  from_fits = k.rest_fits;
  rest_fits = k.rest_fits;
}
  where
    earlier : any_later (matches again) from ≡ true → any_suffix (matches left) rest ≡ true
    earlier f = of_suffix (matches left) rest (sym (alike (matches (byte ∷ left)) (any_suffix (matches left)) (at_star byte left e) rest) ∙ k.later f)

-- a byte stands for a byte
pub known_byte : (pattern text left rest again from : List ℕ) → IsStep left rest Byte → Known pattern text left rest again from
    → Known pattern text (drop 1 left) (drop 1 rest) again from
known_byte pattern text [] rest again from step k = elim step [ ]
known_byte pattern text (byte ∷ left) [] again from step k = elim step [ ]
known_byte pattern text (byte ∷ left) (first ∷ rest) again from (stands e f) k = record {
  told = k.told ∙ ap (λ (b : Bool). b || any_later (matches again) from) (at_byte byte left e (first ∷ rest) ∙ rw f refl);
  later = λ g. after_byte byte (matches left) (first ∷ rest) (sym (alike (matches (byte ∷ left)) (begins_with byte (matches left)) (at_byte byte left e) (first ∷ rest)) ∙ k.later g);
  left_fits = omega (arith, k.left_fits);
  again_fits = k.again_fits;
  from_fits = k.from_fits;
  rest_fits = omega (arith, k.rest_fits);
}

differ : (left rest : List ℕ) → IsStep left rest Miss → matches left rest ≡ false
unfolding matches
differ [] [] step = elim step [ ]
differ [] (first ∷ rest) longer = refl
differ (byte ∷ left) [] step = elim step [ ]
differ (byte ∷ left) (first ∷ rest) (differs e f) = at_byte byte left e (first ∷ rest) ∙ rw f refl

-- the last star stands for a byte more
pub known_later : (pattern text left rest again from : List ℕ) → IsStep left rest Miss → 1 ≤ length from → Known pattern text left rest again from
    → Known pattern text again (drop 1 from) again (drop 1 from)
known_later pattern text left rest again [] step some k = absurd (omega (arith, some))
known_later pattern text left rest again (first ∷ from) step some k = record {
  told = k.told ∙ (ap (λ (b : Bool). b || any_suffix (matches again) from) (differ left rest step) ∙ at_once_or_later (matches again) from);
  later = is_later (matches again) from;
  left_fits = omega arith;
  again_fits = k.again_fits;
  from_fits = omega (arith, k.from_fits);
  rest_fits = omega (arith, k.from_fits);
}

-- a measure in two parts falls where the first part does
pub falls : (before now size left rest : ℕ) → now < before → left < size → now * size + left < before * size + rest
falls before now size left rest less small = omega (arith, mul-le-mul_right {m = now + 1} {n = before} size (omega (arith, less)), distr now size)
  where
    distr : (n size : ℕ) → (n + 1) * size ≡ n * size + size
    distr n size = omega arith

-- the measure of the loop falls where a star is passed
pub star_falls : (pattern text left rest again from : List ℕ) → IsStep left rest Star → Known pattern text left rest again from
    → (length (drop 1 left) * (length text + 1) + length rest) * (length pattern + 1) + length (drop 1 left) < (length again * (length text + 1) + length from) * (length pattern + 1) + length left
star_falls pattern text [] rest again from step k = elim step [ ]
star_falls pattern text (byte ∷ left) rest again from (star e) k =
    falls (length again * (length text + 1) + length from) (length left * (length text + 1) + length rest) (length pattern + 1) (length left) (suc (length left))
    (falls (length again) (length left) (length text + 1) (length rest) (length from) (omega (arith, k.left_fits)) (omega (arith, k.rest_fits)))
    (omega (arith, k.left_fits, k.again_fits))

-- both end at once
pub known_whole : (pattern text left rest again from : List ℕ) → IsStep left rest Whole → Known pattern text left rest again from → true ≡ matches pattern text
unfolding matches
known_whole pattern text [] [] again from whole k = sym k.told
known_whole pattern text [] (first ∷ rest) again from step k = elim step [ ]
known_whole pattern text (byte ∷ left) rest again from step k = elim step [ ]

-- no star is left that could stand for more
pub known_missed : (pattern text left rest again from : List ℕ) → IsStep left rest Miss → from ≡ [] → Known pattern text left rest again from → false ≡ matches pattern text
known_missed pattern text left rest again from step none k = sym (k.told ∙ rw (none, differ left rest step) refl)

-- the text ends too early, from wherever the last star stands for bytes
pub known_short : (pattern text left rest again from : List ℕ) → IsStep left rest Short → Known pattern text left rest again from → false ≡ matches pattern text
known_short pattern text [] rest again from step k = elim step [ ]
known_short pattern text (byte ∷ left) [] again from (short e) k = sym (k.told ∙ (either (matches (byte ∷ left) []) _ k.later ∙ at_byte byte left e []))
known_short pattern text (byte ∷ left) (first ∷ rest) again from step k = elim step [ ]

-- what a test of the length says
pub empty_is : (from : List ℕ) (b : Bool) → b ≡ (length from == 0) → b ≡ true → from ≡ []
empty_is [] b is e = refl
empty_is (first ∷ from) b is e = absurd (omega (arith, (Decides-eqb (length (first ∷ from)) 0).0 (sym is ∙ e)))

pub some_is : (from : List ℕ) (b : Bool) → b ≡ (length from == 0) → b ≡ false → 1 ≤ length from
some_is [] b is e = absurd (cc)
some_is (first ∷ from) b is e = omega arith
