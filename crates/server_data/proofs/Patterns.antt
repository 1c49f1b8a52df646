-- A pattern matches the texts that are the pattern with its `*` and `?` replaced.
use Rattle.std.proofs.Common.{◌≡◌, ℕ, ◌==◌, Bool, true, false, ◌||◌, cond, List, [], ◌∷◌, ◌++◌, length, refl, ◌∙◌, ap, subst, arith, bytes_eq}
use Rattle.std.specs.List.{flat_map}
use Rattle.std.proofs.lemmas.Bool.Decides.{Decides-eqb}
use Rattle.server_data.proofs.Counts.{and_both, and_left, and_right, or_right}
use Rattle.server_data.proofs.Equals.{bytes_are}
use Rattle.server_data.specs.Laws.{PatternsAreReplaced}
use Rattle.server_data.specs.Pattern.{IsReplaced, any_suffix, begins_with, matches, may_stand, stand_for}

-- a byte is told to be equal to itself
eqb_itself : (n : ℕ) → (n == n) ≡ true
eqb_itself n = (Decides-eqb n n).1 refl

-- a text in two parts, of which the second passes the test
record Cut (test : List ℕ → Bool) (text : List ℕ) : Type 0 where
  part : List ℕ
  rest : List ℕ
  joined : part ++ rest ≡ text
  passes : test rest ≡ true

cut : (test : List ℕ → Bool) (text : List ℕ) → any_suffix test text ≡ true → Cut test text
cut test [] e = record { part = []; rest = []; joined = refl; passes = e }
cut test (byte ∷ rest) e = by_test (test (byte ∷ rest)) refl e (cut test rest)
  where
    by_test : (b : Bool) → test (byte ∷ rest) ≡ b → (b || any_suffix test rest) ≡ true → (any_suffix test rest ≡ true → Cut test rest) → Cut test (byte ∷ rest)
    by_test true is e later = record { part = []; rest = byte ∷ rest; joined = refl; passes = is }
    by_test false is e later = let found = later e in record { part = byte ∷ found.part; rest = found.rest; joined = ap (λ (l : List ℕ). byte ∷ l) found.joined; passes = found.passes }

-- what stands after some bytes is a suffix
after_part : (test : List ℕ → Bool) (part rest : List ℕ) → test rest ≡ true → any_suffix test (part ++ rest) ≡ true
after_part test [] [] e = e
after_part test [] (byte ∷ rest) e = rw e refl
after_part test (byte ∷ part) rest e = or_right (test (byte ∷ part ++ rest)) _ (after_part test part rest e)

-- a part more
with_part : (byte : ℕ) (part pattern rest text : List ℕ) → may_stand byte part ≡ true → IsReplaced pattern rest → part ++ rest ≡ text → IsReplaced (byte ∷ pattern) text
with_part byte part pattern rest text may is joined = record {
  parts = part ∷ is.parts;
  stand = and_both (may_stand byte part) (stand_for pattern is.parts) may is.stand;
  joined = ap (λ (l : List ℕ). part ++ l) is.joined ∙ joined;
}

-- one byte stands for `?` and for itself
one_stands : (byte first : ℕ) → (byte == 63 || byte == first) ≡ true → may_stand byte (first ∷ []) ≡ true
one_stands byte first e = by_star (byte == 42)
  where
    by_mark : (b : Bool) → (b || byte == first) ≡ true → cond b true (bytes_eq (first ∷ []) (byte ∷ [])) ≡ true
    by_mark true e = refl
    by_mark false e = rw (← (Decides-eqb byte first).0 e) (and_both (byte == byte) true (eqb_itself byte) refl)

    by_star : (b : Bool) → cond b true (cond (byte == 63) true (bytes_eq (first ∷ []) (byte ∷ []))) ≡ true
    by_star true = refl
    by_star false = by_mark (byte == 63) e

replaced : (pattern text : List ℕ) → matches pattern text ≡ true → IsReplaced pattern text
unfolding matches
replaced [] [] e = record { parts = []; stand = refl; joined = refl }
replaced [] (first ∷ rest) e = absurd (cc)
replaced (byte ∷ pattern) text e = by_star (λ rest. replaced pattern rest) (byte == 42) refl e
  where
    by_first : ((rest : List ℕ) → matches pattern rest ≡ true → IsReplaced pattern rest) → (text : List ℕ) → begins_with byte (matches pattern) text ≡ true → IsReplaced (byte ∷ pattern) text
    by_first after [] e = absurd (cc)
    by_first after (first ∷ rest) e =
        with_part byte (first ∷ []) pattern rest (first ∷ rest) (one_stands byte first (and_left _ _ e)) (after rest (and_right (byte == 63 || byte == first) _ e)) refl

    by_star : ((rest : List ℕ) → matches pattern rest ≡ true → IsReplaced pattern rest) → (b : Bool) → (byte == 42) ≡ b
        → cond b (any_suffix (matches pattern) text) (begins_with byte (matches pattern) text) ≡ true → IsReplaced (byte ∷ pattern) text
    by_star after true is e = let found = cut (matches pattern) text e in with_part byte found.part pattern found.rest text (rw is refl) (after found.rest found.passes) found.joined
    by_star after false is e = by_first after text e

-- a byte of a pattern that isn't a star, and what may stand for it
matches_part : (byte : ℕ) (part : List ℕ) (pattern rest : List ℕ) → cond (byte == 63) (length part == 1) (bytes_eq part (byte ∷ [])) ≡ true → matches pattern rest ≡ true
    → begins_with byte (matches pattern) (part ++ rest) ≡ true
matches_part byte part pattern rest may e = by_mark (byte == 63) refl may
  where
    by_part : (part : List ℕ) → (length part == 1) ≡ true → (byte == 63) ≡ true → begins_with byte (matches pattern) (part ++ rest) ≡ true
    by_part [] one is = absurd (cc)
    by_part (first ∷ []) one is = rw (is, e) refl
    by_part (first ∷ second ∷ others) one is = absurd (omega (arith, (Decides-eqb (length (first ∷ second ∷ others)) 1).0 one))

    by_mark : (b : Bool) → (byte == 63) ≡ b → cond b (length part == 1) (bytes_eq part (byte ∷ [])) ≡ true → begins_with byte (matches pattern) (part ++ rest) ≡ true
    by_mark true is may = by_part part may is
    by_mark false is may = rw (bytes_are part (byte ∷ []) may) (and_both (byte == 63 || byte == byte) (matches pattern rest) (or_right (byte == 63) (byte == byte) (eqb_itself byte)) e)

matched : (pattern : List ℕ) (parts : List (List ℕ)) → stand_for pattern parts ≡ true → matches pattern (flat_map (λ (part : List ℕ). part) parts) ≡ true
unfolding matches
matched [] [] e = refl
matched [] (part ∷ parts) e = absurd (cc)
matched (byte ∷ pattern) [] e = absurd (cc)
matched (byte ∷ pattern) (part ∷ parts) e = by_star (byte == 42) (flat_map (λ (part : List ℕ). part) parts) (matched pattern parts (and_right (may_stand byte part) _ e)) (and_left _ _ e)
  where
    by_star : (b : Bool) (rest : List ℕ) → matches pattern rest ≡ true → cond b true (cond (byte == 63) (length part == 1) (bytes_eq part (byte ∷ []))) ≡ true
        → cond b (any_suffix (matches pattern) (part ++ rest)) (begins_with byte (matches pattern) (part ++ rest)) ≡ true
    by_star true rest after may = after_part (matches pattern) part rest after
    by_star false rest after may = matches_part byte part pattern rest may after

pub patterns : PatternsAreReplaced
patterns pattern text = (λ e. replaced pattern text e, λ is. subst (λ (l : List ℕ). matches pattern l ≡ true) is.joined (matched pattern is.parts is.stand))
