-- Places: how far bytes go along with a language.
use Rattle.std.proofs.Common.{◌≡◌, ℕ, zero, suc, ◌+◌, ◌-◌, ◌<◌, ◌≤◌, List, [], ◌∷◌, ◌++◌, length, take, drop, refl, sym, ◌∙◌, ap, subst, arith, append_assoc, append-nil, length-append, length-drop, Result, Ok, Err}
use Rattle.std.proofs.Math.Seq.{take-append_seam, take-append-add}
use Rattle.std.proofs.lemmas.List.{take-append-drop, length-take-le, take_all}
use Rattle.grammar.specs.Language.{Language, Begins, IsPlace, Reads}

-- some text begins with the front, and none goes on as the rest does
pub record Stops (L : Language) (front rest : List ℕ) : Type 0 where
  pub begins : Begins L front
  pub ends : (b : ℕ) (more : List ℕ) → rest ≡ b ∷ more → ¬ Begins L (front ++ b ∷ [])

-- A front of what begins a text begins a text.
pub begins_less : (L : Language) (a b : List ℕ) → Begins L (a ++ b) → Begins L a
unfolding Begins
begins_less L a b (more, text) = (b ++ more, subst L (append_assoc a b more) text)

-- A front of a text begins a text.
pub begins_front : (L : Language) (a b : List ℕ) → L (a ++ b) → Begins L a
unfolding Begins
begins_front L a b text = (b, text)

-- A text begins a text.
pub begins_text : (L : Language) (t : List ℕ) → L t → Begins L t
begins_text L t text = begins_front L t [] (subst L (sym (append-nil t)) text)

-- `&s[p..]` is what is left after p bytes.
pub rest_of : (s : List ℕ) (p : ℕ) → take (length s - p) (drop p s) ≡ drop p s
rest_of s p = take_all (length s - p) (drop p s) (omega (arith, length-drop p s))

-- A reading of `&s[p..]` is one of what is left.
pub reads_rest : (L : Language) (s : List ℕ) (p : ℕ) (r q : Result ℕ ℕ) → Reads L (take (length s - p) (drop p s)) r → r ≡ q → Reads L (drop p s) q
reads_rest L s p r q reads is = subst (Reads L (drop p s)) is (subst (λ t. Reads L t r) (rest_of s p) reads)

no_more : (L : Language) (front rest : List ℕ) (k : ℕ) → Stops L front rest → suc k ≤ length rest → ¬ Begins L (front ++ take (suc k) rest)
no_more L front [] k stops fits begins = absurd (omega arith)
no_more L front (b ∷ more) k stops fits begins = stops.ends b more refl (begins_less L (front ++ b ∷ []) (take k more) (rw append_assoc begins))

place_of_stops : (L : Language) (front rest : List ℕ) → Stops L front rest → IsPlace L (front ++ rest) (length front)
place_of_stops L front rest stops = record {
  within = omega (arith, length-append front rest);
  begins = rw (take-append_seam front rest) stops.begins;
  ends = λ n more fits begins. ends_at n ((n - length front) - 1) (omega arith) fits begins;
} where
  ends_at : (n k : ℕ) → n ≡ length front + suc k → n ≤ length (front ++ rest) → ¬ Begins L (take n (front ++ rest))
  ends_at n k is fits begins =
      let at : take n (front ++ rest) ≡ front ++ take (suc k) rest = ap (λ m. take m (front ++ rest)) is ∙ take-append-add front rest (suc k) in
      no_more L front rest k stops (omega (arith, length-append front rest)) (subst (Begins L) at begins)

-- Where the bytes stop is their place.
pub place_of : (L : Language) (s front rest : List ℕ) (p : ℕ) → s ≡ front ++ rest → p ≡ length front → Stops L front rest → IsPlace L s p
place_of L s front rest p split size stops =
    subst (λ n. IsPlace L s n) (sym size) (subst (λ bytes. IsPlace L bytes (length front)) (sym split) (place_of_stops L front rest stops))

-- At their place the bytes stop.
pub stops_of_place : (L : Language) (s : List ℕ) (p : ℕ) → IsPlace L s p → Stops L (take p s) (drop p s)
stops_of_place L s p place = record {
  begins = place.begins;
  ends = λ b more is begins.
      let size : length (take p s) ≡ p = length-take-le p s place.within in
      let cut : s ≡ take p s ++ b ∷ more = sym (take-append-drop p s) ∙ ap (λ r. take p s ++ r) is in
      let next : take (length (take p s) + 1) (take p s ++ b ∷ more) ≡ take p s ++ b ∷ [] = take-append-add (take p s) (b ∷ more) 1 in
      let here : take (p + 1) s ≡ take p s ++ b ∷ [] = cc in
      let fits : p + 1 ≤ length s = omega (arith, ap length cut, length-append (take p s) (b ∷ more)) in
      place.ends (p + 1) (omega arith) fits (subst (Begins L) (sym here) begins);
}

taken : (s front rest : List ℕ) (p : ℕ) → s ≡ front ++ rest → p ≡ length front → take p s ≡ front
taken s front rest p split size = rw (split, size) (take-append_seam front rest)

-- A front that is a text, and with which the bytes stop, is read.
pub whole_of : (L : Language) (s front rest : List ℕ) (p : ℕ) → s ≡ front ++ rest → p ≡ length front → Stops L front rest → L front → Reads L s (Ok p)
whole_of L s front rest p split size stops text = record {
  place = place_of L s front rest p split size stops;
  text = subst L (sym (taken s front rest p split size)) text;
}

-- A front that is no text, and with which the bytes stop, is broken off.
pub broken_of : (L : Language) (s front rest : List ℕ) (p : ℕ) → s ≡ front ++ rest → p ≡ length front → Stops L front rest → ¬ L front → Reads L s (Err p)
broken_of L s front rest p split size stops no_text = record {
  place = place_of L s front rest p split size stops;
  text = λ text. no_text (subst L (taken s front rest p split size) text);
}

-- A refusal that `?` passes on is the answer.
pub passed_on : (L : Language) (s : List ℕ) (p : ℕ) (first whole : Result ℕ ℕ) → first ≡ Err p → whole ≡ Err p → Reads L s first → Reads L s whole
passed_on L s p first whole one_is whole_is reads = subst (Reads L s) (one_is ∙ sym whole_is) reads

-- What is read lies within the bytes.
pub read_within : (L : Language) (s : List ℕ) (k : ℕ) (r : Result ℕ ℕ) → Reads L s r → r ≡ Ok k → k ≤ length s
read_within L s k r reads is = let there : Reads L s (Ok k) = subst (Reads L s) is reads in there.place.within

-- Where no text is empty, what is read is not empty.
pub read_some : (L : Language) (s : List ℕ) (k : ℕ) (r : Result ℕ ℕ) → ¬ L [] → Reads L s r → r ≡ Ok k → 0 < k
read_some L s zero r no_empty reads is = let there : Reads L s (Ok zero) = subst (Reads L s) is reads in absurd (no_empty there.text)
read_some L s (suc k) r no_empty reads is = omega arith
