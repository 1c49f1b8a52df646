-- Choices between two languages.
use Rattle.std.proofs.Common.{◌≡◌, ℕ, zero, suc, ◌<◌, ◌≤◌, ◌⊎◌, inl, inr, max, List, [], length, take, refl, sym, ap, subst, arith, length-append, Result, Ok, Err}
use Rattle.std.proofs.lemmas.List.{length-take-le}
use Rattle.grammar.specs.Language.{Language, Begins, IsPlace, Reads, Nothing, Or}
use Rattle.grammar.specs.Reading.{optional}
use Rattle.grammar.proofs.Places.{begins_text}

max_is : (p q : ℕ) → (max p q ≡ p) ⊎ (max p q ≡ q)
max_is p q = grind arith

-- The place in a choice is the greater of the two places, whatever the languages are.
pub place_or : (A B : Language) (s : List ℕ) (p q : ℕ) → IsPlace A s p → IsPlace B s q → IsPlace (Or A B) s (max p q)
unfolding Begins Or
place_or A B s p q one other = record {
  within = omega (arith, one.within, other.within);
  begins = longer (max_is p q);
  ends = λ n more fits begins. elim begins.1 [
    | inl text ↦ one.ends n (omega arith) fits (begins.0, text)
    | inr text ↦ other.ends n (omega arith) fits (begins.0, text)
  ];
} where
  longer : (max p q ≡ p) ⊎ (max p q ≡ q) → Begins (Or A B) (take (max p q) s)
  longer (inl is) = subst (λ n. Begins (Or A B) (take n s)) (sym is) (one.begins.0, inl one.begins.1)
  longer (inr is) = subst (λ n. Begins (Or A B) (take n s)) (sym is) (other.begins.0, inr other.begins.1)

-- Where the other language leaves the bytes no later, what is read is read in the choice.
pub whole_or : (A B : Language) (s : List ℕ) (p q : ℕ) → Reads A s (Ok p) → IsPlace B s q → q ≤ p → Reads (Or A B) s (Ok p)
unfolding Or
whole_or A B s p q one other least = record {
  place = subst (IsPlace (Or A B) s) (omega arith) (place_or A B s p q one.place other);
  text = inl one.text;
}

-- Where the other language leaves the bytes earlier, what is broken off is broken off in the choice.
pub broken_or : (A B : Language) (s : List ℕ) (p q : ℕ) → Reads A s (Err p) → IsPlace B s q → q < p → Reads (Or A B) s (Err p)
unfolding Or
broken_or A B s p q one other least = record {
  place = subst (IsPlace (Or A B) s) (omega arith) (place_or A B s p q one.place other);
  text = λ text. elim text [
    | inl here ↦ one.text here
    | inr here ↦ other.ends p least one.place.within (begins_text B (take p s) here)
  ];
}

-- Languages of the same texts have the same places.
pub place_same : (A B : Language) (s : List ℕ) (p : ℕ) → ((t : List ℕ) → A t → B t) → ((t : List ℕ) → B t → A t) → IsPlace A s p → IsPlace B s p
unfolding Begins
place_same A B s p to back place = record {
  within = place.within;
  begins = (place.begins.0, to _ place.begins.1);
  ends = λ n more fits begins. place.ends n more fits (begins.0, back _ begins.1);
}

-- Languages of the same texts have the same readings.
pub reads_same : (A B : Language) (s : List ℕ) (r : Result ℕ ℕ) → ((t : List ℕ) → A t → B t) → ((t : List ℕ) → B t → A t) → Reads A s r → Reads B s r
reads_same A B s (Ok p) to back reads = record { place = place_same A B s p to back reads.place; text = to _ reads.text }
reads_same A B s (Err p) to back reads = record { place = place_same A B s p to back reads.place; text = λ text. reads.text (back _ text) }

-- The empty text is left at once.
pub nothing_place : (s : List ℕ) → IsPlace Nothing s 0
unfolding Begins Nothing
nothing_place s = record {
  within = omega arith;
  begins = ([], refl);
  ends = λ n more fits begins. absurd (omega (arith, length-take-le n s fits, length-append (take n s) begins.0, ap length begins.1));
}

-- The empty text is read before any bytes.
pub reads_nothing : (s : List ℕ) → Reads Nothing s (Ok 0)
unfolding Nothing
reads_nothing s = record { place = nothing_place s; text = refl }

or_nothing : (L : Language) (s : List ℕ) → Or L Nothing (take 0 s)
unfolding Or Nothing
or_nothing L s = inr refl

-- What may be there or not is read where it is there, and as nothing where it is refused at once.
pub reads_optional : (L : Language) (s : List ℕ) (r q : Result ℕ ℕ) → Reads L s r → q ≡ optional r → Reads (Or L Nothing) s q
reads_optional L s r q reads is = subst (Reads (Or L Nothing) s) (sym is) (by_case r reads) where
  by_case : (r : Result ℕ ℕ) → Reads L s r → Reads (Or L Nothing) s (optional r)
  by_case (Ok p) reads = whole_or L Nothing s p 0 reads (nothing_place s) (omega arith)
  by_case (Err zero) reads = record { place = place_or L Nothing s 0 0 reads.place (nothing_place s); text = or_nothing L s }
  by_case (Err (suc p)) reads = broken_or L Nothing s (suc p) 0 reads (nothing_place s) (omega arith)

-- The empty text is in a choice only where it is in one of the two.
pub neither : (A B : Language) → ¬ A [] → ¬ B [] → ¬ Or A B []
unfolding Or
neither A B no_a no_b (inl text) = no_a text
neither A B no_a no_b (inr text) = no_b text

-- A reading of the first stands for the choice where the second leaves the bytes at once.
pub reads_or : (A B : Language) (s : List ℕ) (r : Result ℕ ℕ) → IsPlace B s 0 → ¬ B [] → Reads A s r → Reads (Or A B) s r
reads_or A B s (Ok p) other no_empty reads = whole_or A B s p 0 reads other (omega arith)
reads_or A B s (Err zero) other no_empty reads = record { place = place_or A B s 0 0 reads.place other; text = neither A B reads.text no_empty }
reads_or A B s (Err (suc p)) other no_empty reads = broken_or A B s (suc p) 0 reads other (omega arith)

-- The two languages of a choice change places.
pub swapped : (A B : Language) (t : List ℕ) → Or A B t → Or B A t
unfolding Or
swapped A B t (inl text) = inr text
swapped A B t (inr text) = inl text

-- A reading of the second stands for the choice where the first leaves the bytes at once.
pub reads_or_other : (A B : Language) (s : List ℕ) (r : Result ℕ ℕ) → IsPlace A s 0 → ¬ A [] → Reads B s r → Reads (Or A B) s r
reads_or_other A B s r other no_empty reads = reads_same (Or B A) (Or A B) s r (swapped B A) (swapped A B) (reads_or B A s r other no_empty reads)
