-- Whole texts: what a reading of the front says of all the bytes.
use Rattle.std.proofs.Common.{◌≡◌, ◌≢◌, ℕ, ◌+◌, ◌-◌, inl, inr, max, List, ◌++◌, length, take, drop, refl, sym, ◌∙◌, subst, arith, Result, Ok, Err}
use Rattle.std.proofs.lemmas.List.{take_all, take-append-drop}
use Rattle.std.proofs.Math.Nat.{eq-or-lt_of_le}
use Rattle.grammar.specs.Language.{Language, IsPlace, Reads, Refused, Fixed, Then, Next, Or}
use Rattle.grammar.proofs.Places.{begins_text, rest_of}
use Rattle.grammar.proofs.Rows.{Apart, NextApart, place_next, second_text}
use Rattle.grammar.proofs.Choices.{place_or}

all_taken : (L : Language) (s : List ℕ) → L s → L (take (length s) s)
all_taken L s text = subst L (sym (take_all (length s) s (omega arith))) text

-- What is read to the end is a text.
pub whole_text : (L : Language) (s : List ℕ) (p : ℕ) → Reads L s (Ok p) → p ≡ length s → L s
whole_text L s p reads is = subst L (take_all p s (omega arith)) reads.text

-- The front is a text, and more follows.
pub refused_more : (L : Language) (s : List ℕ) (p : ℕ) → Reads L s (Ok p) → p ≢ length s → Refused L s p
refused_more L s p reads other = record {
  at = reads.place;
  no_text = λ text. reads.place.ends (length s) (omega (arith, reads.place.within)) (omega arith) (begins_text L _ (all_taken L s text));
}

-- What is broken off is refused there.
pub refused_broken : (L : Language) (s : List ℕ) (p : ℕ) → Reads L s (Err p) → Refused L s p
refused_broken L s p reads = record {
  at = reads.place;
  no_text = λ text. elim (eq-or-lt_of_le reads.place.within) [
    | inl is ↦ reads.text (subst L (sym (take_all p s (omega arith))) text)
    | inr less ↦ reads.place.ends (length s) less (omega arith) (begins_text L _ (all_taken L s text))
  ];
}

-- A text of neither language is refused at the greater place.
pub refused_or : (A B : Language) (s : List ℕ) (p q : ℕ) → Refused A s p → Refused B s q → Refused (Or A B) s (max p q)
unfolding Or
refused_or A B s p q one other = record {
  at = place_or A B s p q one.at other.at;
  no_text = λ text. elim text [ inl here ↦ one.no_text here | inr here ↦ other.no_text here ];
}

-- What is read to the end as a fixed text is that text.
pub fixed_is : (word s : List ℕ) (p : ℕ) (r : Result ℕ ℕ) → Reads (Fixed word) s r → r ≡ Ok p → p ≡ length s → s ≡ word
unfolding Fixed
fixed_is word s p r reads is all = whole_text (Fixed word) s p (subst (Reads (Fixed word) s) is reads) all

-- A text of A that was read, and a text of what it asks for to the end, are a text of the row.
pub next_text : (A : Language) (B : List ℕ → Language) (s : List ℕ) (p : ℕ) → Reads A s (Ok p) → B (take p s) (take (length s - p) (drop p s)) → Next A B s
unfolding Next
next_text A B s p first second = (take p s, drop p s, sym (take-append-drop p s), first.text, subst (B (take p s)) (rest_of s p) second)

-- A text of A that was read, and then what is no text of what it asks for, are refused in the row.
pub refused_next : (A : Language) (B : List ℕ → Language) (s : List ℕ) (p q : ℕ) → NextApart A B → Reads A s (Ok p) → Refused (B (take p s)) (take (length s - p) (drop p s)) q → Refused (Next A B) s (p + q)
refused_next A B s p q apart first refused = record {
  at = place_next A B s p q apart first (subst (λ t. IsPlace (B (take p s)) t q) (rest_of s p) refused.at);
  no_text = λ row. refused.no_text (second_text A B s p apart first (length s - p) (subst (Next A B) (sym (take-append-drop p s) ∙ cut) row));
} where
  cut : take p s ++ drop p s ≡ take p s ++ take (length s - p) (drop p s)
  cut = subst (λ t. take p s ++ drop p s ≡ take p s ++ t) (sym (rest_of s p)) refl

-- A text of A that was read, and a text of B to the end, are a text of the row.
pub row_text : (A B : Language) (s : List ℕ) (p : ℕ) → Reads A s (Ok p) → B (take (length s - p) (drop p s)) → Then A B s
unfolding Then Next
row_text A B s p first second = next_text A (λ _. B) s p first second

-- A text of A that was read, and then what is no text of B, are refused in the row.
pub refused_row : (A B : Language) (s : List ℕ) (p q : ℕ) → Apart A B → Reads A s (Ok p) → Refused B (take (length s - p) (drop p s)) q → Refused (Then A B) s (p + q)
unfolding Then Next Apart NextApart
refused_row A B s p q apart first refused = refused_next A (λ _. B) s p q apart first refused
