-- The longest prefix that is a text.
use Rattle.std.proofs.Common.{◌≡◌, ℕ, zero, suc, ◌+◌, ◌-◌, ◌<◌, ◌≤◌, inl, inr, List, [], ◌∷◌, ◌++◌, length, take, drop, get_or, refl, sym, ◌∙◌, ap, subst, arith, append_assoc, length-append, length-drop, take-add, zero-add, add-zero, add_assoc, Ok, Err, Result}
use Rattle.std.proofs.Math.Seq.{take-append_seam}
use Rattle.std.proofs.Math.Nat.{eq-or-lt_of_le}
use Rattle.std.proofs.lemmas.Bool.{cases_lt}
use Rattle.std.proofs.lemmas.List.{take-append-drop, length-take-le, take-take, take_more, drop-drop}
use Rattle.grammar.specs.Language.{Language, Begins, IsPlace, Reads, Nothing, Then, Next, Or, Many, HasNone, Longest, Skips}
use Rattle.grammar.proofs.Cuts.{cuts}
use Rattle.grammar.proofs.Cuts.Cuts.{same, later, earlier}
use Rattle.grammar.proofs.Places.{begins_text, begins_front, begins_less, reads_rest}
use Rattle.grammar.proofs.Rows.{Apart, NextApart, second_text}
use Rattle.grammar.proofs.Choices.{place_or}
use Rattle.grammar.proofs.Repeats.{many_join, many_split}
use Rattle.grammar.proofs.Sets.{Lengthens}

-- What is read is the longest prefix that is a text.
pub longest_whole : (L : Language) (s : List ℕ) (n : ℕ) → Reads L s (Ok n) → Longest L s n
longest_whole L s n reads = record {
  within = reads.place.within;
  text = reads.text;
  longer = λ m more fits text. reads.place.ends m more fits (begins_text L (take m s) text);
}

-- where no byte lengthens a text

-- Two divisions of one list after a text are the same.
pub one_front : (L : Language) (a b x y : List ℕ) → Lengthens L (λ _. ⊥) → L a → L b → a ++ x ≡ b ++ y → (a ≡ b) × (x ≡ y)
unfolding Lengthens
one_front L a b x y free left right e = elim (cuts a x b y e) [
  | same p q ↦ (p, q)
  | later c m p q ↦ absurd (free a c left (begins_front L (a ++ c ∷ []) m (subst L (p ∙ sym (append_assoc a (c ∷ []) m)) right)))
  | earlier c m p q ↦ absurd (free b c right (begins_front L (b ++ c ∷ []) m (subst L (p ∙ sym (append_assoc b (c ∷ []) m)) left)))
]

-- Where a text is broken off, no prefix is one.
pub none_broken : (L : Language) (s : List ℕ) (p : ℕ) → Lengthens L (λ _. ⊥) → Reads L s (Err p) → HasNone L s
unfolding Lengthens
none_broken L s p free broken = record {
  none = λ n fits text. elim (cases_lt p n) [
    | inl past ↦ broken.place.ends n past fits (begins_text L (take n s) text)
    | inr before ↦ elim (eq-or-lt_of_le before) [
      | inl is ↦ broken.text (subst (λ m. L (take m s)) is text)
      | inr less ↦ free (take n s) (get_or s n 0) text (begins_less L _ (drop (n + 1) (take p s)) (subst (Begins L) (cut n less) broken.place.begins))
    ]
  ];
} where
  front : (n : ℕ) → n < p → take (n + 1) (take p s) ≡ take n s ++ get_or s n 0 ∷ []
  front n less = take-take (n + 1) p s (omega arith) ∙ take_more s n 0 (omega (arith, broken.place.within))

  cut : (n : ℕ) → n < p → take p s ≡ (take n s ++ get_or s n 0 ∷ []) ++ drop (n + 1) (take p s)
  cut n less = sym (take-append-drop (n + 1) (take p s)) ∙ ap (λ t. t ++ drop (n + 1) (take p s)) (front n less)

-- A reading is what passing over a text answers.
pub skips_free : (L : Language) (s : List ℕ) (r : Result ℕ ℕ) → Lengthens L (λ _. ⊥) → Reads L s r → Skips L s r
skips_free L s (Ok n) free reads = longest_whole L s n reads
skips_free L s (Err p) free reads = record { at = reads.place; no_text = none_broken L s p free reads }

-- rows

-- A front of bytes no prefix of which is a text is no text.
pub none_at_front : (L : Language) (a x : List ℕ) → HasNone L (a ++ x) → ¬ L a
none_at_front L a x none text = none.none (length a) (omega (arith, length-append a x)) (subst L (sym (take-append_seam a x)) text)

-- Without a first text there is no row.
pub none_row : (A B : Language) (s : List ℕ) → HasNone A s → HasNone (Then A B) s
unfolding Then
none_row A B s none = record { none = λ n fits row. first n row.0 row.1 row.2 row.3 } where
  first : (n : ℕ) (x y : List ℕ) → take n s ≡ x ++ y → A x → ⊥
  first n x y e left =
      none_at_front A x (y ++ drop n s) (subst (HasNone A) (sym (take-append-drop n s) ∙ ap (λ t. t ++ drop n s) e ∙ append_assoc x y (drop n s)) none) left

after_first : (A B : Language) (s : List ℕ) (w n : ℕ) → Apart A B → Reads A s (Ok w) → w ≤ n → Then A B (take n s) → B (take (n - w) (drop w s))
unfolding Then Next Apart NextApart
after_first A B s w n apart first past row =
    second_text A (λ _. B) s w apart first (n - w) (subst (Then A B) split row) where
      split : take n s ≡ take w s ++ take (n - w) (drop w s)
      split = let sum : n ≡ w + (n - w) = omega arith in ap (λ m. take m s) sum ∙ take-add w (n - w) s

-- The longest row is the first text that was read and the longest second one.
pub longest_row : (A B : Language) (s : List ℕ) (w k : ℕ) → Apart A B → Reads A s (Ok w) → Longest B (drop w s) k → Longest (Then A B) s (w + k)
unfolding Then
longest_row A B s w k apart first rest = record {
  within = omega (arith, first.place.within, rest.within, length-drop w s);
  text = (take w s, take k (drop w s), take-add w k s, first.text, rest.text);
  longer = λ n more fits row. rest.longer (n - w) (omega arith) (omega (arith, length-drop w s)) (after_first A B s w n apart first (omega arith) row);
}

-- Without a second text after the one that was read there is no row.
pub none_second : (A B : Language) (s : List ℕ) (w : ℕ) → Apart A B → Reads A s (Ok w) → HasNone B (drop w s) → HasNone (Then A B) s
unfolding Then Apart
none_second A B s w apart first none = record {
  none = λ n fits row. elim (cases_lt n w) [
    | inl short ↦ before n short fits row
    | inr past ↦ none.none (n - w) (omega (arith, length-drop w s)) (after_first A B s w n apart first past row)
  ];
} where
  regroup : (x : List ℕ) (c : ℕ) (y z : List ℕ) → (x ++ c ∷ y) ++ z ≡ (x ++ c ∷ []) ++ (y ++ z)
  regroup x c y z = simp append_assoc

  before : (n : ℕ) → n < w → n ≤ length s → Then A B (take n s) → ⊥
  before n short fits (x, [], e, left, right) = none.none 0 (omega arith) right
  before n short fits (x, c ∷ y, e, left, right) = apart x c y left right (begins_less A (x ++ c ∷ []) (y ++ drop n (take w s))
      (subst (Begins A) (sym (take-append-drop n (take w s)) ∙ ap (λ t. t ++ drop n (take w s)) (take-take n w s (omega arith) ∙ e) ∙ regroup x c y (drop n (take w s))) first.place.begins))

-- choices

-- Without a text, the longest of what may be there or not is empty.
pub longest_optional : (L : Language) (s : List ℕ) → HasNone L s → Longest (Or L Nothing) s 0
unfolding Or Nothing
longest_optional L s none = record {
  within = omega arith;
  text = inr refl;
  longer = λ n more fits text. elim text [ inl here ↦ none.none n fits here | inr empty ↦ omega (arith, length-take-le n s fits, ap length empty) ];
}

-- Bytes that leave the language at once have no text at their front.
pub none_other : (L : Language) (s : List ℕ) → IsPlace L s 0 → ¬ L [] → HasNone L s
none_other L s place no_empty = record { none = λ n fits text. by_size n fits text } where
  by_size : (n : ℕ) → n ≤ length s → L (take n s) → ⊥
  by_size zero fits text = no_empty text
  by_size (suc n) fits text = place.ends (suc n) (omega arith) fits (begins_text L (take (suc n) s) text)

-- The longest text of the first is that of the choice where the second has none.
pub longest_or : (A B : Language) (s : List ℕ) (n : ℕ) → HasNone B s → Longest A s n → Longest (Or A B) s n
unfolding Or
longest_or A B s n none longest = record {
  within = longest.within;
  text = inl longest.text;
  longer = λ m more fits text. elim text [ inl here ↦ longest.longer m more fits here | inr here ↦ none.none m fits here ];
}

-- The longest text of the second is that of the choice where the first has none.
pub longest_or_other : (A B : Language) (s : List ℕ) (n : ℕ) → HasNone A s → Longest B s n → Longest (Or A B) s n
unfolding Or
longest_or_other A B s n none longest = record {
  within = longest.within;
  text = inr longest.text;
  longer = λ m more fits text. elim text [ inr here ↦ longest.longer m more fits here | inl here ↦ none.none m fits here ];
}

none_or : (A B : Language) (s : List ℕ) → HasNone A s → HasNone B s → HasNone (Or A B) s
unfolding Or
none_or A B s one other = record { none = λ m fits text. elim text [ inl here ↦ one.none m fits here | inr here ↦ other.none m fits here ] }

-- What passes over a text of the first passes over one of the choice where the second leaves the bytes at once.
pub skips_or : (A B : Language) (s : List ℕ) (r : Result ℕ ℕ) → IsPlace B s 0 → ¬ B [] → Skips A s r → Skips (Or A B) s r
skips_or A B s (Ok n) other no_empty skips = longest_or A B s n (none_other B s other no_empty) skips
skips_or A B s (Err p) other no_empty skips = record {
  at = subst (IsPlace (Or A B) s) (omega arith) (place_or A B s p 0 skips.at other);
  no_text = none_or A B s skips.no_text (none_other B s other no_empty);
}

pub skips_or_other : (A B : Language) (s : List ℕ) (r : Result ℕ ℕ) → IsPlace A s 0 → ¬ A [] → Skips B s r → Skips (Or A B) s r
skips_or_other A B s (Ok n) other no_empty skips = longest_or_other A B s n (none_other A s other no_empty) skips
skips_or_other A B s (Err p) other no_empty skips = record {
  at = subst (IsPlace (Or A B) s) (omega arith) (place_or A B s 0 p other skips.at);
  no_text = none_or A B s (none_other A s other no_empty) skips.no_text;
}

-- texts one after another

-- One more at the front goes before the longest after it.
pub longest_many_more : (L : Language) (s : List ℕ) (k q : ℕ) → Apart L (Many L) → Reads L s (Ok k) → Longest (Many L) (drop k s) q → Longest (Many L) s (k + q)
unfolding Or Nothing
longest_many_more L s k q apart first rest = record {
  within = row.within;
  text = many_join L _ (inl row.text);
  longer = λ n more fits text. elim (many_split L _ text) [ inl here ↦ row.longer n more fits here | inr empty ↦ omega (arith, length-take-le n s fits, ap length empty) ];
} where
  row : Longest (Then L (Many L)) s (k + q)
  row = longest_row L (Many L) s k q apart first rest

-- Where no further one is there the longest is empty.
pub longest_many_end : (L : Language) (s : List ℕ) → HasNone L s → Longest (Many L) s 0
unfolding Or Nothing
longest_many_end L s none = record {
  within = omega arith;
  text = many_join L [] (inr refl);
  longer = λ n more fits text. elim (many_split L _ text) [ inl here ↦ (none_row L (Many L) s none).none n fits here | inr empty ↦ omega (arith, length-take-le n s fits, ap length empty) ];
}

-- the longest of what is left, after `at` bytes, is the longest of all
pub record Further (L : Language) (s : List ℕ) (at : ℕ) : Type 0 where
  pub within : at ≤ length s
  pub goes : (k : ℕ) → Longest L (drop at s) k → Longest L s (at + k)

-- At the start all is left.
pub further_start : (L : Language) (s : List ℕ) → Further L s 0
further_start L s = record { within = omega arith; goes = λ k rest. subst (Longest L s) (sym (zero-add k)) rest }

-- One more is read.
pub further_more : (L : Language) (s : List ℕ) (at k : ℕ) → Apart L (Many L) → Further (Many L) s at → Reads L (take (length s - at) (drop at s)) (Ok k) → Further (Many L) s (at + k)
further_more L s at k apart further reads = record {
  within = omega (arith, further.within, whole.place.within, length-drop at s);
  goes = λ q rest. subst (Longest (Many L) s) (sym (add_assoc at k q)) (further.goes (k + q) (longest_many_more L (drop at s) k q apart whole (subst (λ t. Longest (Many L) t q) (sym (drop-drop k at s)) rest)));
} where
  whole : Reads L (drop at s) (Ok k)
  whole = reads_rest L s at (Ok k) (Ok k) reads refl

-- No further one is there.
pub further_end : (L : Language) (s : List ℕ) (at p : ℕ) → Lengthens L (λ _. ⊥) → Further (Many L) s at → Reads L (take (length s - at) (drop at s)) (Err p) → Longest (Many L) s at
further_end L s at p free further reads = subst (Longest (Many L) s) (add-zero at)
    (further.goes 0 (longest_many_end L (drop at s) (none_broken L (drop at s) p free (reads_rest L s at (Err p) (Err p) reads refl))))
