-- Texts of one language one after another.
use Rattle.std.proofs.Common.{◌≡◌, ℕ, zero, suc, ◌+◌, ◌<◌, ◌≤◌, inl, inr, List, [], ◌∷◌, ◌++◌, length, take, drop, refl, sym, ◌∙◌, ap, subst, arith, append_assoc, append-nil, length-append, Result, Ok, Err}
use Rattle.std.proofs.lemmas.List.{length-take-le}
use Rattle.grammar.specs.Language.{Language, Begins, IsPlace, Reads, Nothing, Then, Or, Times, Many}
use Rattle.grammar.specs.Reading.{shift}
use Rattle.grammar.proofs.Empty.{begins_then}
use Rattle.grammar.proofs.Rows.{Apart, then_read, then_broken}
use Rattle.grammar.proofs.Choices.{place_or, whole_or, broken_or, reads_same, nothing_place}

-- Texts one after another are one and then others, or nothing.
pub many_split : (L : Language) (t : List ℕ) → Many L t → Or (Then L (Many L)) Nothing t
unfolding Many Times Or Then Nothing
many_split L t (zero, none) = inr none
many_split L t (suc n, (a, b, split, one, others)) = inl (a, b, split, one, (n, others))

-- One text and then others, or nothing, are texts one after another.
pub many_join : (L : Language) (t : List ℕ) → Or (Then L (Many L)) Nothing t → Many L t
unfolding Many Times Or Then Nothing
many_join L t (inr none) = (0, none)
many_join L t (inl (a, b, split, one, (n, others))) = (suc n, (a, b, split, one, others))

-- So many texts one after another are texts one after another.
pub many_of : (L : Language) (n : ℕ) (t : List ℕ) → Times L n t → Many L t
unfolding Many
many_of L n t text = (n, text)

-- No text at all is a row of none.
pub times_none : (L : Language) → Times L 0 []
unfolding Times Nothing
times_none L = refl

-- One more text at the end is a row of one more.
pub times_more : (L : Language) (n : ℕ) (a b : List ℕ) → Times L n a → L b → Times L (suc n) (a ++ b)
unfolding Times Then Nothing
times_more L zero a b none text = (b, [], ap (λ t. t ++ b) none ∙ sym (append-nil b), text, refl)
times_more L (suc n) a b (x, y, e, first, others) text =
    (x, y ++ b, ap (λ t. t ++ b) e ∙ append_assoc x y b, first, times_more L n y b others text)

-- What is apart from itself is apart from its repetition.
pub apart_many : (L : Language) → Apart L L → ¬ L [] → Apart L (Many L)
unfolding Apart Many Times Then Nothing
apart_many L apart no_empty x c y text (zero, none) begins = cc
apart_many L apart no_empty x c y text (suc n, ([], b, split, one, others)) begins = no_empty one
apart_many L apart no_empty x c y text (suc n, (d ∷ a, b, split, one, others)) begins =
    let head : c ≡ d = cc in
    apart x d a text one (subst (λ e. Begins L (x ++ e ∷ [])) head begins)

-- The empty front begins a repetition.
pub begins_many : (L : Language) → Begins (Many L) []
unfolding Begins Many Times Nothing
begins_many L = ([], (0, refl))

-- The empty front begins so many texts where it begins one.
pub begins_times : (L : Language) (n : ℕ) → Begins L [] → Begins (Times L n) []
unfolding Begins Times Nothing
begins_times L zero some = ([], refl)
begins_times L (suc n) some = begins_then L (Times L n) some (begins_times L n some)

-- One more text at the front goes before what is read after it.
pub many_more : (L : Language) (s : List ℕ) (p : ℕ) (r : Result ℕ ℕ) → Apart L (Many L) → 0 < p → Reads L s (Ok p) → Reads (Many L) (drop p s) r → Reads (Many L) s (shift p r)
many_more L s p r apart some first rest =
    reads_same (Or (Then L (Many L)) Nothing) (Many L) s (shift p r) (many_join L) (many_split L) (with_nothing r (then_read L (Many L) s p r apart first rest)) where
      with_nothing : (r : Result ℕ ℕ) → Reads (Then L (Many L)) s (shift p r) → Reads (Or (Then L (Many L)) Nothing) s (shift p r)
      with_nothing (Ok q) row = whole_or _ _ s (p + q) 0 row (nothing_place s) (omega arith)
      with_nothing (Err q) row = broken_or _ _ s (p + q) 0 row (nothing_place s) (omega arith)

-- A text that is begun and broken off is broken off in the repetition.
pub many_stuck : (L : Language) (s : List ℕ) (p : ℕ) → Apart L (Many L) → 0 < p → Reads L s (Err p) → Reads (Many L) s (Err p)
many_stuck L s p apart some first =
    reads_same (Or (Then L (Many L)) Nothing) (Many L) s (Err p) (many_join L) (many_split L)
    (broken_or (Then L (Many L)) Nothing s p 0 (then_broken L (Many L) s p apart (begins_many L) first) (nothing_place s) some)

-- Where no further text is begun the repetition ends.
pub many_end : (L : Language) (s : List ℕ) → Apart L (Many L) → Reads L s (Err 0) → Reads (Many L) s (Ok 0)
unfolding Or Nothing
many_end L s apart first =
    reads_same (Or (Then L (Many L)) Nothing) (Many L) s (Ok 0) (many_join L) (many_split L) (record {
      place = place_or (Then L (Many L)) Nothing s 0 0 (then_broken L (Many L) s 0 apart (begins_many L) first).place (nothing_place s);
      text = inr refl;
    })

one_of : (L : Language) (t : List ℕ) → 0 < length t → Many L t → Then L (Many L) t
unfolding Or Nothing
one_of L t long many = elim (many_split L t many) [ inl row ↦ row | inr none ↦ absurd (omega (arith, ap length none)) ]

some_place : (L : Language) (s : List ℕ) (p : ℕ) → 0 < p → IsPlace (Many L) s p → IsPlace (Then L (Many L)) s p
unfolding Begins Or
some_place L s p some many = record {
  within = many.within;
  begins = (many.begins.0, one_of L _ (omega (arith, length-append (take p s) many.begins.0, length-take-le p s many.within)) many.begins.1);
  ends = λ n more fits begins. many.ends n more fits (begins.0, many_join L _ (inl begins.1));
}

-- A repetition that is read and not empty is at least one text.
pub some_whole : (L : Language) (s : List ℕ) (p : ℕ) → 0 < p → Reads (Many L) s (Ok p) → Reads (Then L (Many L)) s (Ok p)
some_whole L s p some many = record { place = some_place L s p some many.place; text = one_of L _ (omega (arith, length-take-le p s many.place.within)) many.text }

-- A repetition that is broken off is broken off as at least one text.
pub some_stuck : (L : Language) (s : List ℕ) (p : ℕ) → 0 < p → Reads (Many L) s (Err p) → Reads (Then L (Many L)) s (Err p)
unfolding Or
some_stuck L s p some many = record { place = some_place L s p some many.place; text = λ row. many.text (many_join L _ (inl row)) }

-- Where a repetition is empty, at least one text is refused at once.
pub some_broken : (L : Language) (s : List ℕ) → ¬ L [] → Begins L [] → Reads (Many L) s (Ok 0) → Reads (Then L (Many L)) s (Err 0)
unfolding Begins Or Nothing Then
some_broken L s no_empty some many = record {
  place = record {
    within = many.place.within;
    begins = (some.0, (some.0, [], sym (append-nil some.0), some.1, many_join L [] (inr refl)));
    ends = λ n more fits begins. many.place.ends n more fits (begins.0, many_join L _ (inl begins.1));
  };
  text = λ row. no_empty (subst L (first_empty row.0 row.1 row.2) row.3);
} where
  first_empty : (a b : List ℕ) → [] ≡ a ++ b → a ≡ []
  first_empty [] b e = refl
  first_empty (c ∷ a) b e = cc

-- Where the first byte begins no text the repetition is empty.
pub many_none : (L : Language) (s : List ℕ) → ¬ L [] → ((c : ℕ) (more : List ℕ) → s ≡ c ∷ more → ¬ Begins L (c ∷ [])) → Reads (Many L) s (Ok 0)
unfolding Begins Or Nothing Then
many_none L s no_empty no_start = record {
  place = record {
    within = omega arith;
    begins = ([], many_join L [] (inr refl));
    ends = λ n more fits begins. no_more s n more fits no_start begins;
  };
  text = many_join L [] (inr refl);
} where
  no_row : (c : ℕ) (t a b : List ℕ) → c ∷ t ≡ a ++ b → L a → ¬ Begins L (c ∷ []) → ⊥
  no_row c t [] b e text none = no_empty text
  no_row c t (d ∷ a) b e text none = none (a, let head : d ≡ c = cc in subst (λ x. L (x ∷ a)) head text)

  no_text : (c : ℕ) (t : List ℕ) → ¬ Begins L (c ∷ []) → Many L (c ∷ t) → ⊥
  no_text c t none many = elim (many_split L (c ∷ t) many) [ inl row ↦ no_row c t row.0 row.1 row.2 row.3 none | inr e ↦ cc e ]

  no_more : (s : List ℕ) (n : ℕ) → 0 < n → n ≤ length s → ((c : ℕ) (more : List ℕ) → s ≡ c ∷ more → ¬ Begins L (c ∷ [])) → ¬ Begins (Many L) (take n s)
  no_more s zero more fits no_start begins = absurd (omega arith)
  no_more [] (suc n) more fits no_start begins = absurd (omega arith)
  no_more (c ∷ s) (suc n) more fits no_start begins = no_text c (take n s ++ begins.0) (no_start c s refl) begins.1
