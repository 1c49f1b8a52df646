-- Texts in a row: a first one, and after it a second, which may depend on the first.
use Rattle.std.proofs.Common.{◌≡◌, ℕ, ◌+◌, ◌-◌, ◌≤◌, List, [], ◌∷◌, ◌++◌, length, take, drop, refl, sym, ◌∙◌, ap, subst, arith, append_assoc, append-nil, length-append, take-add, Result, Ok, Err}
use Rattle.std.proofs.lemmas.List.{take-append-drop, length-take-le}
use Rattle.grammar.specs.Language.{Language, Begins, IsPlace, Reads, Then, Next}
use Rattle.grammar.specs.Reading.{shift}
use Rattle.grammar.proofs.Cuts.{cuts}
use Rattle.grammar.proofs.Cuts.Cuts.{same, later, earlier}
use Rattle.grammar.proofs.Places.{Stops, begins_less, begins_front, reads_rest, place_of, stops_of_place, broken_of}

-- what begins a text after a text of A doesn't lengthen that text
unfoldable pub NextApart : Language → (List ℕ → Language) → Type 0
NextApart A B = (x : List ℕ) (c : ℕ) (y : List ℕ) → A x → B x (c ∷ y) → ¬ Begins A (x ++ c ∷ [])

-- what begins a text of B lengthens no text of A
unfoldable pub Apart : Language → Language → Type 0
Apart A B = (x : List ℕ) (c : ℕ) (y : List ℕ) → A x → B (c ∷ y) → ¬ Begins A (x ++ c ∷ [])

-- Where a text of A can't go on as t does, a row that begins as f and ends as t has f for its first text.
pub second_of_row : (A : Language) (B : List ℕ → Language) (f t : List ℕ) → NextApart A B → Begins A f → ((c : ℕ) (m : List ℕ) → t ≡ c ∷ m → ¬ Begins A (f ++ c ∷ [])) → Next A B (f ++ t) → A f × B f t
unfolding Next NextApart
second_of_row A B f t apart begins turns (x, y, split, left, right) =
    elim (cuts f t x y split) [
      | same p e ↦ (subst A (sym p) left, subst (λ w. B w t) (sym p) (subst (B x) (sym e) right))
      | later c m p e ↦ absurd (turns c (m ++ y) e (begins_front A (f ++ c ∷ []) m (subst A (p ∙ sym (append_assoc f (c ∷ []) m)) left)))
      | earlier c m p e ↦ absurd (apart x c (m ++ t) left (subst (B x) e right) (begins_less A (x ++ c ∷ []) m (subst (Begins A) (p ∙ sym (append_assoc x (c ∷ []) m)) begins)))
    ]

-- the head of a list stays, however the list goes on after b
head_stays : (g rest more : List ℕ) (b c : ℕ) (m : List ℕ) → g ++ b ∷ rest ≡ c ∷ m → (n : List ℕ) × (g ++ b ∷ more ≡ c ∷ n)
head_stays [] rest more b c m e = (more, cc)
head_stays (d ∷ g) rest more b c m e = (g ++ b ∷ more, cc)

turns_at : (A : Language) (f g q : List ℕ) → Stops A f (g ++ q) → (b : ℕ) (more rest : List ℕ) → q ≡ b ∷ more → (c : ℕ) (m : List ℕ) → g ++ b ∷ rest ≡ c ∷ m → ¬ Begins A (f ++ c ∷ [])
turns_at A f g q stops b more rest is c m e =
    let (n, there) = head_stays g rest more b c m e in
    stops.ends c n (ap (λ r. g ++ r) is ∙ there)

-- where the bytes stop in a row whose first text is whole
whole_stops : (A : Language) (B : List ℕ → Language) (f g q : List ℕ) → NextApart A B → A f → Stops A f (g ++ q) → Stops (B f) g q → Stops (Next A B) (f ++ g) q
unfolding Begins Next
whole_stops A B f g q apart text first second = record {
  begins = (second.begins.0, (f, g ++ second.begins.0, append_assoc f g _, text, second.begins.1));
  ends = λ b more is begins.
      let again : Next A B (f ++ (g ++ b ∷ begins.0)) = subst (Next A B) (regrouped b begins.0) begins.1 in
      let second_text = second_of_row A B f (g ++ b ∷ begins.0) apart first.begins (turns_at A f g q first b more begins.0 is) again in
      second.ends b more is (begins.0, subst (B f) (sym (append_assoc g (b ∷ []) begins.0)) second_text.1);
} where
  regrouped : (b : ℕ) (rest : List ℕ) → ((f ++ g) ++ b ∷ []) ++ rest ≡ f ++ (g ++ b ∷ rest)
  regrouped b rest = simp append_assoc

-- where the bytes stop in a row whose first text is broken off
stuck_stops : (A : Language) (B : List ℕ → Language) (f r : List ℕ) → NextApart A B → ((a : List ℕ) → A a → Begins (B a) []) → ¬ A f → Stops A f r → Stops (Next A B) f r
unfolding Begins Next
stuck_stops A B f r apart some no_text first =
    let (b, tail) = some (f ++ first.begins.0) first.begins.1 in
    record {
      begins = (first.begins.0 ++ b, (f ++ first.begins.0, b, sym (append_assoc f first.begins.0 b), first.begins.1, tail));
      ends = λ c more is begins.
          let again : Next A B (f ++ (c ∷ begins.0)) = subst (Next A B) (append_assoc f (c ∷ []) begins.0) begins.1 in
          no_text (second_of_row A B f (c ∷ begins.0) apart first.begins (λ d m e. first.ends d more (is ∙ (let same_head : c ≡ d = cc in cc))) again).0;
    }

two_cuts : (s : List ℕ) (p q : ℕ) → s ≡ (take p s ++ take q (drop p s)) ++ drop q (drop p s)
two_cuts s p q = sym (append_assoc (take p s) (take q (drop p s)) (drop q (drop p s)) ∙ ap (λ r. take p s ++ r) (take-append-drop q (drop p s)) ∙ take-append-drop p s)

two_sizes : (s : List ℕ) (p q : ℕ) → p ≤ length s → q ≤ length (drop p s) → p + q ≡ length (take p s ++ take q (drop p s))
two_sizes s p q fits more = omega (arith, length-append (take p s) (take q (drop p s)), length-take-le p s fits, length-take-le q (drop p s) more)

first_stops : (A : Language) (s : List ℕ) (p q : ℕ) → IsPlace A s p → Stops A (take p s) (take q (drop p s) ++ drop q (drop p s))
first_stops A s p q place = subst (λ r. Stops A (take p s) r) (sym (take-append-drop q (drop p s))) (stops_of_place A s p place)

-- What follows a text of A that was read, and is a text of the row, is a text of the second part.
pub second_text : (A : Language) (B : List ℕ → Language) (s : List ℕ) (p : ℕ) → NextApart A B → Reads A s (Ok p) → (n : ℕ) → Next A B (take p s ++ take n (drop p s)) → B (take p s) (take n (drop p s))
second_text A B s p apart first n row =
    (second_of_row A B (take p s) (take n (drop p s)) apart first.place.begins
    (λ c m e. (first_stops A s p n first.place).ends c (m ++ drop n (drop p s)) (ap (λ t. t ++ drop n (drop p s)) e)) row).1

-- The place in a row is the place in its second text.
pub place_next : (A : Language) (B : List ℕ → Language) (s : List ℕ) (p q : ℕ) → NextApart A B → Reads A s (Ok p) → IsPlace (B (take p s)) (drop p s) q → IsPlace (Next A B) s (p + q)
place_next A B s p q apart first second =
    place_of (Next A B) s (take p s ++ take q (drop p s)) (drop q (drop p s)) (p + q) (two_cuts s p q) (two_sizes s p q first.place.within second.within)
    (whole_stops A B (take p s) (take q (drop p s)) (drop q (drop p s)) apart first.text (first_stops A s p q first.place) (stops_of_place (B (take p s)) (drop p s) q second))

-- A text of A, and after it a reading of what that text asks for, is a reading of the row.
pub next_read : (A : Language) (B : List ℕ → Language) (s : List ℕ) (p : ℕ) (r : Result ℕ ℕ) → NextApart A B → Reads A s (Ok p) → Reads (B (take p s)) (drop p s) r → Reads (Next A B) s (shift p r)
unfolding Next
next_read A B s p (Ok q) apart first second = record {
  place = place_next A B s p q apart first second.place;
  text = (take p s, take q (drop p s), take-add p q s, first.text, second.text);
}
next_read A B s p (Err q) apart first second = record {
  place = place_next A B s p q apart first second.place;
  text = λ row. second.text (second_text A B s p apart first q (subst (Next A B) (take-add p q s) row));
}

-- A row whose first text is broken off is broken off there.
pub next_broken : (A : Language) (B : List ℕ → Language) (s : List ℕ) (p : ℕ) → NextApart A B → ((a : List ℕ) → A a → Begins (B a) []) → Reads A s (Err p) → Reads (Next A B) s (Err p)
next_broken A B s p apart some first =
    broken_of (Next A B) s (take p s) (drop p s) p (sym (take-append-drop p s)) (sym (length-take-le p s first.place.within))
    (stuck_stops A B (take p s) (drop p s) apart some first.text (stops_of_place A s p first.place))
    (λ row. first.text (second_of_row A B (take p s) [] apart first.place.begins (λ c m e. absurd (cc)) (subst (Next A B) (sym (append-nil (take p s))) row)).0)

-- the same for a second text that doesn't depend on the first

-- A text of A, and after it a reading of B, is a reading of the row.
pub then_read : (A B : Language) (s : List ℕ) (p : ℕ) (r : Result ℕ ℕ) → Apart A B → Reads A s (Ok p) → Reads B (drop p s) r → Reads (Then A B) s (shift p r)
unfolding Then Next Apart NextApart
then_read A B s p r apart first second = next_read A (λ _. B) s p r apart first second

-- A row of A and B whose first text is broken off is broken off there.
pub then_broken : (A B : Language) (s : List ℕ) (p : ℕ) → Apart A B → Begins B [] → Reads A s (Err p) → Reads (Then A B) s (Err p)
unfolding Then Next Apart NextApart
then_broken A B s p apart some first = next_broken A (λ _. B) s p apart (λ a text. some) first

-- The place in a row of A and B is the place in its second text.
pub place_then : (A B : Language) (s : List ℕ) (p q : ℕ) → Apart A B → Reads A s (Ok p) → IsPlace B (drop p s) q → IsPlace (Then A B) s (p + q)
unfolding Then Next Apart NextApart
place_then A B s p q apart first second = place_next A (λ _. B) s p q apart first second

-- A reading of A and then one of `&s[p..]` as B, as contracts have them, is a reading of the row.
pub reads_then : (A B : Language) (s : List ℕ) (p : ℕ) (first second whole : Result ℕ ℕ) → Apart A B → Reads A s first → first ≡ Ok p → Reads B (take (length s - p) (drop p s)) second → whole ≡ shift p second → Reads (Then A B) s whole
reads_then A B s p first second whole apart one one_is other whole_is =
    subst (Reads (Then A B) s) (sym whole_is) (then_read A B s p second apart (subst (Reads A s) one_is one) (reads_rest B s p second second other refl))

-- What is broken off in A is broken off in the row.
pub reads_stuck : (A B : Language) (s : List ℕ) (p : ℕ) (first : Result ℕ ℕ) → Apart A B → Begins B [] → first ≡ Err p → Reads A s first → Reads (Then A B) s first
reads_stuck A B s p first apart some is one =
    subst (Reads (Then A B) s) (sym is) (then_broken A B s p apart some (subst (Reads A s) is one))

-- The same for a second text that depends on the first.
pub reads_next : (A : Language) (B : List ℕ → Language) (s : List ℕ) (p : ℕ) (first second whole : Result ℕ ℕ) → NextApart A B → Reads A s first → first ≡ Ok p → Reads (B (take p s)) (take (length s - p) (drop p s)) second → whole ≡ shift p second → Reads (Next A B) s whole
reads_next A B s p first second whole apart one one_is other whole_is =
    subst (Reads (Next A B) s) (sym whole_is) (next_read A B s p second apart (subst (Reads A s) one_is one) (reads_rest (B (take p s)) s p second second other refl))

-- What is broken off in A is broken off in the row, whatever a text of A asks for.
pub next_stuck : (A : Language) (B : List ℕ → Language) (s : List ℕ) (p : ℕ) (first : Result ℕ ℕ) → NextApart A B → ((a : List ℕ) → A a → Begins (B a) []) → first ≡ Err p → Reads A s first → Reads (Next A B) s first
next_stuck A B s p first apart some is one =
    subst (Reads (Next A B) s) (sym is) (next_broken A B s p apart some (subst (Reads A s) is one))
