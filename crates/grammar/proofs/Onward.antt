-- Going forward along the bytes with a cursor: what reading the rest gives, reading all gives.
use Rattle.std.proofs.Common.{◌≡◌, ◌≢◌, ℕ, suc, ◌+◌, ◌-◌, ◌<◌, ◌≤◌, List, [], ◌++◌, length, take, drop, refl, sym, ◌∙◌, ap, subst, arith, append_assoc, append-nil, length-drop, add_assoc, zero-add, add-zero, add-one, take-add, Result, Ok, Err}
use Rattle.std.proofs.lemmas.List.{drop-drop}
use Rattle.grammar.specs.Language.{Language, Begins, Reads, Nothing, Then, Next, Times, Many}
use Rattle.grammar.specs.Reading.{shift}
use Rattle.grammar.proofs.Places.{rest_of, reads_rest, read_within, read_some}
use Rattle.grammar.proofs.Rows.{Apart, NextApart, then_read, next_read, next_broken}
use Rattle.grammar.proofs.Choices.{reads_same, reads_nothing}
use Rattle.grammar.proofs.Repeats.{many_more, many_stuck, many_end, times_more}

-- reading what is left after `at` bytes as M is reading all as L
pub record Onward (L M : Language) (s : List ℕ) (at : ℕ) : Type 0 where
  pub within : at ≤ length s
  pub goes : (r : Result ℕ ℕ) → Reads M (drop at s) r → Reads L s (shift at r)

shift_zero : (r : Result ℕ ℕ) → shift 0 r ≡ r
shift_zero (Ok n) = ap Ok (zero-add n)
shift_zero (Err n) = ap Err (zero-add n)

shift_twice : (m n : ℕ) (r : Result ℕ ℕ) → shift m (shift n r) ≡ shift (m + n) r
shift_twice m n (Ok k) = ap Ok (sym (add_assoc m n k))
shift_twice m n (Err k) = ap Err (sym (add_assoc m n k))

-- At the start all is left.
pub onward_start : (L : Language) (s : List ℕ) → Onward L L s 0
onward_start L s = record {
  within = omega arith;
  goes = λ r reads. subst (Reads L s) (sym (shift_zero r)) reads;
}

-- What is left may be named by any language of the same texts.
pub onward_same : (L A B : Language) (s : List ℕ) (at : ℕ) → ((t : List ℕ) → A t → B t) → ((t : List ℕ) → B t → A t) → Onward L A s at → Onward L B s at
onward_same L A B s at to back onward = record {
  within = onward.within;
  goes = λ r reads. onward.goes r (reads_same B A (drop at s) r back to reads);
}

-- k bytes are read as a text of B, and what is left of A is C
after_read : (L A B : Language) (s : List ℕ) (at k : ℕ) (r : Result ℕ ℕ) → Onward L A s at → Reads B (take (length s - at) (drop at s)) r → r ≡ Ok k → (C : Language) → ((q : Result ℕ ℕ) → Reads C (drop k (drop at s)) q → Reads A (drop at s) (shift k q)) → Onward L C s (at + k)
after_read L A B s at k r onward reads is C both = record {
  within = omega (arith, onward.within, read_within B (drop at s) k (Ok k) (reads_rest B s at r (Ok k) reads is) refl, length-drop at s);
  goes = λ q rest. subst (Reads L s) (shift_twice at k q) (onward.goes (shift k q) (both q (subst (λ t. Reads C t q) (sym (drop-drop k at s)) rest)));
}

-- different parts one after another

-- A part is read: what it asks for is left.
pub onward_next : (L A : Language) (B : List ℕ → Language) (s : List ℕ) (at k : ℕ) (r : Result ℕ ℕ) → Onward L (Next A B) s at → NextApart A B → Reads A (take (length s - at) (drop at s)) r → r ≡ Ok k → Onward L (B (take k (drop at s))) s (at + k)
onward_next L A B s at k r onward apart reads is = after_read L (Next A B) A s at k r onward reads is (B (take k (drop at s)))
    (λ q rest. next_read A B (drop at s) k q apart (reads_rest A s at r (Ok k) reads is) rest)

-- A part is refused, and with it all.
pub onward_next_broken : (L A : Language) (B : List ℕ → Language) (s : List ℕ) (at p : ℕ) (r : Result ℕ ℕ) → Onward L (Next A B) s at → NextApart A B → ((a : List ℕ) → A a → Begins (B a) []) → Reads A (take (length s - at) (drop at s)) r → r ≡ Err p → Reads L s (Err (at + p))
onward_next_broken L A B s at p r onward apart some reads is = onward.goes (Err p) (next_broken A B (drop at s) p apart some (reads_rest A s at r (Err p) reads is))

-- A part that does not depend on those before is read: the others are left.
pub onward_then : (L A B : Language) (s : List ℕ) (at k : ℕ) (r : Result ℕ ℕ) → Onward L (Then A B) s at → Apart A B → Reads A (take (length s - at) (drop at s)) r → r ≡ Ok k → Onward L B s (at + k)
unfolding Then Next Apart NextApart
onward_then L A B s at k r onward apart reads is = onward_next L A (λ _. B) s at k r onward apart reads is

-- A part that does not depend on those before is refused, and with it all.
pub onward_broken : (L A B : Language) (s : List ℕ) (at p : ℕ) (r : Result ℕ ℕ) → Onward L (Then A B) s at → Apart A B → Begins B [] → Reads A (take (length s - at) (drop at s)) r → r ≡ Err p → Reads L s (Err (at + p))
unfolding Then Next Apart NextApart
onward_broken L A B s at p r onward apart some reads is = onward_next_broken L A (λ _. B) s at p r onward apart (λ a text. some) reads is

-- The first part is read from the start: the others are left.
pub onward_first : (A B : Language) (s : List ℕ) (k : ℕ) (r : Result ℕ ℕ) → Apart A B → Reads A s r → r ≡ Ok k → Onward (Then A B) B s k
onward_first A B s k r apart reads is = record {
  within = read_within A s k r reads is;
  goes = λ q rest. then_read A B s k q apart (subst (Reads A s) is reads) rest;
}

-- The first part is read from the start: what it asks for is left.
pub onward_next_first : (A : Language) (B : List ℕ → Language) (s : List ℕ) (k : ℕ) (r : Result ℕ ℕ) → NextApart A B → Reads A s r → r ≡ Ok k → Onward (Next A B) (B (take k s)) s k
onward_next_first A B s k r apart reads is = record {
  within = read_within A s k r reads is;
  goes = λ q rest. next_read A B s k q apart (subst (Reads A s) is reads) rest;
}

-- The last part's reading is the reading of all.
pub onward_last : (L A : Language) (s : List ℕ) (at : ℕ) (r : Result ℕ ℕ) → Onward L A s at → Reads A (take (length s - at) (drop at s)) r → Reads L s (shift at r)
onward_last L A s at r onward reads = onward.goes r (reads_rest A s at r r reads refl)

-- The same where the answer is given by an equation.
pub onward_answer : (L A : Language) (s : List ℕ) (at : ℕ) (r q : Result ℕ ℕ) → Onward L A s at → Reads A (take (length s - at) (drop at s)) r → q ≡ shift at r → Reads L s q
onward_answer L A s at r q onward reads is = subst (Reads L s) (sym is) (onward_last L A s at r onward reads)

-- Nothing is left.
pub onward_done : (L : Language) (s : List ℕ) (at : ℕ) → Onward L Nothing s at → Reads L s (Ok at)
onward_done L s at onward = subst (λ n. Reads L s (Ok n)) (add-zero at) (onward.goes (Ok 0) (reads_nothing (drop at s)))

-- Nothing more is left after the last part.
pub onward_alone : (L A : Language) (s : List ℕ) (at : ℕ) → Onward L A s at → Onward L (Then A Nothing) s at
unfolding Then Nothing
onward_alone L A s at onward = onward_same L A (Then A Nothing) s at
    (λ t text. (t, [], sym (append-nil t), text, refl))
    (λ t row. subst A (sym (row.2 ∙ ap (λ b. row.0 ++ b) row.4 ∙ append-nil row.0)) row.3) onward

-- A row of rows is gone along part by part.
pub onward_parts : (L A B C : Language) (s : List ℕ) (at : ℕ) → Onward L (Then (Then A B) C) s at → Onward L (Then A (Then B C)) s at
unfolding Then
onward_parts L A B C s at onward = onward_same L (Then (Then A B) C) (Then A (Then B C)) s at to back onward where
  to : (t : List ℕ) → Then (Then A B) C t → Then A (Then B C) t
  to t (x, c, e, (a, b, split, left, middle), right) = (a, b ++ c, e ∙ ap (λ w. w ++ c) split ∙ append_assoc a b c, left, (b, c, refl, middle, right))

  back : (t : List ℕ) → Then A (Then B C) t → Then (Then A B) C t
  back t (a, x, e, left, (b, c, split, middle, right)) = (a ++ b, c, e ∙ ap (λ w. a ++ w) split ∙ sym (append_assoc a b c), (a, b, refl, left, middle), right)

-- so many texts, and then what follows them

-- Of one more, one is left and then the others.
pub onward_times : (L A B : Language) (s : List ℕ) (at n : ℕ) → Onward L (Then (Times A (suc n)) B) s at → Onward L (Then A (Then (Times A n) B)) s at
unfolding Times
onward_times L A B s at n onward = onward_parts L A (Times A n) B s at onward

-- One of n is read: n - 1 are left.
pub onward_counted : (L A B : Language) (s : List ℕ) (at k n : ℕ) (r : Result ℕ ℕ) → Onward L (Then (Times A n) B) s at → 0 < n → Apart A (Then (Times A (n - 1)) B) → Reads A (take (length s - at) (drop at s)) r → r ≡ Ok k → Onward L (Then (Times A (n - 1)) B) s (at + k)
onward_counted L A B s at k n r onward some apart reads is =
    let more : n ≡ suc (n - 1) = omega arith in
    onward_then L A (Then (Times A (n - 1)) B) s at k r (onward_times L A B s at (n - 1) (subst (λ m. Onward L (Then (Times A m) B) s at) more onward)) apart reads is

-- One of n is refused, and with it all.
pub onward_counted_broken : (L A B : Language) (s : List ℕ) (at p n : ℕ) (r : Result ℕ ℕ) → Onward L (Then (Times A n) B) s at → 0 < n → Apart A (Then (Times A (n - 1)) B) → Begins (Then (Times A (n - 1)) B) [] → Reads A (take (length s - at) (drop at s)) r → r ≡ Err p → Reads L s (Err (at + p))
onward_counted_broken L A B s at p n r onward some apart begins reads is =
    let more : n ≡ suc (n - 1) = omega arith in
    onward_broken L A (Then (Times A (n - 1)) B) s at p r (onward_times L A B s at (n - 1) (subst (λ m. Onward L (Then (Times A m) B) s at) more onward)) apart begins reads is

-- Of none, what follows is left.
pub onward_none : (L A B : Language) (s : List ℕ) (at : ℕ) → Onward L (Then (Times A 0) B) s at → Onward L B s at
unfolding Times Then Nothing
onward_none L A B s at onward = onward_same L (Then (Times A 0) B) B s at
    (λ t row. subst B (sym (row.2 ∙ ap (λ a. a ++ row.1) row.3)) row.4)
    (λ t text. ([], t, refl, refl, text)) onward

-- texts of one language, however many

-- One more is read.
pub onward_more : (A L : Language) (s : List ℕ) (at k : ℕ) (r : Result ℕ ℕ) → Apart A (Many A) → ¬ A [] → Onward L (Many A) s at → Reads A (take (length s - at) (drop at s)) r → r ≡ Ok k → Onward L (Many A) s (at + k)
onward_more A L s at k r apart no_empty onward reads is = after_read L (Many A) A s at k r onward reads is (Many A)
    (λ q rest. many_more A (drop at s) k q apart (read_some A _ k r no_empty reads is) (reads_rest A s at r (Ok k) reads is) rest)

-- No further one is begun.
pub onward_end : (A L : Language) (s : List ℕ) (at : ℕ) (r : Result ℕ ℕ) → Apart A (Many A) → Onward L (Many A) s at → Reads A (take (length s - at) (drop at s)) r → r ≡ Err 0 → Reads L s (Ok at)
onward_end A L s at r apart onward reads is =
    subst (λ n. Reads L s (Ok n)) (add-zero at) (onward.goes (Ok 0) (many_end A (drop at s) apart (reads_rest A s at r (Err 0) reads is)))

-- A further one is begun and broken off.
pub onward_stuck : (A L : Language) (s : List ℕ) (at p : ℕ) (r : Result ℕ ℕ) → Apart A (Many A) → Onward L (Many A) s at → Reads A (take (length s - at) (drop at s)) r → r ≡ Err p → p ≢ 0 → Reads L s (Err (at + p))
onward_stuck A L s at p r apart onward reads is some =
    onward.goes (Err p) (many_stuck A (drop at s) p apart (omega arith) (reads_rest A s at r (Err p) reads is))

-- What is read is some of what is left, so that the loop ends.
pub read_step : (L : Language) (s : List ℕ) (at k : ℕ) → ¬ L [] → Reads L (take (length s - at) (drop at s)) (Ok k) → (0 < k) × (k ≤ length s - at)
read_step L s at k no_empty reads =
    (read_some L _ k _ no_empty reads refl, omega (arith, read_within L _ k (Ok k) reads refl, length-drop at s, ap length (rest_of s at)))

-- The bytes passed are one text more.
pub times_next : (L : Language) (s : List ℕ) (at k n : ℕ) → Times L n (take at s) → Reads L (take (length s - at) (drop at s)) (Ok k) → Times L (n + 1) (take (at + k) s)
times_next L s at k n before reads =
    let next : Reads L (drop at s) (Ok k) = reads_rest L s at (Ok k) (Ok k) reads refl in
    subst (λ m. Times L m (take (at + k) s)) (sym (add-one n)) (subst (Times L (suc n)) (sym (take-add at k s)) (times_more L n (take at s) (take k (drop at s)) before next.text))
