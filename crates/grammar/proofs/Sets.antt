-- The bytes that come first in the texts of a language, and those that lengthen one.
use Rattle.std.proofs.Common.{◌≡◌, ℕ, zero, suc, ◌<◌, ◌≤◌, ◌⊎◌, inl, inr, Bool, true, List, [], ◌∷◌, ◌++◌, length, take, get_or, sym, ◌∙◌, ap, subst, arith, append_assoc, length-append}
use Rattle.grammar.specs.Language.{Language, Begins, IsPlace, Nothing, Fixed, One, Then, Next, Or, Times, Many}
use Rattle.grammar.proofs.Cuts.{cuts}
use Rattle.grammar.proofs.Cuts.Cuts.{same, later, earlier}
use Rattle.grammar.proofs.Empty.{no_empty_then}
use Rattle.grammar.proofs.Places.{begins_text}
use Rattle.grammar.proofs.Rows.{Apart, NextApart, second_of_row}
use Rattle.grammar.proofs.Repeats.{many_split, many_of}

-- each text that isn't empty begins with such a byte
unfoldable pub Starts : Language → (ℕ → Type 0) → Type 0
Starts L P = (c : ℕ) (y : List ℕ) → L (c ∷ y) → P c

-- where a text and one more byte begin a text, that is such a byte
unfoldable pub Lengthens : Language → (ℕ → Type 0) → Type 0
Lengthens L P = (x : List ℕ) (c : ℕ) → L x → Begins L (x ++ c ∷ []) → P c

-- What lengthens A and what comes first in B have no byte in common.
pub apart_by : (A B : Language) (P Q : ℕ → Type 0) → Lengthens A P → Starts B Q → ((c : ℕ) → P c → Q c → ⊥) → Apart A B
unfolding Apart Lengthens Starts
apart_by A B P Q more first disjoint x c y text next begins = disjoint c (more x c text begins) (first c y next)

-- What no byte lengthens is apart from all that follows.
pub apart_free : (A B : Language) → Lengthens A (λ _. ⊥) → Apart A B
unfolding Apart Lengthens
apart_free A B free x c y text next begins = free x c text begins

-- The same for a second part that depends on the first.
pub next_apart_free : (A : Language) (B : List ℕ → Language) → Lengthens A (λ _. ⊥) → NextApart A B
unfolding NextApart Lengthens
next_apart_free A B free x c y text next begins = free x c text begins

-- What lengthens A and what comes first in each second part have no byte in common.
pub next_apart_by : (A : Language) (B : List ℕ → Language) (P Q : ℕ → Type 0) → Lengthens A P → ((a : List ℕ) → A a → Starts (B a) Q) → ((c : ℕ) → P c → Q c → ⊥) → NextApart A B
unfolding NextApart Lengthens Starts
next_apart_by A B P Q more first disjoint x c y text next begins = disjoint c (more x c text begins) (first x text c y next)

-- which bytes come first

-- More bytes than come first do as well.
pub starts_wider : (L : Language) (P Q : ℕ → Type 0) → ((c : ℕ) → P c → Q c) → Starts L P → Starts L Q
unfolding Starts
starts_wider L P Q more first c y text = more c (first c y text)

-- A fixed text begins with its first byte.
pub starts_fixed : (b : ℕ) (r : List ℕ) → Starts (Fixed (b ∷ r)) (λ c. c ≡ b)
unfolding Starts Fixed
starts_fixed b r c y e = cc

-- A single byte begins with one that passes.
pub starts_one : (test : ℕ → Bool) → Starts (One test) (λ c. test c ≡ true)
unfolding Starts One
starts_one test c y (b, e, passes) = let same_byte : c ≡ b = cc in ap test same_byte ∙ passes

-- The empty text begins with no byte.
pub starts_nothing : (P : ℕ → Type 0) → Starts Nothing P
unfolding Starts Nothing
starts_nothing P c y e = cc

-- Of a choice, the bytes with which both sides begin.
pub starts_or : (A B : Language) (P : ℕ → Type 0) → Starts A P → Starts B P → Starts (Or A B) P
unfolding Starts Or
starts_or A B P one other c y (inl text) = one c y text
starts_or A B P one other c y (inr text) = other c y text

-- Of a choice, the bytes of either side.
pub starts_either : (A B : Language) (P Q : ℕ → Type 0) → Starts A P → Starts B Q → Starts (Or A B) (λ c. P c ⊎ Q c)
starts_either A B P Q one other = starts_or A B (λ c. P c ⊎ Q c) (starts_wider A P _ (λ c h. inl h) one) (starts_wider B Q _ (λ c h. inr h) other)

-- What may be there or not begins as what is there.
pub starts_optional : (L : Language) (P : ℕ → Type 0) → Starts L P → Starts (Or L Nothing) P
starts_optional L P first = starts_or L Nothing P first (starts_nothing P)

-- A row begins as its first text, and where that is empty as its second.
pub starts_row : (A B : Language) (P : ℕ → Type 0) → Starts A P → Starts B P → Starts (Then A B) P
unfolding Starts Then
starts_row A B P one other c y ([], b, e, left, right) = other c y (subst B (sym e) right)
starts_row A B P one other c y (d ∷ a, b, e, left, right) = let same_byte : d ≡ c = cc in subst P same_byte (one d a left)

-- A row whose first text isn't empty begins as that text.
pub starts_next : (A : Language) (B : List ℕ → Language) (P : ℕ → Type 0) → ¬ A [] → Starts A P → Starts (Next A B) P
unfolding Starts Next
starts_next A B P no_empty first c y ([], b, e, left, right) = absurd (no_empty left)
starts_next A B P no_empty first c y (d ∷ a, b, e, left, right) = let same_byte : d ≡ c = cc in subst P same_byte (first d a left)

-- The same where the second text does not depend on the first.
pub starts_then : (A B : Language) (P : ℕ → Type 0) → ¬ A [] → Starts A P → Starts (Then A B) P
unfolding Then Next
starts_then A B P no_empty first = starts_next A (λ _. B) P no_empty first

-- Texts one after another begin as the first.
pub starts_many : (L : Language) (P : ℕ → Type 0) → ¬ L [] → Starts L P → Starts (Many L) P
unfolding Starts Or Nothing
starts_many L P no_empty first c y many = elim (many_split L (c ∷ y) many) [ inl row ↦ starts_then L (Many L) P no_empty first c y row | inr e ↦ cc e ]

-- So many texts one after another begin as the first.
pub starts_times : (L : Language) (P : ℕ → Type 0) (n : ℕ) → ¬ L [] → Starts L P → Starts (Times L n) P
unfolding Starts
starts_times L P n no_empty first c y text = starts_many L P no_empty first c y (many_of L n (c ∷ y) text)

-- which bytes lengthen a text

-- More bytes than lengthen a text do as well.
pub lengthens_wider : (L : Language) (P Q : ℕ → Type 0) → ((c : ℕ) → P c → Q c) → Lengthens L P → Lengthens L Q
unfolding Lengthens
lengthens_wider L P Q more lengthens x c text begins = more c (lengthens x c text begins)

-- No byte lengthens the empty text.
pub lengthens_nothing : (P : ℕ → Type 0) → Lengthens Nothing P
unfolding Lengthens Nothing Begins
lengthens_nothing P x c text (more, e) = absurd (omega (arith, length-append (x ++ c ∷ []) more, length-append x (c ∷ []), ap length e))

-- No byte lengthens a fixed text.
pub lengthens_fixed : (word : List ℕ) (P : ℕ → Type 0) → Lengthens (Fixed word) P
unfolding Lengthens Fixed Begins
lengthens_fixed word P x c is (more, e) =
    absurd (omega (arith, length-append (x ++ c ∷ []) more, length-append x (c ∷ []), ap length is, ap length e))

-- No byte lengthens a single byte.
pub lengthens_one : (test : ℕ → Bool) (P : ℕ → Type 0) → Lengthens (One test) P
unfolding Lengthens One Begins
lengthens_one test P x c (b, is, passes) (more, (d, end, last)) =
    absurd (omega (arith, length-append (x ++ c ∷ []) more, length-append x (c ∷ []), ap length is, ap length end))

longer_by : (a a' : List ℕ) (c k : ℕ) (m : List ℕ) → a' ≡ a ++ k ∷ m → c ≡ k → a' ≡ (a ++ c ∷ []) ++ m
longer_by a a' c k m p same_byte = p ∙ ap (λ e. a ++ e ∷ m) (sym same_byte) ∙ sym (append_assoc a (c ∷ []) m)

-- What lengthens a row lengthens its second text, or, where that may be empty, begins it or lengthens the first.
lengthens_row : (A : Language) (B : List ℕ → Language) (P : ℕ → Type 0) → NextApart A B → ((a : List ℕ) → A a → B a [] → Lengthens A P × Starts (B a) P) → ((a : List ℕ) → A a → Lengthens (B a) P) → Lengthens (Next A B) P
unfolding Lengthens Starts Next Begins NextApart
lengthens_row A B P apart empty last x c (a, b, e, left, right) (more, longer) = by_b b e right where
  row : (b : List ℕ) → x ≡ a ++ b → Next A B (a ++ (b ++ c ∷ more))
  row b e = subst (Next A B) (append_assoc x (c ∷ []) more ∙ ap (λ t. t ++ c ∷ more) e ∙ append_assoc a b (c ∷ more)) longer

  at_end : (a' b' : List ℕ) → a ++ c ∷ more ≡ a' ++ b' → A a' → B a' b' → B a [] → P c
  at_end a' b' e' left' right' none = elim (cuts a (c ∷ more) a' b' e') [
    | same p q ↦ (empty a left none).1 c more (subst (λ w. B w (c ∷ more)) (sym p) (subst (B a') (sym q) right'))
    | later k m p q ↦ (let same_byte : c ≡ k = cc in (empty a left none).0 a c left (m, subst A (longer_by a a' c k m p same_byte) left'))
    | earlier k m p q ↦ absurd (apart a' k (m ++ (c ∷ more)) left' (subst (B a') q right') (m, subst A (p ∙ sym (append_assoc a' (k ∷ []) m)) left))
  ]

  by_b : (b : List ℕ) → x ≡ a ++ b → B a b → P c
  by_b [] e right = let r = row [] e in at_end r.0 r.1 r.2 r.3 r.4 right
  by_b (d ∷ b) e right = last a left (d ∷ b) c right (
    more,
    subst (B a) (sym (append_assoc (d ∷ b) (c ∷ []) more))
        (second_of_row A B a ((d ∷ b) ++ c ∷ more) apart (begins_text A a left) (λ k m is begins. apart a d b left right (let same_byte : d ≡ k = cc in subst (λ e. Begins A (a ++ e ∷ [])) (sym same_byte) begins)) (row (d ∷ b) e)).1,
  )

-- What lengthens a row lengthens its second text, where that isn't empty.
pub lengthens_next : (A : Language) (B : List ℕ → Language) (P : ℕ → Type 0) → NextApart A B → ((a : List ℕ) → A a → ¬ B a []) → ((a : List ℕ) → A a → Lengthens (B a) P) → Lengthens (Next A B) P
lengthens_next A B P apart no_empty last = lengthens_row A B P apart (λ a text empty. absurd (no_empty a text empty)) last

-- The same where the second text does not depend on the first.
pub lengthens_then : (A B : Language) (P : ℕ → Type 0) → Apart A B → ¬ B [] → Lengthens B P → Lengthens (Then A B) P
unfolding Then Next Apart NextApart
lengthens_then A B P apart no_empty last = lengthens_next A (λ _. B) P apart (λ a text. no_empty) (λ a text. last)

-- Where the second text may be empty.
pub lengthens_before : (A B : Language) (P : ℕ → Type 0) → Apart A B → Lengthens A P → Starts B P → Lengthens B P → Lengthens (Then A B) P
unfolding Then Next Apart NextApart
lengthens_before A B P apart one first last = lengthens_row A (λ _. B) P apart (λ a text empty. (one, first)) (λ a text. last)

-- What may be there or not is lengthened by what lengthens it or begins it.
pub lengthens_optional : (L : Language) (P : ℕ → Type 0) → Lengthens L P → Starts L P → Lengthens (Or L Nothing) P
unfolding Lengthens Starts Or Nothing Begins
lengthens_optional L P more first x c (inl text) (t, inl longer) = more x c text (t, longer)
lengthens_optional L P more first x c (inr none) (t, inl longer) = first c t (subst (λ x. L ((x ++ c ∷ []) ++ t)) none longer)
lengthens_optional L P more first x c text (t, inr none) = absurd (omega (arith, length-append (x ++ c ∷ []) t, length-append x (c ∷ []), ap length none))

-- Of two languages whose texts begin with different bytes.
pub lengthens_or : (A B : Language) (P Q R : ℕ → Type 0) → ¬ A [] → ¬ B [] → Starts A P → Starts B Q → ((c : ℕ) → P c → Q c → ⊥) → Lengthens A R → Lengthens B R → Lengthens (Or A B) R
unfolding Lengthens Starts Or Begins
lengthens_or A B P Q R no_a no_b first_a first_b disjoint one other [] c (inl text) begins = absurd (no_a text)
lengthens_or A B P Q R no_a no_b first_a first_b disjoint one other [] c (inr text) begins = absurd (no_b text)
lengthens_or A B P Q R no_a no_b first_a first_b disjoint one other (d ∷ x) c (inl text) (t, inl longer) = one (d ∷ x) c text (t, longer)
lengthens_or A B P Q R no_a no_b first_a first_b disjoint one other (d ∷ x) c (inr text) (t, inr longer) = other (d ∷ x) c text (t, longer)
lengthens_or A B P Q R no_a no_b first_a first_b disjoint one other (d ∷ x) c (inl text) (t, inr longer) = absurd (disjoint d (first_a d x text) (first_b d ((x ++ c ∷ []) ++ t) longer))
lengthens_or A B P Q R no_a no_b first_a first_b disjoint one other (d ∷ x) c (inr text) (t, inl longer) = absurd (disjoint d (first_a d ((x ++ c ∷ []) ++ t) longer) (first_b d x text))

-- What is apart from itself is apart from so many of its texts.
pub apart_times : (L : Language) (n : ℕ) → Apart L (Many L) → Apart L (Times L n)
unfolding Apart
apart_times L n apart x c y text others begins = apart x c y text (many_of L n (c ∷ y) others) begins

-- What lengthens so many texts lengthens the last.
pub lengthens_times : (L : Language) (P : ℕ → Type 0) (n : ℕ) → Apart L (Many L) → ¬ L [] → Lengthens L P → Lengthens (Times L n) P
unfolding Times
lengthens_times L P zero apart no_empty more = lengthens_nothing P
lengthens_times L P (suc zero) apart no_empty more = lengthens_before L Nothing P (apart_times L 0 apart) more (starts_nothing P) (lengthens_nothing P)
lengthens_times L P (suc (suc n)) apart no_empty more = lengthens_then L (Times L (suc n)) P (apart_times L (suc n) apart) (no_empty_then L (Times L n) no_empty) (lengthens_times L P (suc n) apart no_empty more)

-- what lengthens texts in a row, by their number
many_lengthened : (L : Language) (P : ℕ → Type 0) (n : ℕ) → Apart L (Many L) → Starts (Many L) P → Lengthens L P → (x : List ℕ) (c : ℕ) → Times L n x → Begins (Many L) (x ++ c ∷ []) → P c
unfolding Lengthens Starts Apart NextApart Begins Times Then Next Or Nothing
many_lengthened L P zero apart first more x c none (t, longer) = first c t (subst (λ x. Many L ((x ++ c ∷ []) ++ t)) none longer)
many_lengthened L P (suc n) apart first more x c (a, b, e, left, right) (t, longer) = elim (many_split L _ longer) [
  | inr none ↦ absurd (omega (arith, length-append (x ++ c ∷ []) t, length-append x (c ∷ []), ap length none))
  | inl row ↦ by_b b right (λ begins. many_lengthened L P n apart first more b c right begins) (subst (Then L (Many L)) (append_assoc x (c ∷ []) t ∙ ap (λ z. z ++ c ∷ t) e ∙ append_assoc a b (c ∷ t)) row)
] where
  at_end : (a' b' : List ℕ) → a ++ c ∷ t ≡ a' ++ b' → L a' → Many L b' → P c
  at_end a' b' e' left' right' = elim (cuts a (c ∷ t) a' b' e') [
    | same p q ↦ first c t (subst (Many L) (sym q) right')
    | later k m p q ↦ (let same_byte : c ≡ k = cc in more a c left (m, subst L (longer_by a a' c k m p same_byte) left'))
    | earlier k m p q ↦ absurd (apart a' k (m ++ (c ∷ t)) left' (subst (Many L) q right') (m, subst L (p ∙ sym (append_assoc a' (k ∷ []) m)) left))
  ]

  by_b : (b : List ℕ) → Times L n b → (Begins (Many L) (b ++ c ∷ []) → P c) → Then L (Many L) (a ++ (b ++ c ∷ t)) → P c
  by_b [] right again row = at_end row.0 row.1 row.2 row.3 row.4
  by_b (d ∷ b) right again row = again (
    t,
    subst (Many L) (sym (append_assoc (d ∷ b) (c ∷ []) t))
        (second_of_row L (λ _. Many L) a ((d ∷ b) ++ c ∷ t) apart (begins_text L a left) (λ k m is begins. apart a d b left (many_of L n (d ∷ b) right) (let same_byte : d ≡ k = cc in subst (λ e. Begins L (a ++ e ∷ [])) (sym same_byte) begins)) row).1,
  )

-- What lengthens texts in a row begins one more or lengthens the last.
pub lengthens_many : (L : Language) (P : ℕ → Type 0) → Apart L (Many L) → ¬ L [] → Starts L P → Lengthens L P → Lengthens (Many L) P
unfolding Lengthens Many
lengthens_many L P apart no_empty first more x c (n, text) begins = many_lengthened L P n apart (starts_many L P no_empty first) more x c text begins

-- A front that isn't empty begins with such a byte.
pub begins_first : (L : Language) (P : ℕ → Type 0) → Starts L P → (c : ℕ) (x : List ℕ) → Begins L (c ∷ x) → P c
unfolding Starts Begins
begins_first L P first c x (more, text) = first c (x ++ more) text

-- Bytes with another first byte leave the language at once.
pub place_other : (L : Language) (P : ℕ → Type 0) (s : List ℕ) → Starts L P → Begins L [] → (0 < length s → ¬ P (get_or s 0 0)) → IsPlace L s 0
place_other L P s first some other = record {
  within = omega arith;
  begins = some;
  ends = λ n more fits begins. no_begin s n (omega arith) fits (λ long. other long) begins;
} where
  no_begin : (s : List ℕ) (n : ℕ) → 0 < n → n ≤ length s → (0 < length s → ¬ P (get_or s 0 0)) → ¬ Begins L (take n s)
  no_begin s zero more fits other begins = absurd (omega arith)
  no_begin [] (suc n) more fits other begins = absurd (omega arith)
  no_begin (c ∷ s) (suc n) more fits other begins = other (omega arith) (begins_first L P first c (take n s) begins)
