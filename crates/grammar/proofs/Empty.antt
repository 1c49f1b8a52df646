-- The empty text, and the empty front: which languages have the one, and which begin with the other.
use Rattle.std.proofs.Common.{◌≡◌, ℕ, Bool, true, inl, inr, List, [], ◌∷◌, ◌++◌, refl, sym, subst}
use Rattle.grammar.specs.Language.{Language, Begins, Nothing, Fixed, One, Then, Next, Or}

-- A fixed text with a first byte is not empty.
pub no_empty_fixed : (b : ℕ) (r : List ℕ) → ¬ Fixed (b ∷ r) []
unfolding Fixed
no_empty_fixed b r e = cc

-- A single byte is not empty.
pub no_empty_one : (test : ℕ → Bool) → ¬ One test []
unfolding One
no_empty_one test (b, e, passes) = cc

-- A row whose first text isn't empty isn't empty.
pub no_empty_next : (A : Language) (B : List ℕ → Language) → ¬ A [] → ¬ Next A B []
unfolding Next
no_empty_next A B no_empty ([], b, e, left, right) = no_empty left
no_empty_next A B no_empty (c ∷ a, b, e, left, right) = cc

-- The same where the second text does not depend on the first.
pub no_empty_then : (A B : Language) → ¬ A [] → ¬ Then A B []
unfolding Then Next
no_empty_then A B no_empty = no_empty_next A (λ _. B) no_empty

-- A row whose second text isn't empty isn't empty.
pub no_empty_after : (A B : Language) → ¬ B [] → ¬ Then A B []
unfolding Then
no_empty_after A B no_empty ([], b, e, left, right) = no_empty (subst B (sym e) right)
no_empty_after A B no_empty (c ∷ a, b, e, left, right) = cc

-- A fixed text is some text.
pub begins_fixed : (word : List ℕ) → Begins (Fixed word) []
unfolding Begins Fixed
begins_fixed word = (word, refl)

-- Some byte passes the test.
pub begins_one : (test : ℕ → Bool) (b : ℕ) → test b ≡ true → Begins (One test) []
unfolding Begins One
begins_one test b passes = (b ∷ [], (b, refl, passes))

-- A text of the one and a text of the other make some row.
pub begins_then : (A B : Language) → Begins A [] → Begins B [] → Begins (Then A B) []
unfolding Begins Then
begins_then A B (a, left) (b, right) = (a ++ b, (a, b, refl, left, right))

-- Of a row whose second part depends on the first.
pub begins_next : (A : Language) (B : List ℕ → Language) → Begins A [] → ((a : List ℕ) → A a → Begins (B a) []) → Begins (Next A B) []
unfolding Begins Next
begins_next A B (a, left) some = let (b, right) = some a left in (a ++ b, (a, b, refl, left, right))

-- A text of the first is some text of a choice.
pub begins_or : (A B : Language) → Begins A [] → Begins (Or A B) []
unfolding Begins Or
begins_or A B (a, text) = (a, inl text)

-- A text of the second is some text of a choice.
pub begins_or_other : (A B : Language) → Begins B [] → Begins (Or A B) []
unfolding Begins Or
begins_or_other A B (b, text) = (b, inr text)

-- What may be there or not has some text, the empty one.
pub begins_optional : (L : Language) → Begins (Or L Nothing) []
unfolding Begins Or Nothing
begins_optional L = ([], inr refl)
