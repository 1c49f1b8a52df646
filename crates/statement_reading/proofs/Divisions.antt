-- Divisions of lists into parts that are apart.
use Rattle.std.proofs.Common.{◌≡◌, ℕ, List, [], ◌∷◌, ◌++◌, sym, ◌∙◌, subst, append_assoc}
use Rattle.grammar.specs.Language.{Language}
use Rattle.grammar.proofs.Cuts.{cuts}
use Rattle.grammar.proofs.Cuts.Cuts.{same, later, earlier}
use Rattle.grammar.proofs.Places.{begins_front}
use Rattle.grammar.proofs.Rows.{Apart, NextApart}

-- Two divisions of one list in parts that are apart are the same.
pub one_cut : (A : Language) (B : List ℕ → Language) (a b x y : List ℕ) → NextApart A B → A a → A x → B a b → B x y → a ++ b ≡ x ++ y → (a ≡ x) × (b ≡ y)
unfolding NextApart
one_cut A B a b x y apart left other rest more e = elim (cuts a b x y e) [
  | same p q ↦ (p, q)
  | later c m p q ↦ absurd (apart a c (m ++ y) left (subst (B a) q rest) (begins_front A (a ++ c ∷ []) m (subst A (p ∙ sym (append_assoc a (c ∷ []) m)) other)))
  | earlier c m p q ↦ absurd (apart x c (m ++ b) other (subst (B x) q more) (begins_front A (x ++ c ∷ []) m (subst A (p ∙ sym (append_assoc x (c ∷ []) m)) left)))
]

-- The same for a second part that does not depend on the first.
pub one_cut_apart : (A B : Language) (a b x y : List ℕ) → Apart A B → A a → A x → B b → B y → a ++ b ≡ x ++ y → (a ≡ x) × (b ≡ y)
unfolding Apart NextApart
one_cut_apart A B a b x y apart left other rest more e = one_cut A (λ _. B) a b x y apart left other rest more e
