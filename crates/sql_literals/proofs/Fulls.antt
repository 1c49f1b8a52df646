-- Languages in which whatever a text goes on to, as far as it begins another, is a text too.
use Rattle.std.proofs.Common.{◌≡◌, ℕ, ◌≤◌, inl, inr, true, List, [], ◌∷◌, ◌++◌, take, drop, sym, ◌∙◌, ap, subst, append_assoc, Err}
use Rattle.std.proofs.lemmas.Bool.{cases_lt, and_parts}
use Rattle.std.proofs.lemmas.List.{take-append-drop, take-take}
use Rattle.std.proofs.lemmas.List.Folds.{list_all-append}
use Rattle.std.specs.List.{list_all}
use Rattle.grammar.specs.Language.{Language, Begins, Reads, Then, Next, HasNone}
use Rattle.grammar.proofs.Places.{begins_text}
use Rattle.grammar.proofs.Rows.{Apart, NextApart, second_of_row}
use Rattle.plain_data.specs.Byte.{is_digit}
use Rattle.sql_cells.specs.Number.{Digits}
use Rattle.sql_literals.proofs.Grammar.{digits_hold, digits_pass}

unfoldable pub Full : Language → Type 0
Full L = (x y : List ℕ) → L x → Begins L (x ++ y) → L (x ++ y)

-- Where such a text is broken off, no prefix is one.
pub none_full : (L : Language) (s : List ℕ) (p : ℕ) → Full L → Reads L s (Err p) → HasNone L s
unfolding Full
none_full L s p full broken = record {
  none = λ n fits text. elim (cases_lt p n) [
    | inl past ↦ broken.place.ends n past fits (begins_text L (take n s) text)
    | inr before ↦ broken.text (subst L (sym (split n before)) (full (take n s) (drop n (take p s)) text (subst (Begins L) (split n before) broken.place.begins)))
  ];
} where
  split : (n : ℕ) → n ≤ p → take p s ≡ take n s ++ drop n (take p s)
  split n before = sym (take-append-drop n (take p s)) ∙ ap (λ t. t ++ drop n (take p s)) (take-take n p s before)

-- A row whose second text isn't empty.
pub full_then : (A B : Language) → Apart A B → ¬ B [] → Full B → Full (Then A B)
unfolding Full Then Next Begins Apart NextApart
full_then A B apart no_empty full x y (a, [], e, left, right) begins = absurd (no_empty right)
full_then A B apart no_empty full x y (a, d ∷ b, e, left, right) (more, row) =
    (a, (d ∷ b) ++ y, ap (λ t. t ++ y) e ∙ append_assoc a (d ∷ b) y, left, full (d ∷ b) y right (more, subst B (sym (append_assoc (d ∷ b) y more)) second)) where
      regrouped : (x ++ y) ++ more ≡ a ++ ((d ∷ b) ++ (y ++ more))
      regrouped = append_assoc x y more ∙ ap (λ t. t ++ (y ++ more)) e ∙ append_assoc a (d ∷ b) (y ++ more)

      second : B ((d ∷ b) ++ (y ++ more))
      second = (second_of_row A (λ _. B) a ((d ∷ b) ++ (y ++ more)) apart (begins_text A a left)
          (λ k m is begins. apart a d b left right (let same_byte : d ≡ k = cc in subst (λ e. Begins A (a ++ e ∷ [])) (sym same_byte) begins))
          (subst (Then A B) regrouped row)).1

digits_front : (x y : List ℕ) → list_all is_digit (x ++ y) ≡ true → list_all is_digit x ≡ true
digits_front x y all = (and_parts (list_all is_digit x) (list_all is_digit y) (sym (list_all-append is_digit x y) ∙ all)).0

pub full_digits : Full Digits
unfolding Full Begins
full_digits [] y text begins = absurd (cc (digits_pass [] text))
full_digits (b ∷ x) y text (more, longer) = digits_hold ((b ∷ x) ++ y) (digits_front ((b ∷ x) ++ y) more (digits_pass (((b ∷ x) ++ y) ++ more) longer))
