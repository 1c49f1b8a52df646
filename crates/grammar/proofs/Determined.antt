-- Places, longest texts and readings are determined by the language and the bytes.
use Rattle.std.proofs.Common.{◌≡◌, ℕ, ◌<◌, inl, inr, List, take, ap, sym, subst, arith, Result, Ok, Err}
use Rattle.std.proofs.lemmas.Bool.{cases_lt}
use Rattle.grammar.specs.Language.{Language, IsPlace, Longest, Reads}

by_order : (p q : ℕ) → (p < q → ⊥) → (q < p → ⊥) → p ≡ q
by_order p q less more = elim (cases_lt p q) [ inl h ↦ absurd (less h) | inr h ↦ elim (cases_lt q p) [ inl k ↦ absurd (more k) | inr k ↦ omega arith ] ]

-- Bytes leave a language at one place.
pub one_place : (L : Language) (s : List ℕ) (p q : ℕ) → IsPlace L s p → IsPlace L s q → p ≡ q
one_place L s p q one other = by_order p q (λ less. one.ends q less other.within other.begins) (λ more. other.ends p more one.within one.begins)

-- The longest prefix that is a text has one length.
pub one_longest : (L : Language) (s : List ℕ) (p q : ℕ) → Longest L s p → Longest L s q → p ≡ q
one_longest L s p q one other = by_order p q (λ less. one.longer q less other.within other.text) (λ more. other.longer p more one.within one.text)

-- A reader has one answer.
pub one_reading : (L : Language) (s : List ℕ) (r q : Result ℕ ℕ) → Reads L s r → Reads L s q → r ≡ q
one_reading L s (Ok p) (Ok q) one other = ap Ok (one_place L s p q one.place other.place)
one_reading L s (Err p) (Err q) one other = ap Err (one_place L s p q one.place other.place)
one_reading L s (Ok p) (Err q) one other = absurd (other.text (subst (λ n. L (take n s)) (one_place L s p q one.place other.place) one.text))
one_reading L s (Err p) (Ok q) one other = absurd (one.text (subst (λ n. L (take n s)) (sym (one_place L s p q one.place other.place)) other.text))
