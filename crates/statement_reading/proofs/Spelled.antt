-- The text of a shape, by its parts.
use Rattle.std.proofs.Common.{◌≡◌, ℕ, suc, ◌+◌, ◌<◌, List, [], ◌∷◌, ◌++◌, length, take, get_or, refl, sym, ◌∙◌, ap, subst, arith, length-append}
use Rattle.std.proofs.lemmas.List.{take_all, take_more}
use Rattle.grammar.specs.Language.{Fixed}
use Rattle.statement_reading.specs.Parts.{part_language}
use Rattle.statement_reading.specs.Slots.{HasParts, kinds}
use Rattle.statement_reading.specs.Slots.{Place}
use Rattle.statement_reading.specs.Slots.Place.{word, part, again}
use Rattle.statement_reading.proofs.Forms.{kept, fronts}

-- the text, of which the parts from index k on are still to come
abbrev pub spelled : List Place → ℕ → List (List ℕ) → List ℕ
spelled [] k parts = []
spelled (word bytes ∷ slots) k parts = bytes ++ spelled slots k parts
spelled (part kind ∷ slots) k parts = get_or parts k [] ++ spelled slots (suc k) parts
spelled (again index ∷ slots) k parts = get_or (take k parts) index [] ++ spelled slots k parts

-- each part from index k on is of its kind
abbrev pub AreOf : List Place → ℕ → List (List ℕ) → Type 0
AreOf [] k parts = Unit {0}
AreOf (word bytes ∷ slots) k parts = AreOf slots k parts
AreOf (part kind ∷ slots) k parts = part_language kind (take k parts) (get_or parts k []) × AreOf slots (suc k) parts
AreOf (again index ∷ slots) k parts = AreOf slots k parts

-- The text is spelled by its parts.
pub spelled_is : (slots : List Place) (before parts : List (List ℕ)) (t : List ℕ) → HasParts slots before parts t → t ≡ spelled slots (length before) parts
unfolding HasParts Fixed
spelled_is [] before parts t (e, is) = e
spelled_is (word bytes ∷ slots) before parts t (a, b, e, first, rest) = e ∙ ap (λ l. l ++ b) first ∙ ap (λ l. bytes ++ l) (spelled_is slots before parts b rest)
spelled_is (again index ∷ slots) before parts t (a, b, e, first, rest) =
    e ∙ ap (λ l. l ++ b) (first ∙ ap (λ l. get_or l index []) (sym (fronts slots before parts b rest))) ∙ ap (λ l. get_or (take (length before) parts) index [] ++ l) (spelled_is slots before parts b rest)
spelled_is (part kind ∷ slots) before parts t (a, b, e, first, rest) =
    let size : length (before ++ a ∷ []) ≡ suc (length before) = omega (arith, length-append before (a ∷ [])) in
    let here : get_or parts (length before) [] ≡ a = kept slots (before ++ a ∷ []) parts b (length before) rest (omega arith) ∙ at_end before a in
    e ∙ ap (λ l. l ++ b) (sym here) ∙ ap (λ l. get_or parts (length before) [] ++ l) (spelled_is slots (before ++ a ∷ []) parts b rest ∙ ap (λ k. spelled slots k parts) size) where
      at_end : (before : List (List ℕ)) (a : List ℕ) → get_or (before ++ a ∷ []) (length before) [] ≡ a
      at_end [] a = refl
      at_end (c ∷ before) a = at_end before a

-- What is spelled by parts of their kinds has these parts.
pub has_spelled : (slots : List Place) (before parts : List (List ℕ)) (k : ℕ) → k ≡ length before → AreOf slots k parts → take k parts ≡ before → length parts ≡ k + length (kinds slots) → HasParts slots before parts (spelled slots k parts)
unfolding HasParts Fixed
has_spelled [] before parts k is are front size = (refl, sym (take_all k parts (omega arith)) ∙ front)
has_spelled (word bytes ∷ slots) before parts k is are front size = (bytes, spelled slots k parts, refl, refl, has_spelled slots before parts k is are front size)
has_spelled (again index ∷ slots) before parts k is are front size =
    (get_or before index [], spelled slots k parts, ap (λ l. get_or l index [] ++ spelled slots k parts) front, refl, has_spelled slots before parts k is are front size)
has_spelled (part kind ∷ slots) before parts k is are front size =
    let next : suc k ≡ k + 1 = omega arith in
    let inside : k < length parts = omega arith in
    let one : take (suc k) parts ≡ before ++ get_or parts k [] ∷ [] = ap (λ n. take n parts) next ∙ take_more parts k [] inside ∙ ap (λ l. l ++ get_or parts k [] ∷ []) front in (
      get_or parts k [],
      spelled slots (suc k) parts,
      refl,
      subst (λ l. part_language kind l (get_or parts k [])) front are.0,
      has_spelled slots (before ++ get_or parts k [] ∷ []) parts (suc k) (omega (arith, length-append before (get_or parts k [] ∷ []))) are.1 one (omega arith),
    )
