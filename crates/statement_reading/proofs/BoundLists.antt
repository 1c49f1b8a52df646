-- Taking numbers with commas between them apart, number by number.
use Rattle.std.proofs.Common.{◌≡◌, ◌≢◌, ℕ, zero, suc, ◌+◌, ◌-◌, ◌<◌, ◌≤◌, List, [], ◌∷◌, ◌++◌, length, take, drop, set, refl, sym, ◌∙◌, ap, subst, arith, append_assoc, length-append, length-drop, ℤ, Ok, Err}
use Rattle.std.specs.Fmt.{signed_decimal}
use Rattle.std.proofs.lemmas.List.{take-append-drop, take_all, drop_all, drop-drop, take_more_set, length-take-le, length-set}
use Rattle.grammar.specs.Language.{Reads, Nothing, Fixed, Then, Times}
use Rattle.grammar.proofs.Places.{reads_rest, read_some}
use Rattle.grammar.proofs.Rows.{then_broken}
use Rattle.statement_forms.specs.Text.{numbers}
use Rattle.statement_reading.specs.Parts.{BoundText, NextBound, BoundsAnd, IsBoundRow}
use Rattle.statement_reading.proofs.BoundReads.{apart_first_bound, begins_times_bound, no_empty_next_bound}
use Rattle.statement_reading.proofs.NameLists.{after_read}
use Rattle.statement_reading.proofs.NumberReads.{no_empty_bound}
use Rattle.statement_reading.proofs.NumberValues.{not_refused}

-- the numbers so far, and those that are left
pub record Numbered (text : List ℕ) (row : List ℤ) (at : ℕ) : Type 0 where
  pub within : at ≤ length text
  pub more : ℕ
  pub few : length row + more ≤ 3
  pub some : 1 ≤ length row + more
  pub rest : BoundsAnd more (drop at text)
  pub joined : (zs : List ℤ) → 0 < length zs → numbers zs ≡ drop at text → numbers (row ++ zs) ≡ text

-- the same where the row is the front of four places
pub record InFour (text : List ℕ) (places : List ℤ) (count at : ℕ) : Type 0 where
  pub four : length places ≡ 4
  pub low : count ≤ 4
  pub numbered : Numbered text (take count places) at

numbered_start : (text : List ℕ) → IsBoundRow text → Numbered text [] 0
numbered_start text row = record { within = omega arith; more = row.more; few = omega (arith, row.most); some = omega (arith, row.least); rest = row.bounds; joined = λ zs some is. is }

pub four_start : (text : List ℕ) (places : List ℤ) → length places ≡ 4 → IsBoundRow text → InFour text places 0 0
four_start text places four row = record { four = four; low = omega arith; numbered = numbered_start text row }

pub number_refused : (text : List ℕ) (places : List ℤ) (count at p : ℕ) → InFour text places count at → Reads BoundText (take (length text - at) (drop at text)) (Err p) → ⊥
unfolding BoundsAnd
number_refused text places count at p four reads =
    let numbered = four.numbered in
    not_refused (Then BoundText (Times NextBound numbered.more)) (drop at text) p numbered.rest
    (then_broken BoundText (Times NextBound numbered.more) (drop at text) p (apart_first_bound numbered.more) (begins_times_bound numbered.more) (reads_rest BoundText text at (Err p) (Err p) reads refl))

number_read : (text : List ℕ) (at k : ℕ) → Reads BoundText (take (length text - at) (drop at text)) (Ok k) → Reads BoundText (drop at text) (Ok k)
number_read text at k reads = reads_rest BoundText text at (Ok k) (Ok k) reads refl

pub number_text : (text : List ℕ) (at k : ℕ) → Reads BoundText (take (length text - at) (drop at text)) (Ok k) → BoundText (take k (drop at text))
number_text text at k reads = let there = number_read text at k reads in there.text

pub number_step : (text : List ℕ) (at k : ℕ) → at ≤ length text → Reads BoundText (take (length text - at) (drop at text)) (Ok k) → (0 < k) × (at + k ≤ length text)
number_step text at k within reads =
    let there = number_read text at k reads in
    (read_some BoundText (drop at text) k (Ok k) no_empty_bound there refl, omega (arith, there.place.within, length-drop at text))

numbers_left : (text : List ℕ) (row : List ℤ) (at k : ℕ) (numbered : Numbered text row at) → Reads BoundText (take (length text - at) (drop at text)) (Ok k) → Times NextBound numbered.more (drop (at + k) text)
unfolding BoundsAnd
numbers_left text row at k numbered reads = subst (Times NextBound numbered.more) (drop-drop k at text) (after_read BoundText (Times NextBound numbered.more) (drop at text) k (apart_first_bound numbered.more) (number_read text at k reads) numbered.rest)

none_left : (n : ℕ) (t : List ℕ) → t ≡ [] → Times NextBound n t → n ≡ 0
unfolding Times Then
none_left zero t is times = refl
none_left (suc n) t is (a, b, e, next, more) = absurd (empty a b (sym e ∙ is) next) where
  empty : (a b : List ℕ) → a ++ b ≡ [] → NextBound a → ⊥
  empty [] b e next = no_empty_next_bound next
  empty (c ∷ a) b e next = cc

-- The row, where a number ends the text.
pub number_end : (text : List ℕ) (places : List ℤ) (count at k : ℕ) (z : ℤ) → InFour text places count at → Reads BoundText (take (length text - at) (drop at text)) (Ok k) → signed_decimal z ≡ take k (drop at text) → at + k ≡ length text → (numbers (take (count + 1) (set places count z)) ≡ text) × (2 ≤ length (take (count + 1) (set places count z))) × (length (take (count + 1) (set places count z)) ≤ 4)
number_end text places count at k z four reads is end =
    let numbered = four.numbered in
    let none : numbered.more ≡ 0 = none_left numbered.more (drop (at + k) text) (drop_all (at + k) text (omega arith)) (numbers_left text (take count places) at k numbered reads) in
    let size : length (take count places) ≡ count = length-take-le count places (omega (arith, four.four, four.low)) in
    let whole : take (count + 1) (set places count z) ≡ take count places ++ z ∷ [] = take_more_set places count z (omega (arith, four.four, numbered.few)) in (
      ap numbers whole ∙ numbered.joined (z ∷ []) (omega arith) (is ∙ take_all k (drop at text) (omega (arith, length-drop at text))),
      omega (arith, numbered.some, ap length whole, length-append (take count places) (z ∷ [])),
      omega (arith, numbered.few, ap length whole, length-append (take count places) (z ∷ [])),
    )

comma_split : (n : ℕ) (t : List ℕ) → 0 < length t → Times NextBound n t → (m : ℕ) × (n ≡ suc m) × (t ≡ 44 ∷ drop 1 t) × BoundsAnd m (drop 1 t)
unfolding Times NextBound BoundsAnd Then Fixed Nothing
comma_split zero t some none = absurd (omega (arith, ap length none))
comma_split (suc n) t some (a, b, e, (x, y, split, comma, text), others) =
    let whole : t ≡ 44 ∷ y ++ b = e ∙ ap (λ l. l ++ b) (split ∙ ap (λ l. l ++ y) comma) in
    let rest : drop 1 t ≡ y ++ b = ap (drop 1) whole in
    (n, refl, whole ∙ ap (λ l. 44 ∷ l) (sym rest), (y, b, rest, text, others))

numbers_some : (z : ℤ) (zs : List ℤ) → 0 < length zs → numbers (z ∷ zs) ≡ signed_decimal z ++ 44 ∷ numbers zs
numbers_some z [] some = absurd (omega arith)
numbers_some z (y ∷ zs) some = refl

numbered_more : (text : List ℕ) (row : List ℤ) (at k : ℕ) (z : ℤ) → Numbered text row at → Reads BoundText (take (length text - at) (drop at text)) (Ok k) → signed_decimal z ≡ take k (drop at text) → at + k ≢ length text → Numbered text (row ++ z ∷ []) (at + k + 1)
numbered_more text row at k z numbered reads is other =
    let step = number_step text at k numbered.within reads in
    let (m, count, comma, bounds) = comma_split numbered.more (drop (at + k) text) (omega (arith, length-drop (at + k) text)) (numbers_left text row at k numbered reads) in
    let next : drop 1 (drop (at + k) text) ≡ drop (at + k + 1) text = drop-drop 1 (at + k) text in
    let size : length (row ++ z ∷ []) ≡ length row + 1 = length-append row (z ∷ []) in
    record {
      within = omega arith;
      more = m;
      few = omega (arith, numbered.few);
      some = omega arith;
      rest = subst (BoundsAnd m) next bounds;
      joined = λ zs some there.
          let whole : drop at text ≡ numbers (z ∷ zs) =
          sym (take-append-drop k (drop at text)) ∙ ap (λ l. l ++ drop k (drop at text)) (sym is) ∙ ap (λ l. signed_decimal z ++ l) (drop-drop k at text ∙ comma ∙ ap (λ l. 44 ∷ l) (next ∙ sym there)) ∙ sym (numbers_some z zs some) in
          ap numbers (append_assoc row (z ∷ []) zs) ∙ numbered.joined (z ∷ zs) (omega arith) (sym whole);
    }

-- One more number, after which a comma stands.
pub number_more : (text : List ℕ) (places : List ℤ) (count at k : ℕ) (z : ℤ) → InFour text places count at → Reads BoundText (take (length text - at) (drop at text)) (Ok k) → signed_decimal z ≡ take k (drop at text) → at + k ≢ length text → InFour text (set places count z) (count + 1) (at + k + 1)
number_more text places count at k z four reads is other =
    let numbered = four.numbered in
    let size : length (take count places) ≡ count = length-take-le count places (omega (arith, four.four, four.low)) in
    let whole : take (count + 1) (set places count z) ≡ take count places ++ z ∷ [] = take_more_set places count z (omega (arith, four.four, numbered.few)) in
    record {
      four = length-set places count z ∙ four.four;
      low = omega (arith, numbered.few);
      numbered = subst (λ l. Numbered text l (at + k + 1)) (sym whole) (numbered_more text (take count places) at k z numbered reads is other);
    }

-- There is room for one more.
pub number_fits : (text : List ℕ) (places : List ℤ) (count at : ℕ) → InFour text places count at → count < 4
number_fits text places count at four = let size : length (take count places) ≡ count = length-take-le count places (omega (arith, four.four, four.low)) in omega (arith, four.numbered.few)
