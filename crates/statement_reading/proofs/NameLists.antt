-- Taking a list of names apart, name by name.
use Rattle.std.proofs.Common.{◌≡◌, ◌≢◌, ℕ, ◌+◌, ◌-◌, ◌<◌, ◌≤◌, inl, inr, List, [], ◌∷◌, ◌++◌, length, take, drop, refl, sym, ◌∙◌, ap, subst, arith, append_assoc, length-drop, Ok, Err}
use Rattle.std.proofs.lemmas.List.{take-append-drop, take_all, drop-drop}
use Rattle.grammar.specs.Language.{Language, Reads, Nothing, Fixed, Then, Next, Or, Many}
use Rattle.grammar.proofs.Places.{reads_rest, read_some}
use Rattle.grammar.proofs.Repeats.{many_split, begins_many}
use Rattle.grammar.proofs.Rows.{Apart, NextApart, second_text, then_broken}
use Rattle.sql_cells.specs.Name.{quoted_name}
use Rattle.statement_forms.specs.Insert.{QuotedName, NextName}
use Rattle.statement_reading.specs.Parts.{Names}
use Rattle.statement_forms.specs.Text.{names}
use Rattle.statement_reading.proofs.NameReads.{apart_first_name, no_empty_name}
use Rattle.statement_reading.proofs.NumberValues.{not_refused}

-- the parts so far, and the names that are left
pub record Listed (text : List ℕ) (parts : List (List ℕ)) (at : ℕ) : Type 0 where
  pub within : at ≤ length text
  pub rest : Names (drop at text)
  pub joined : (vs : List (List ℕ)) → 0 < length vs → names vs ≡ drop at text → names (parts ++ vs) ≡ text

pub listed_start : (text : List ℕ) → Names text → Listed text [] 0
listed_start text listed = record { within = omega arith; rest = listed; joined = λ vs some is. is }

pub listed_refused : (text : List ℕ) (parts : List (List ℕ)) (at p : ℕ) → Listed text parts at → Reads QuotedName (take (length text - at) (drop at text)) (Err p) → ⊥
unfolding Names
listed_refused text parts at p listed reads =
    not_refused (Then QuotedName (Many NextName)) (drop at text) p listed.rest
    (then_broken QuotedName (Many NextName) (drop at text) p apart_first_name (begins_many NextName) (reads_rest QuotedName text at (Err p) (Err p) reads refl))

name_read : (text : List ℕ) (at k : ℕ) → Reads QuotedName (take (length text - at) (drop at text)) (Ok k) → Reads QuotedName (drop at text) (Ok k)
name_read text at k reads = reads_rest QuotedName text at (Ok k) (Ok k) reads refl

pub listed_name : (text : List ℕ) (at k : ℕ) → Reads QuotedName (take (length text - at) (drop at text)) (Ok k) → QuotedName (take k (drop at text))
listed_name text at k reads = let there = name_read text at k reads in there.text

pub listed_step : (text : List ℕ) (at k : ℕ) → at ≤ length text → Reads QuotedName (take (length text - at) (drop at text)) (Ok k) → (0 < k) × (at + k ≤ length text)
listed_step text at k within reads =
    let there = name_read text at k reads in
    (read_some QuotedName (drop at text) k (Ok k) no_empty_name there refl, omega (arith, there.place.within, length-drop at text))

pub after_read : (A B : Language) (s : List ℕ) (p : ℕ) → Apart A B → Reads A s (Ok p) → Then A B s → B (drop p s)
unfolding Then Next Apart NextApart
after_read A B s p apart reads row =
    let whole : take (length (drop p s)) (drop p s) ≡ drop p s = take_all (length (drop p s)) (drop p s) (omega arith) in
    subst B whole (second_text A (λ _. B) s p apart reads (length (drop p s)) (subst (Then A B) (sym (take-append-drop p s) ∙ ap (λ l. take p s ++ l) (sym whole)) row))

names_left : (text : List ℕ) (parts : List (List ℕ)) (at k : ℕ) → Listed text parts at → Reads QuotedName (take (length text - at) (drop at text)) (Ok k) → Many NextName (drop (at + k) text)
unfolding Names
names_left text parts at k listed reads = subst (Many NextName) (drop-drop k at text) (after_read QuotedName (Many NextName) (drop at text) k apart_first_name (name_read text at k reads) listed.rest)

pub listed_end : (text : List ℕ) (parts : List (List ℕ)) (at k : ℕ) (v : List ℕ) → Listed text parts at → quoted_name v ≡ take k (drop at text) → at + k ≡ length text → names (parts ++ v ∷ []) ≡ text
listed_end text parts at k v listed is end = listed.joined (v ∷ []) (omega arith) (is ∙ take_all k (drop at text) (omega (arith, length-drop at text)))

comma_split : (t : List ℕ) → 0 < length t → Many NextName t → (t ≡ 44 ∷ drop 1 t) × Names (drop 1 t)
unfolding Names Or NextName Then Fixed Nothing
comma_split t some many = elim (many_split NextName t many) [
  | inr none ↦ absurd (omega (arith, ap length none))
  | inl (a, b, e, (x, y, split, comma, name), others) ↦ (
      let whole : t ≡ 44 ∷ y ++ b = e ∙ ap (λ l. l ++ b) (split ∙ ap (λ l. l ++ y) comma) in
      let rest : drop 1 t ≡ y ++ b = ap (drop 1) whole in
      (whole ∙ ap (λ l. 44 ∷ l) (sym rest), (y, b, rest, name, others))
      )
]

names_next : (v w : List ℕ) (ws : List (List ℕ)) → names (v ∷ w ∷ ws) ≡ quoted_name v ++ 44 ∷ names (w ∷ ws)
names_next v w ws = refl

names_some : (v : List ℕ) (vs : List (List ℕ)) → 0 < length vs → names (v ∷ vs) ≡ quoted_name v ++ 44 ∷ names vs
names_some v [] some = absurd (omega arith)
names_some v (w ∷ ws) some = names_next v w ws

pub listed_more : (text : List ℕ) (parts : List (List ℕ)) (at k : ℕ) (v : List ℕ) → Listed text parts at → Reads QuotedName (take (length text - at) (drop at text)) (Ok k) → quoted_name v ≡ take k (drop at text) → at + k ≢ length text → Listed text (parts ++ v ∷ []) (at + k + 1)
listed_more text parts at k v listed reads is other =
    let step = listed_step text at k listed.within reads in
    let after = comma_split (drop (at + k) text) (omega (arith, length-drop (at + k) text)) (names_left text parts at k listed reads) in
    let next : drop 1 (drop (at + k) text) ≡ drop (at + k + 1) text = drop-drop 1 (at + k) text in
    record {
      within = omega arith;
      rest = subst Names next after.1;
      joined = λ vs some there.
          let whole : drop at text ≡ names (v ∷ vs) =
          sym (take-append-drop k (drop at text)) ∙ ap (λ l. l ++ drop k (drop at text)) (sym is) ∙ ap (λ l. quoted_name v ++ l) (drop-drop k at text ∙ after.0 ∙ ap (λ l. 44 ∷ l) (next ∙ sym there)) ∙ sym (names_some v vs some) in
          ap names (append_assoc parts (v ∷ []) vs) ∙ listed.joined (v ∷ vs) (omega arith) (sym whole);
    }
