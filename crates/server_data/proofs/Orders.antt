-- Interleavings and prefixes.
use Rattle.std.proofs.Common.{◌≡◌, List, [], ◌∷◌, ◌++◌, Bool, refl, ap, sym, ◌∙◌, append_assoc, arith, rules}
use Rattle.std.specs.Prelude.{IsTrue, fold, flat_map}
use Rattle.std.proofs.lemmas.List.Elements.{All-cons}
use Rattle.server_data.specs.History.{Interleaves, IsPrefix, here, none_left, takes, there}
use Rattle.server_data.specs.Laws.{HoldsAtEnd, IsKept}
use Rattle.server_data.specs.declared.data.Database.{Database}
use Rattle.server_data.specs.declared.data.Transaction.{Transaction}

module _ {X : Type 0} where
  skips : {lists : List (List X)} {whole : List X} → Interleaves lists whole → Interleaves ([] ∷ lists) whole
  skips (none_left none) = none_left (All-cons (λ (list : List X). list ≡ []) [] _ refl none)
  skips (takes head rest) = takes (there head) (skips rest)

  front : (list : List X) (lists : List (List X)) (whole : List X) → Interleaves lists whole → Interleaves (list ∷ lists) (list ++ whole)
  front [] lists whole i = skips i
  front (x ∷ xs) lists whole i = takes here (front xs lists whole i)

  -- one list after the other is an interleaving of them
  pub in_turn : (lists : List (List X)) → Interleaves lists (flat_map (λ (list : List X). list) lists)
  in_turn [] = none_left (λ k d h. absurd (omega arith))
  in_turn (list ∷ lists) = front list lists _ (in_turn lists)

  pub of_itself : (list : List X) → IsPrefix list list
  of_itself list = record { rest = []; joined = search rules }

  pub of_prefix : (front more whole : List X) → IsPrefix front more → IsPrefix more whole → IsPrefix front whole
  of_prefix front more whole one other = record { rest = one.rest ++ other.rest; joined = sym (append_assoc front one.rest other.rest) ∙ (ap (λ (list : List X). list ++ other.rest) one.joined ∙ other.joined) }

-- what each step keeps holds at the end
pub kept_to_end : (after : Database → Transaction → Database) (holds : List (List Transaction) → Database → Bool) → IsKept after holds
    → {lists : List (List Transaction)} {whole : List Transaction} → Interleaves lists whole → (state : Database) → IsTrue (holds lists state) → HoldsAtEnd holds (fold after state whole)
kept_to_end after holds keeps (none_left {lists} none) state held = record { left = lists; none = none; held = held }
kept_to_end after holds keeps (takes head rest) state held = kept_to_end after holds keeps rest (after state _) (keeps _ _ _ state head held)
