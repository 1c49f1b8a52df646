-- What is said of the lists of an interleaving and of the database, step by step.
use Rattle.std.proofs.Common.{◌≡◌, List, [], ◌∷◌, Option, Some, refl, ap, sym, ◌∙◌}
use Rattle.std.specs.Prelude.{option_and_then}
use Rattle.std.proofs.lemmas.List.Elements.{All-head}
use Rattle.server_data.specs.Fold.{changes_db, more_db}
use Rattle.server_data.specs.History.{Interleaves, here, none_left, takes, there}
use Rattle.server_data.specs.declared.data.Database.{Database}
use Rattle.server_data.specs.declared.data.Transaction.{Transaction}
use Rattle.history_laws.specs.Laws.{HoldsAfter, FitsAndKeeps}

-- a transaction that fits, and those after it
pub then_more : (state next : Database) (one : Transaction) (whole : List Transaction) → changes_db state one.changes ≡ Some next → more_db state (one ∷ whole) ≡ more_db next whole
then_more state next one whole fits = ap (λ (found : Option Database). option_and_then (λ (next : Database). more_db next whole) found) fits

holds_after : (Holds : List (List Transaction) → Database → Type 0) → FitsAndKeeps Holds → {lists : List (List Transaction)} {whole : List Transaction} → Interleaves lists whole → (state : Database) → Holds lists state → HoldsAfter Holds state whole
holds_after Holds keeps (none_left {lists} none) state held = record { last = state; fits = refl; left = lists; none = none; held = held }
holds_after Holds keeps (takes {lists} {fewer} {x} {whole} head rest) state held =
    let step = keeps lists fewer x state head held in
    let after = holds_after Holds keeps rest step.0 step.2 in
    record { last = after.last; fits = then_more state step.0 x whole step.1 ∙ after.fits; left = after.left; none = after.none; held = after.held }

-- where each step fits and keeps what is said of what is left of the lists and of the database, the whole fits, and after it that holds where nothing is left
pub kept_to_end : (Holds : List (List Transaction) → Database → Type 0) → FitsAndKeeps Holds → (lists : List (List Transaction)) (whole : List Transaction) → Interleaves lists whole → (state : Database) → Holds lists state → HoldsAfter Holds state whole
kept_to_end Holds keeps lists whole order state held = holds_after Holds keeps order state held

-- the only interleaving of one list is the list
pub only : {list whole : List Transaction} → Interleaves (list ∷ []) whole → whole ≡ list
only {list = list} (none_left none) = sym (All-head (λ (one : List Transaction). one ≡ []) list [] none)
only (takes {x = x} here rest) = ap (λ (after : List Transaction). x ∷ after) (only rest)
only (takes (there head) rest) = elim head [ ]
