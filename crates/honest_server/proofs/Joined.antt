-- Fronts of lists that stand first in an interleaving of the lists.
use Rattle.std.proofs.Common.{◌≡◌, List, [], ◌∷◌, ◌++◌, refl, ap, sym, ◌∙◌, append_assoc, arith, subst, suc}
use Rattle.std.specs.Prelude.{All, flat_map}
use Rattle.server_data.proofs.Orders.{in_turn}
use Rattle.server_data.specs.History.{Interleaves, TakesHead, here, none_left, takes, there}
use Rattle.server_data.specs.declared.data.Transaction.{Transaction}
use Rattle.honest_server.specs.Laws.{AGrantCanStandFirst, AreJoined, no_more, one_more}

-- where all fronts are empty, the lists are their rests
rests_alone : {fronts rests lists : List (List Transaction)} → AreJoined fronts rests lists → All (λ (list : List Transaction). list ≡ []) fronts → rests ≡ lists
rests_alone no_more none = refl
rests_alone (one_more {front} {rest} {fronts} {rests} {lists} joined) none =
    ap (λ (first : List Transaction). (first ++ rest) ∷ rests) (sym (none 0 front (omega arith))) ∙ ap (λ (others : List (List Transaction)). (front ++ rest) ∷ others) (rests_alone joined (λ k d h. none (suc k) d (omega arith)))

-- the lists, from one of which the head was taken
record Taken (fewer rests : List (List Transaction)) (x : Transaction) (lists : List (List Transaction)) : Type 0 where
  less : List (List Transaction)
  head : TakesHead lists x less
  joined : AreJoined fewer rests less

takes_too : {fronts fewer rests lists : List (List Transaction)} {x : Transaction} → AreJoined fronts rests lists → TakesHead fronts x fewer → Taken fewer rests x lists
takes_too no_more head = elim head [ ]
takes_too (one_more joined) here = record { less = _; head = here; joined = one_more joined }
takes_too (one_more joined) (there head) = let more = takes_too joined head in record { less = _; head = there more.head; joined = one_more more.joined }

-- the fronts first, and then the rests
stand_first : {fronts rests lists : List (List Transaction)} {front rest : List Transaction} → AreJoined fronts rests lists → Interleaves fronts front → Interleaves rests rest → Interleaves lists (front ++ rest)
stand_first {rest = rest} joined (none_left none) after = subst (λ (lists : List (List Transaction)). Interleaves lists rest) (rests_alone joined none) after
stand_first joined (takes head others) after = let more = takes_too joined head in takes more.head (stand_first more.joined others after)

pub grant_first : AGrantCanStandFirst
grant_first base front fronts rests lists joined interleaves = (
  front ++ flat_map (λ (list : List Transaction). list) rests,
  stand_first joined interleaves (in_turn rests),
  record { rest = flat_map (λ (list : List Transaction). list) rests; joined = append_assoc base front (flat_map (λ (list : List Transaction). list) rests) },
)
