-- Prefixes and interleavings of histories.
use Rattle.std.specs.Prelude.{◌≡◌, List, [], ◌∷◌, ◌++◌, All}

-- the list begins with the other
pub record IsPrefix {X : Type 0} (front whole : List X) : Type 0 where
  pub rest : List X
  pub joined : front ++ rest ≡ whole

-- the first member of one of the lists is taken away
pub data TakesHead {X : Type 0} : List (List X) → X → List (List X) → Type 0 where
  here : {x : X} {list : List X} {lists : List (List X)} →
      TakesHead ((x ∷ list) ∷ lists) x (list ∷ lists)
  there : {x : X} {list : List X} {lists fewer : List (List X)} → TakesHead lists x fewer →
      TakesHead (list ∷ lists) x (list ∷ fewer)

-- the whole has all members of the lists, those of each list in their order
pub data Interleaves {X : Type 0} : List (List X) → List X → Type 0 where
  none_left : {lists : List (List X)} → All (λ (list : List X). list ≡ []) lists →
      Interleaves lists []
  takes : {lists fewer : List (List X)} {x : X} {whole : List X} → TakesHead lists x fewer →
      Interleaves fewer whole → Interleaves lists (x ∷ whole)
