-- Lists of parts.
use Rattle.std.proofs.Common.{◌≡◌, ℕ, ◌+◌, ◌<◌, List, [], ◌∷◌, ◌++◌, length, take, ◌≤◌, set, map, sym, ◌∙◌, ap, arith, length-append}
use Rattle.std.proofs.lemmas.List.{take-map, take_more_set, map-append, length-map, length-take-le}

-- One more at the end.
pub one_added : {X Y : Type 0} (f : X → Y) (xs : List X) (i : ℕ) (x : X) → i < length xs → take (i + 1) (map f (set xs i x)) ≡ take i (map f xs) ++ f x ∷ []
one_added f xs i x within =
    take-map f (i + 1) (set xs i x) ∙ ap (map f) (take_more_set xs i x within) ∙ map-append f (take i xs) (x ∷ []) ∙ ap (λ l. l ++ f x ∷ []) (sym (take-map f i xs))

-- The same where the list that shows has room for six.
pub part_added : {X Y : Type 0} (f : X → Y) (xs : List X) (i : ℕ) (x : X) (old : List Y) → length xs ≡ 6 → i ≤ 6 → take i (map f xs) ≡ old → length (old ++ f x ∷ []) ≤ 6 → take (i + 1) (map f (set xs i x)) ≡ old ++ f x ∷ []
part_added f xs i x old six few is room =
    let size : length (take i (map f xs)) ≡ i = length-take-le i (map f xs) (omega (arith, length-map xs f)) in
    one_added f xs i x (omega (arith, ap length is, length-append old (f x ∷ []))) ∙ ap (λ l. l ++ f x ∷ []) is
