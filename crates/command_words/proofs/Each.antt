-- Entries that are read in turn, up to the first that isn't read.
use Rattle.std.proofs.Common.{◌≡◌, ◌∙◌, ◌<◌, ◌≤◌, ◌+◌, ℕ, List, [], ◌∷◌, ◌++◌, Ok, Err, map, drop, length, refl, ap, sym, get_or, add-one, inl, inr, append_assoc, append-nil, drop-cons, drop_of_length-le}
use Rattle.std.specs.Prelude.{Result}
use Rattle.std.specs.Borrow.{Bor}
use Rattle.command_words.specs.Meant.{FailsAsMeant, and_then, each}
use Rattle.command_words.specs.declared.fault.WordsFault.{WordsFault}

-- what was made, and then what the rest is read as
abbrev pub onto : {U : Type 0} → List U → Result (List U) WordsFault → Result (List U) WordsFault
onto made rest = and_then rest (λ others. Ok (made ++ others))

each_map : {S T U : Type 0} (read : T → Result U WordsFault) (g : S → T) (all : List S)
    → each read (map g all) ≡ each (λ s. read (g s)) all
each_map read g [] = refl
each_map {S} {T} {U} read g (s ∷ all) =
    ap (λ (r : Result (List U) WordsFault). and_then (read (g s)) (λ made. and_then r (λ others. Ok (made ∷ others)))) (each_map read g all)

onto_nothing : {U : Type 0} (r : Result (List U) WordsFault) → r ≡ onto [] r
onto_nothing (Ok us) = refl
onto_nothing (Err e) = refl

pub each_begins : {T U : Type 0} (read : T → Result U WordsFault) (all : List T) → each read all ≡ onto [] (each read (drop 0 all))
each_begins read all = onto_nothing (each read all)

onto_more : {U : Type 0} (made : List U) (u : U) (r : Result (List U) WordsFault)
    → onto made (and_then r (λ others. Ok (u ∷ others))) ≡ onto (made ++ u ∷ []) r
onto_more made u (Ok us) = ap Ok (sym (append_assoc made (u ∷ []) us))
onto_more made u (Err e) = refl

at_place : {T U : Type 0} (read : T → Result U WordsFault) (all : List T) (made : List U) (i : ℕ) (d : T) → i < length all
    → each read all ≡ onto made (each read (drop i all)) → each read all ≡ onto made (each read (get_or all i d ∷ drop (i + 1) all))
at_place read all made i d lt so_far = so_far ∙ ap (λ xs. onto made (each read xs)) (drop-cons all i d lt ∙ ap (λ n. get_or all i d ∷ drop n all) (sym (add-one i)))

pub each_more : {T U : Type 0} (read : T → Result U WordsFault) (all : List T) (made : List U) (i : ℕ) (d : T) (u : U) → i < length all
    → each read all ≡ onto made (each read (drop i all)) → read (get_or all i d) ≡ Ok u
    → each read all ≡ onto (made ++ u ∷ []) (each read (drop (i + 1) all))
each_more {T} {U} read all made i d u lt so_far is =
    at_place read all made i d lt so_far
    ∙ (ap (λ (r : Result U WordsFault). onto made (and_then r (λ first. and_then (each read (drop (i + 1) all)) (λ others. Ok (first ∷ others))))) is
    ∙ onto_more made u (each read (drop (i + 1) all)))

each_stops : {T U : Type 0} (read : T → Result U WordsFault) (all : List T) (made : List U) (i : ℕ) (d : T) (e : WordsFault) → i < length all
    → each read all ≡ onto made (each read (drop i all)) → read (get_or all i d) ≡ Err e
    → each read all ≡ Err e
each_stops {T} {U} read all made i d e lt so_far is =
    at_place read all made i d lt so_far
    ∙ ap (λ (r : Result U WordsFault). onto made (and_then r (λ first. and_then (each read (drop (i + 1) all)) (λ others. Ok (first ∷ others))))) is

each_ends : {T U : Type 0} (read : T → Result U WordsFault) (all : List T) (made : List U) (i : ℕ) → length all ≤ i
    → each read all ≡ onto made (each read (drop i all)) → each read all ≡ Ok made
each_ends read all made i past so_far =
    so_far ∙ (ap (λ xs. onto made (each read xs)) (drop_of_length-le all past) ∙ ap Ok (append-nil made))

in_entries : {U : Type 0} (read : List ℕ → Result U WordsFault) (entries : List (Bor (List ℕ))) (texts : List (List ℕ)) → map (λ entry. entry.now) entries ≡ texts
    → each (λ (entry : Bor (List ℕ)). read entry.now) entries ≡ each read texts
in_entries read entries texts same = sym (each_map read (λ (entry : Bor (List ℕ)). entry.now) entries) ∙ ap (each read) same

-- an entry that isn't read is where the whole list isn't
pub list_fails : {U : Type 0} (read : List ℕ → Result U WordsFault) (entries : List (Bor (List ℕ))) (texts : List (List ℕ)) (made : List U) (i : ℕ) (d : Bor (List ℕ)) (e : WordsFault)
    → map (λ entry. entry.now) entries ≡ texts → i < length entries
    → each (λ (entry : Bor (List ℕ)). read entry.now) entries ≡ onto made (each (λ (entry : Bor (List ℕ)). read entry.now) (drop i entries))
    → FailsAsMeant (read (get_or entries i d).now) e → FailsAsMeant (each read texts) e
list_fails read entries texts made i d e same lt so_far (inl memory) = inl memory
list_fails read entries texts made i d e same lt so_far (inr is) =
    inr (sym (in_entries read entries texts same) ∙ each_stops (λ (entry : Bor (List ℕ)). read entry.now) entries made i d e lt so_far is)

-- past the last entry the list is read
pub list_ends : {U : Type 0} (read : List ℕ → Result U WordsFault) (entries : List (Bor (List ℕ))) (texts : List (List ℕ)) (made : List U) (i : ℕ)
    → map (λ entry. entry.now) entries ≡ texts → length entries ≤ i
    → each (λ (entry : Bor (List ℕ)). read entry.now) entries ≡ onto made (each (λ (entry : Bor (List ℕ)). read entry.now) (drop i entries))
    → each read texts ≡ Ok made
list_ends read entries texts made i same past so_far =
    sym (in_entries read entries texts same) ∙ each_ends (λ (entry : Bor (List ℕ)). read entry.now) entries made i past so_far
