-- Parts between commas, one at a time.
use Rattle.std.proofs.Common.{◌≡◌, ℕ, ◌+◌, ◌-◌, ◌≤◌, ◌==◌, ◌&&◌, false, List, [], ◌∷◌, ◌++◌, length, take, Option, Some, None, option_map, refl, sym, ◌∙◌, ap, arith, append_assoc}
use Rattle.std.specs.List.{onto_first}
use Rattle.object_forms.specs.Shape.{Enclosed, depth_after, only_name, onto_inner, parts, up_to}
use Rattle.sql_tokens.specs.Left.{IsLeft}
use Rattle.object_forms.specs.Token.{Token, is_mark, tokens}
use Rattle.sql_tokens.proofs.Cuts.{cond_both, front-more}
use Rattle.sql_tokens.proofs.Tokens.{cond_by, tokens-nil}

-- what was found after some tokens, with these in front
abbrev pub onto_all : List Token → Option Enclosed → Option Enclosed
onto_all front cut = option_map (λ (found : Enclosed). record { inner = front ++ found.inner; after = found.after }) cut

onto_all-onto : (front : List Token) (token : Token) (cut : Option Enclosed) → onto_all front (onto_inner token cut) ≡ onto_all (front ++ (token ∷ [])) cut
onto_all-onto front token None = refl
onto_all-onto front token (Some cut) = ap (λ (inner : List Token). Some (record { inner = inner; after = cut.after })) (sym (append_assoc front (token ∷ []) cut.inner))

pub cut-none : (text : List ℕ) (cut : Option Enclosed) → cut ≡ onto_all (tokens (take (length text - length text) text)) cut
cut-none text None = refl
cut-none text (Some cut) = let none : length text - length text ≡ 0 = omega arith in rw (none, tokens-nil) refl

pub depth_after-le : (token : Token) (depth : ℕ) → depth_after token depth ≤ depth + 1
depth_after-le token depth =
    let P : ℕ → Type 0 = λ deep. deep ≤ depth + 1 in
    cond_by P (is_mark 40 token) _ _ (λ e. omega arith) (λ e. cond_by P (is_mark 41 token) _ _ (λ f. omega arith) (λ f. omega arith))

-- a token that isn't the mark stands before it
pub cut-next : (byte depth : ℕ) (text rest after : List ℕ) (token : Token) → IsLeft text rest → IsLeft text after → tokens rest ≡ token ∷ tokens after → (is_mark byte token && depth == 0) ≡ false → up_to byte 0 (tokens text) ≡ onto_all (tokens (take (length text - length rest) text)) (up_to byte depth (tokens rest)) → up_to byte 0 (tokens text) ≡ onto_all (tokens (take (length text - length after) text)) (up_to byte (depth_after token depth) (tokens after))
cut-next byte depth text rest after token left later first other so_far =
    let front = tokens (take (length text - length rest) text) in
    let cut = up_to byte (depth_after token depth) (tokens after) in
    let one : up_to byte depth (tokens rest) ≡ onto_inner token cut = ap (up_to byte depth) first ∙ rw other refl in
    so_far ∙ ap (onto_all front) one ∙ onto_all-onto front token cut ∙ ap (λ (all : List Token). onto_all all cut) (sym (front-more text rest after token left later first))

-- the first part, and those after its comma
abbrev pub parts_from : List Token → Option Enclosed → List (List Token)
parts_from all None = all ∷ []
parts_from all (Some cut) = cut.inner ∷ parts 0 cut.after

onto_first-from : (token : Token) (all : List Token) (cut : Option Enclosed) → onto_first token (parts_from all cut) ≡ parts_from (token ∷ all) (onto_inner token cut)
onto_first-from token all None = refl
onto_first-from token all (Some cut) = refl

pub parts-from : (depth : ℕ) (all : List Token) → parts depth all ≡ parts_from all (up_to 44 depth all)
parts-from depth [] = refl
parts-from depth (token ∷ rest) =
    let P : List (List Token) → Option Enclosed → Type 0 = λ some cut. some ≡ parts_from (token ∷ rest) cut in
    cond_both P (is_mark 44 token && depth == 0) refl (ap (onto_first token) (parts-from (depth_after token depth) rest) ∙ onto_first-from token rest (up_to 44 (depth_after token depth) rest))

-- there is no only part where one stands after a comma
only_name-from : (part : List Token) (all : List Token) (cut : Option Enclosed) → only_name (part ∷ parts_from all cut) ≡ None
only_name-from part all None = refl
only_name-from part all (Some cut) = refl

pub only_name-more : (part all : List Token) (depth : ℕ) → only_name (part ∷ parts depth all) ≡ None
only_name-more part all depth = rw (parts-from depth all) (only_name-from part all (up_to 44 depth all))

pub ruleset part_by_part = (parts-from, only_name-more)
