-- Texts that begin alike: their tokens are those of the front that they share, and then their own.
use Rattle.std.proofs.Common.{◌≡◌, ℕ, suc, zero, ◌+◌, ◌-◌, ◌<◌, ◌≤◌, ◌⊎◌, Bool, true, false, List, [], ◌∷◌, ◌++◌, length, take, drop, inl, inr, refl, sym, ◌∙◌, ap, subst, ⊎_elim, arith, append-nil, drop_of_length-le, length-drop, length-take-le}
use Rattle.std.specs.List.{list_all}
use Rattle.std.proofs.lemmas.Bool.{cases_lt}
use Rattle.std.proofs.lemmas.List.{drop-append-le, drop-take}
use Rattle.object_forms.specs.Token.{left_after}
use Rattle.sql_tokens.specs.Left.{IsLeft}
use Rattle.object_forms.specs.Token.{Lexeme, Token, first_token, tokens}
use Rattle.object_forms.specs.Token.Token.{unended}
use Rattle.sql_tokens.proofs.Cuts.{first_token-take, parted, tokens-first, tokens-front}
use Rattle.object_texts.proofs.Longer.{IsBreak, Stops, break-stops, first_token-longer}
use Rattle.sql_tokens.proofs.Tokens.{first_token-fits, tokens-cons, tokens-nil}
use Rattle.object_texts.proofs.Utf8.{both_true}

-- a token that doesn't take all that follows
abbrev pub is_ended : Token → Bool
is_ended unended = false
is_ended token = true

-- the first token of a text that is no longer than it, and begins with it
pub first_token-append : (bytes more : List ℕ) → (first_token bytes).size < length bytes → first_token (bytes ++ more) ≡ first_token bytes
first_token-append [] more below = absurd (omega arith)
first_token-append (byte ∷ bytes) [] below = ap first_token (append-nil (byte ∷ bytes))
first_token-append (byte ∷ bytes) (next ∷ more) below = first_token-longer byte bytes next more (inl below)

ended-not : (token : Token) → is_ended token ≡ true → (token ≡ unended → ⊥)
ended-not token e same = cc (ap is_ended same)

pub first_token-break : (bytes : List ℕ) (byte : ℕ) (rest : List ℕ) → IsBreak byte → 1 ≤ (first_token bytes).size → is_ended (first_token bytes).token ≡ true → first_token (bytes ++ (byte ∷ rest)) ≡ first_token bytes
first_token-break [] byte rest breaks some ended = absurd (omega arith)
first_token-break (first ∷ bytes) byte rest breaks some ended = first_token-longer first bytes byte rest (inr (break-stops byte (first_token (first ∷ bytes)).token breaks (ended-not (first_token (first ∷ bytes)).token ended)))

-- the tokens of a text whose first token is that of another
pub tokens-alike : (text other rest : List ℕ) → first_token text ≡ first_token other → 1 ≤ (first_token other).size → drop (first_token other).size text ≡ rest → tokens text ≡ (first_token other).token ∷ tokens rest
tokens-alike text other rest same some after =
    let there : 1 ≤ (first_token text).size = rw same some in
    tokens-first text there ∙ ap (λ (found : Lexeme). found.token ∷ tokens (drop found.size text)) same ∙ ap (λ (left : List ℕ). (first_token other).token ∷ tokens left) after

-- a text of ended tokens, and one that begins with a byte with which none goes on
tokens-break-within : (n : ℕ) (text : List ℕ) (byte : ℕ) (rest : List ℕ) → length text ≤ n → IsBreak byte → list_all is_ended (tokens text) ≡ true → tokens (text ++ (byte ∷ rest)) ≡ tokens text ++ tokens (byte ∷ rest)
tokens-break-within n [] byte rest within breaks ended = rw tokens-nil refl
tokens-break-within zero (first ∷ bytes) byte rest within breaks ended = absurd (omega arith)
tokens-break-within (suc n) (first ∷ bytes) byte rest within breaks ended =
    let text = first ∷ bytes in
    let found = first_token text in
    let fits = first_token-fits first bytes in
    let after = drop found.size text in
    let whole = tokens-cons first bytes in
    let both = both_true (is_ended found.token) (list_all is_ended (tokens after)) (sym (ap (list_all is_ended) whole) ∙ ended) in
    let same = first_token-break text byte rest breaks fits.some both.0 in
    let left : drop found.size (text ++ (byte ∷ rest)) ≡ after ++ (byte ∷ rest) = drop-append-le found.size text (byte ∷ rest) fits.within in
    tokens-alike (text ++ (byte ∷ rest)) text (after ++ (byte ∷ rest)) same fits.some left
    ∙ ap (λ (others : List Token). found.token ∷ others) (tokens-break-within n after byte rest (omega (arith, length-drop found.size text, fits.some)) breaks both.1)
    ∙ ap (λ (all : List Token). all ++ tokens (byte ∷ rest)) (sym whole)

pub tokens-break : (text : List ℕ) (byte : ℕ) (rest : List ℕ) → IsBreak byte → list_all is_ended (tokens text) ≡ true → tokens (text ++ (byte ∷ rest)) ≡ tokens text ++ tokens (byte ∷ rest)
tokens-break text byte rest breaks ended = tokens-break-within (length text) text byte rest (omega arith) breaks ended

-- the last of some tokens doesn't go on with that byte
abbrev pub LastStops : ℕ → List Token → Type 0
LastStops byte [] = Unit {0}
LastStops byte (token ∷ []) = Stops byte token
LastStops byte (token ∷ next ∷ all) = LastStops byte (next ∷ all)

last-of : (byte : ℕ) (token : Token) (all : List Token) → LastStops byte (token ∷ all) → LastStops byte all
last-of byte token [] stops = tt
last-of byte token (next ∷ all) stops = stops

-- a text whose last token doesn't go on with the byte that follows
tokens-joined-within : (n : ℕ) (text : List ℕ) (byte : ℕ) (rest : List ℕ) → length text ≤ n → LastStops byte (tokens text) → tokens (text ++ (byte ∷ rest)) ≡ tokens text ++ tokens (byte ∷ rest)
tokens-joined-within n [] byte rest within stops = rw tokens-nil refl
tokens-joined-within zero (first ∷ bytes) byte rest within stops = absurd (omega arith)
tokens-joined-within (suc n) (first ∷ bytes) byte rest within stops =
    let text = first ∷ bytes in
    let found = first_token text in
    let fits = first_token-fits first bytes in
    let after = drop found.size text in
    let whole = tokens-cons first bytes in
    let last : LastStops byte (found.token ∷ tokens after) = subst (LastStops byte) whole stops in
    let alone : length text ≤ found.size → Stops byte found.token = λ all. subst (λ (others : List Token). LastStops byte (found.token ∷ others)) (ap tokens (drop_of_length-le text all) ∙ tokens-nil) last in
    let apart : (found.size < length text) ⊎ Stops byte found.token = ⊎_elim (λ below. inl below) (λ all. inr (alone all)) (cases_lt found.size (length text)) in
    let same = first_token-longer first bytes byte rest apart in
    let left : drop found.size (text ++ (byte ∷ rest)) ≡ after ++ (byte ∷ rest) = drop-append-le found.size text (byte ∷ rest) fits.within in
    tokens-alike (text ++ (byte ∷ rest)) text (after ++ (byte ∷ rest)) same fits.some left
    ∙ ap (λ (others : List Token). found.token ∷ others) (tokens-joined-within n after byte rest (omega (arith, length-drop found.size text, fits.some)) (last-of byte found.token (tokens after) last))
    ∙ ap (λ (all : List Token). all ++ tokens (byte ∷ rest)) (sym whole)

pub tokens-joined : (text : List ℕ) (byte : ℕ) (rest : List ℕ) → LastStops byte (tokens text) → tokens (text ++ (byte ∷ rest)) ≡ tokens text ++ tokens (byte ∷ rest)
tokens-joined text byte rest stops = tokens-joined-within (length text) text byte rest (omega arith) stops

-- a text that goes on otherwise after a byte that follows some of its tokens
alike-after : (count : ℕ) (text : List ℕ) (n : ℕ) (more : List ℕ) → length text - length (left_after count text) < n → n ≤ length text → tokens (take n text ++ more) ≡ tokens (take (length text - length (left_after count text)) text) ++ tokens (take (n - (length text - length (left_after count text))) (left_after count text) ++ more)
alike-after zero text n more below within =
    let none : length text - length text ≡ 0 = omega arith in
    let all : n - 0 ≡ n = omega arith in
    rw (none, all, tokens-nil) refl
alike-after (suc count) [] n more below within = absurd (omega arith)
alike-after (suc count) (first ∷ bytes) n more below within =
    let text = first ∷ bytes in
    let found = first_token text in
    let fits = first_token-fits first bytes in
    let after = drop found.size text in
    let rest = left_after count after in
    let shorter = length-drop found.size text in
    let there = (parted after rest (record { count = count; is = refl })).within in
    let place = length after - length rest in
    let at : length text - length rest ≡ found.size + place = omega (arith, fits.within) in
    let later : n ≡ found.size + (n - found.size) = omega (arith, fits.within) in
    let front = take n text in
    let same_front : first_token front ≡ found = first_token-take text n (omega (arith, fits.within)) in
    let long : length front ≡ n = length-take-le n text within in
    let same : first_token (front ++ more) ≡ found = first_token-append front more (rw (same_front, long) (omega (arith, fits.within))) ∙ same_front in
    let left : drop found.size (front ++ more) ≡ take (n - found.size) after ++ more = drop-append-le found.size front more (omega (arith, fits.within)) ∙ ap (λ (bytes : List ℕ). bytes ++ more) (ap (λ (m : ℕ). drop found.size (take m text)) later ∙ drop-take found.size (n - found.size) text) in
    let less : n - found.size - place ≡ n - (length text - length rest) = omega (arith, fits.within) in
    tokens-alike (front ++ more) text (take (n - found.size) after ++ more) same fits.some left
    ∙ ap (λ (others : List Token). found.token ∷ others) (alike-after count after (n - found.size) more (omega (arith, fits.within)) (omega (arith, fits.within)))
    ∙ ap (λ (all : List Token). all ++ tokens (take (n - found.size - place) rest ++ more)) (sym (tokens-front text place fits.some))
    ∙ ap (λ (m : ℕ). tokens (take m text) ++ tokens (take (n - found.size - place) rest ++ more)) (sym at)
    ∙ ap (λ (m : ℕ). tokens (take (length text - length rest) text) ++ tokens (take m rest ++ more)) less

pub tokens-alike-after : (text rest : List ℕ) (n : ℕ) (more : List ℕ) → IsLeft text rest → length text - length rest < n → n ≤ length text → tokens (take n text ++ more) ≡ tokens (take (length text - length rest) text) ++ tokens (take (n - (length text - length rest)) rest ++ more)
tokens-alike-after text rest n more left =
    let P : List ℕ → Type 0 = λ rest. length text - length rest < n → n ≤ length text → tokens (take n text ++ more) ≡ tokens (take (length text - length rest) text) ++ tokens (take (n - (length text - length rest)) rest ++ more) in
    subst P left.is (alike-after left.count text n more)
