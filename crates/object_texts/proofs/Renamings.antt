-- Texts whose head's name is replaced.
use Rattle.std.proofs.Common.{◌≡◌, ℕ, suc, zero, ◌+◌, ◌-◌, ◌≤◌, ◌==◌, ◌&&◌, Bool, true, false, cond, List, [], ◌∷◌, ◌++◌, length, take, drop, Option, Some, None, option_map, refl, sym, ◌∙◌, ap, subst, arith, append_assoc, length-append, not, inl, ⊎_elim, eqb-true, ◌⊎◌, inr}
use Rattle.std.proofs.Math.Seq.{drop-append-add}
use Rattle.std.proofs.lemmas.List.{append_cancel_right, drop-drop}
use Rattle.std.specs.List.{flat_map}
use Rattle.plain_data.proofs.Options.{same_some}
use Rattle.object_forms.specs.declared.place.Span.{Span}
use Rattle.object_forms.specs.Head.{Found, Making, head, head_in, making, name_of}
use Rattle.object_forms.specs.Place.{count_before, renamed, replaced, token_span}
use Rattle.object_forms.specs.Token.{Token, closing, first_token, left_after, more, quoted_lexeme, tokens}
use Rattle.object_forms.specs.Token.Token.{quoted_name as quoted_token}
use Rattle.object_texts.specs.Renaming.{QuotedNamesEnd, NameStands, NamesAreReplaced, NamesStand, after_place, begins_quoted, in_place}
use Rattle.sql_tokens.proofs.Cuts.{parted, tokens-front}
use Rattle.object_texts.proofs.Fronts.{LastStops, tokens-alike, tokens-joined}
use Rattle.object_texts.proofs.NamePlaces.{Named, head-named}
use Rattle.sql_tokens.proofs.Tokens.{cond_by, first_token-fits, tokens-cons, tokens-nil}
use Rattle.sql_cells.specs.Name.{name_byte, quoted_name}

none-left : List Token
none-left = []

drop-nil : (count : ℕ) → drop count none-left ≡ []
unfolding none-left
drop-nil zero = refl
drop-nil (suc count) = refl

-- the tokens that are left
pub left-tokens : (count : ℕ) (text : List ℕ) → tokens (left_after count text) ≡ drop count (tokens text)
unfolding none-left
left-tokens zero text = refl
left-tokens (suc count) [] = left-tokens count [] ∙ rw tokens-nil (drop-nil count)
left-tokens (suc count) (byte ∷ bytes) = left-tokens count (drop (first_token (byte ∷ bytes)).size (byte ∷ bytes)) ∙ ap (drop (suc count)) (sym (tokens-cons byte bytes))

some-left : (text : List ℕ) (token : Token) (rest : List Token) → tokens text ≡ token ∷ rest → 1 ≤ (first_token text).size
some-left [] token rest e = absurd (cc (sym tokens-nil ∙ e))
some-left (byte ∷ bytes) token rest e = (first_token-fits byte bytes).some

drop-front : (front rest : List Token) → drop (length front) (front ++ rest) ≡ rest
drop-front [] rest = refl
drop-front (token ∷ front) rest = drop-front front rest

first_of : Token → List Token → Token
first_of other [] = other
first_of other (token ∷ rest) = token

-- Where a name stands in a text: its tokens before and after it, and its own.
record Place (text : List ℕ) (found : Found Making) (span : Span) : Type 0 where
  named : Named head_in (tokens text) found
  here : List ℕ
  at : drop span.before text ≡ here
  front : tokens (take span.before text) ≡ named.front
  some : 1 ≤ (first_token here).size
  first : (first_token here).token ≡ named.token
  size : (first_token here).size ≡ span.size
  after : tokens (drop span.size here) ≡ found.rest

place-of : (text : List ℕ) (found : Found Making) → head text ≡ Some found → Place text found (token_span (count_before (tokens text) found.rest) text)
unfolding first_of
place-of text found e =
    let named = head-named (tokens text) found e in
    let count = count_before (tokens text) found.rest in
    let long : length (tokens text) ≡ length named.front + suc (length found.rest) = ap length named.splits ∙ length-append named.front (named.token ∷ found.rest) in
    let counted : count ≡ length named.front = omega (arith, long) in
    let here = left_after count text in
    let cut = parted text here (record { count = count; is = refl }) in
    let rest : tokens here ≡ named.token ∷ found.rest = left-tokens count text ∙ ap (λ (n : ℕ). drop n (tokens text)) counted ∙ ap (drop (length named.front)) named.splits ∙ drop-front named.front (named.token ∷ found.rest) in
    let some = some-left here named.token found.rest rest in
    let split : (first_token here).token ∷ tokens (drop (first_token here).size here) ≡ named.token ∷ found.rest = sym (tokens-alike here here (drop (first_token here).size here) refl some refl) ∙ rest in
    let front : tokens (take (length text - length here) text) ++ (named.token ∷ found.rest) ≡ named.front ++ (named.token ∷ found.rest) = ap (λ (all : List Token). tokens (take (length text - length here) text) ++ all) (sym rest) ∙ sym cut.tokens ∙ named.splits in
    record {
      named = named;
      here = here;
      at = cut.after;
      front = append_cancel_right (tokens (take (length text - length here) text)) named.front (named.token ∷ found.rest) front;
      some = some;
      first = ap (first_of named.token) split;
      size = refl;
      after = ap (drop 1) split;
    }

head-of : (found : Option (Found Making)) (text : List ℕ) (named : Making) (span : Span) → head text ≡ found → option_map (λ (found : Found Making). found.value) found ≡ Some named → option_map (λ (found : Found Making). token_span (count_before (tokens text) found.rest) text) found ≡ Some span → (found : Found Making) × (head text ≡ Some found) × (found.value ≡ named) × (token_span (count_before (tokens text) found.rest) text ≡ span)
head-of None text named span e same there = absurd (cc)
head-of (Some found) text named span e same there = (found, e, same_some same, same_some there)

-- the texts that are spelled in a place
take-drop : (n : ℕ) (bytes : List ℕ) → take n bytes ++ drop n bytes ≡ bytes
take-drop zero bytes = refl
take-drop (suc n) [] = refl
take-drop (suc n) (byte ∷ bytes) = ap (λ (left : List ℕ). byte ∷ left) (take-drop n bytes)

after-is : (text here : List ℕ) (span : Span) → drop span.before text ≡ here → after_place text span ≡ drop span.size here
after-is text here span at = sym (drop-drop span.size span.before text) ∙ ap (drop span.size) at

stands-of : (text : List ℕ) (found : Found Making) (span : Span) → Place text found span → NameStands text found.value.path.name span
stands-of text found span place =
    let here = place.here in
    let spelled : in_place text span ≡ take span.size here = ap (take span.size) place.at in
    let few : (first_token here).size + 0 ≡ span.size = omega (arith, place.size) in
    record {
      whole =
          append_assoc (take span.before text) (in_place text span) (after_place text span)
          ∙ ap (λ (left : List ℕ). take span.before text ++ left) (ap (λ (left : List ℕ). left ++ after_place text span) spelled ∙ ap (λ (left : List ℕ). take span.size here ++ left) (after-is text here span place.at) ∙ take-drop span.size here ∙ sym place.at)
          ∙ take-drop span.before text;
      spells = record {
        token = place.named.token;
        tokens =
            ap tokens (spelled ∙ ap (λ (n : ℕ). take n here) (sym few)) ∙ tokens-front here 0 place.some
            ∙ ap (λ (left : List Token). (first_token here).token ∷ left) tokens-nil ∙ ap (λ (token : Token). token ∷ []) place.first;
        is_name = place.named.is_name;
      };
    }

pub names-stand : NamesStand
names-stand text named span e there =
    let found = head-of (head text) text named span refl e there in
    let place = subst (Place text found.0) found.3 (place-of text found.0 found.1) in
    subst (λ (named : Making). NameStands text named.path.name span) found.2 (stands-of text found.0 span place)

-- a name with its backquotes doubled ends where the closing one stands
closes-here : (rest : List ℕ) → begins_quoted rest ≡ false → closing 96 (96 ∷ rest) ≡ Some 1
closes-here [] e = refl
closes-here (next ∷ rest) e = let other : (next == 96) ≡ false = e in rw other refl

and-false : (test : Bool) → (test && false) ≡ false
and-false true = refl
and-false false = refl

closing-plain : (byte : ℕ) (bytes : List ℕ) → (byte == 96) ≡ false → 1 ≤ length bytes → closing 96 (byte ∷ bytes) ≡ more 1 (closing 96 bytes)
closing-plain byte [] e some = absurd (omega arith)
closing-plain byte (next ∷ bytes) e some = rw e (ap (λ (test : Bool). cond test (more 2 (closing 96 bytes)) (more 1 (closing 96 (next ∷ bytes)))) (and-false (byte == 92)))

closing-byte : (test : Bool) (byte : ℕ) (name rest : List ℕ) → (byte == 96) ≡ test → closing 96 (name ++ (96 ∷ rest)) ≡ Some (suc (length name)) → closing 96 ((cond test (96 ∷ 96 ∷ []) (byte ∷ []) ++ name) ++ (96 ∷ rest)) ≡ Some (suc (length (cond test (96 ∷ 96 ∷ []) (byte ∷ []) ++ name)))
closing-byte true byte name rest e closed = ap (more 2) closed ∙ ap (λ (n : ℕ). Some n) (omega arith)
closing-byte false byte name rest e closed =
    let some : 1 ≤ length (name ++ (96 ∷ rest)) = omega (arith, length-append name (96 ∷ rest)) in
    closing-plain byte (name ++ (96 ∷ rest)) e some ∙ ap (more 1) closed ∙ ap (λ (n : ℕ). Some n) (omega arith)

closing-name : (name rest : List ℕ) → begins_quoted rest ≡ false → closing 96 (flat_map name_byte name ++ (96 ∷ rest)) ≡ Some (suc (length (flat_map name_byte name)))
closing-name [] rest e = closes-here rest e
closing-name (byte ∷ name) rest e = closing-byte (byte == 96) byte (flat_map name_byte name) rest refl (closing-name name rest e)

take-front : (front rest : List ℕ) → take (length front) (front ++ rest) ≡ front
take-front [] rest = refl
take-front (byte ∷ front) rest = ap (λ (left : List ℕ). byte ∷ left) (take-front front rest)

quoted-tokens : (name rest : List ℕ) → closing 96 (name ++ (96 ∷ rest)) ≡ Some (suc (length name)) → tokens (96 ∷ (name ++ (96 ∷ rest))) ≡ quoted_token name ∷ tokens rest
quoted-tokens name rest closed =
    let text = name ++ (96 ∷ rest) in
    let one : suc (length name) - 1 ≡ length name = omega arith in
    let size : suc (length name) ≡ length name + 1 = omega arith in
    tokens-cons 96 text
    ∙ ap (λ (end : Option ℕ). (quoted_lexeme 96 text end).token ∷ tokens (drop (quoted_lexeme 96 text end).size (96 ∷ text))) closed
    ∙ ap (λ (spelled : List ℕ). quoted_token spelled ∷ tokens (drop (suc (length name)) text)) (ap (λ (n : ℕ). take n text) one ∙ take-front name (96 ∷ rest))
    ∙ ap (λ (left : List ℕ). quoted_token name ∷ tokens left) (ap (λ (n : ℕ). drop n text) size ∙ drop-append-add name (96 ∷ rest) 1)

replaced-tokens : (text name : List ℕ) (found : Found Making) (span : Span) (place : Place text found span) → begins_quoted (after_place text span) ≡ false → tokens (replaced text span (quoted_name name)) ≡ place.named.front ++ (quoted_token (flat_map name_byte name) ∷ found.rest)
replaced-tokens text name found span place apart =
    let front = take span.before text in
    let rest = after_place text span in
    let spelled = flat_map name_byte name in
    let stops : LastStops 96 (tokens front) = subst (LastStops 96) (sym place.front) place.named.stops in
    ap tokens (append_assoc front (quoted_name name) rest)
    ∙ ap (λ (left : List ℕ). tokens (front ++ (96 ∷ left))) (append_assoc spelled (96 ∷ []) rest)
    ∙ tokens-joined front 96 (spelled ++ (96 ∷ rest)) stops
    ∙ ap (λ (all : List Token). tokens front ++ all) (quoted-tokens spelled rest (closing-name name rest apart))
    ∙ ap (λ (before : List Token). before ++ (quoted_token spelled ∷ tokens rest)) place.front
    ∙ ap (λ (after : List Token). place.named.front ++ (quoted_token spelled ∷ after)) (ap tokens (after-is text place.here span place.at) ∙ place.after)

value_in : Option (Found Making) → Option Making
value_in found = option_map (λ (found : Found Making). found.value) found

pub names-replaced : NamesAreReplaced
unfolding value_in
names-replaced text name named span e there apart =
    let found = head-of (head text) text named span refl e there in
    let place = subst (Place text found.0) found.3 (place-of text found.0 found.1) in
    let spelled = flat_map name_byte name in
    let same : making (replaced text span (quoted_name name)) ≡ Some (renamed found.0.value spelled) =
    ap (λ (all : List Token). value_in (head_in all)) (replaced-tokens text name found.0 span place apart) ∙ ap value_in (place.named.renames spelled) in
    subst (λ (named : Making). making (replaced text span (quoted_name name)) ≡ Some (renamed named spelled)) found.2 same

-- after the end of a name between backquotes no backquote comes
abbrev EndsApart : List ℕ → Option ℕ → Type 0
EndsApart bytes None = Unit {0}
EndsApart bytes (Some size) = begins_quoted (drop size bytes) ≡ false

more-apart : (k : ℕ) (bytes rest : List ℕ) (size : Option ℕ) → drop k bytes ≡ rest → EndsApart rest size → EndsApart bytes (more k size)
more-apart k bytes rest None e apart = tt
more-apart k bytes rest (Some size) e apart = ap begins_quoted (sym (drop-drop size k bytes) ∙ ap (drop size) e) ∙ apart

closing-apart : (bytes : List ℕ) → EndsApart bytes (closing 96 bytes)
closing-apart [] = tt
closing-apart (byte ∷ []) = cond_by (EndsApart (byte ∷ [])) (byte == 96) _ _ (λ e. refl) (λ e. tt)
closing-apart (byte ∷ next ∷ bytes) =
    let P : Option ℕ → Type 0 = EndsApart (byte ∷ next ∷ bytes) in
    let both = more-apart 2 (byte ∷ next ∷ bytes) bytes (closing 96 bytes) refl (closing-apart bytes) in
    let one = more-apart 1 (byte ∷ next ∷ bytes) (next ∷ bytes) (closing 96 (next ∷ bytes)) refl (closing-apart (next ∷ bytes)) in
    cond_by P (byte == 96) _ _
    (λ e. cond_by P (next == 96) _ _ (λ f. both) (λ f. f))
    (λ e. cond_by P (byte == 92 && not (96 == 96)) _ _ (λ f. both) (λ f. one))

quoted-apart : (bytes : List ℕ) (token : Token) (size : Option ℕ) → EndsApart bytes size → (quoted_lexeme 96 bytes size).token ≡ token → name_of token ≡ None ⊎ (begins_quoted (drop (quoted_lexeme 96 bytes size).size (96 ∷ bytes)) ≡ false)
quoted-apart bytes token None apart e = inl (ap name_of (sym e))
quoted-apart bytes token (Some size) apart e = inr apart

-- a first token that is a name between backquotes has no backquote after it
name-apart : (text : List ℕ) (name : List ℕ) → name_of (first_token text).token ≡ Some name → begins_quoted text ≡ true → begins_quoted (drop (first_token text).size text) ≡ false
name-apart [] name e begins = absurd (cc)
name-apart (byte ∷ bytes) name e begins =
    let quote : byte ≡ 96 = eqb-true byte 96 begins in
    let P : ℕ → Type 0 = λ byte. name_of (first_token (byte ∷ bytes)).token ≡ Some name → begins_quoted (drop (first_token (byte ∷ bytes)).size (byte ∷ bytes)) ≡ false in
    subst P (sym quote) (λ named. ⊎_elim (λ none. absurd (cc)) (λ apart. apart) (quoted-apart bytes (first_token (96 ∷ bytes)).token (closing 96 bytes) (closing-apart bytes) refl)) e

begins-take : (n : ℕ) (bytes : List ℕ) → begins_quoted (take n bytes) ≡ true → begins_quoted bytes ≡ true
begins-take zero bytes e = absurd (cc)
begins-take (suc n) [] e = absurd (cc)
begins-take (suc n) (byte ∷ bytes) e = e

apart-of : (text : List ℕ) (found : Found Making) (span : Span) → Place text found span → begins_quoted (in_place text span) ≡ true → begins_quoted (after_place text span) ≡ false
apart-of text found span place begins =
    let here = place.here in
    let quoted = begins-take span.size here (ap (λ (left : List ℕ). begins_quoted (take span.size left)) (sym place.at) ∙ begins) in
    let named : name_of (first_token here).token ≡ Some found.value.path.name = ap name_of place.first ∙ place.named.is_name in
    ap begins_quoted (after-is text here span place.at ∙ ap (λ (n : ℕ). drop n here) (sym place.size)) ∙ name-apart here found.value.path.name named quoted

span-of : (found : Option (Found Making)) (text : List ℕ) (span : Span) → head text ≡ found → option_map (λ (found : Found Making). token_span (count_before (tokens text) found.rest) text) found ≡ Some span → begins_quoted (in_place text span) ≡ true → begins_quoted (after_place text span) ≡ false
span-of None text span e there begins = absurd (cc)
span-of (Some found) text span e there begins =
    let place = subst (Place text found) (same_some there) (place-of text found e) in
    apart-of text found span place begins

pub quoted-names-end : QuotedNamesEnd
quoted-names-end text span there begins = span-of (head text) text span refl there begins
