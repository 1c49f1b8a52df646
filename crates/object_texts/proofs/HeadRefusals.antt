-- The places at which texts without a head are refused.
use Rattle.std.proofs.Common.{◌≡◌, ℕ, suc, zero, ◌+◌, ◌-◌, ◌<◌, ◌≤◌, ◌==◌, Bool, true, false, cond, List, [], ◌∷◌, ◌++◌, length, take, drop, Option, Some, None, is_some, codes, slice_index, refl, sym, ◌∙◌, ap, subst, arith, append_assoc, eqb-true}
use Rattle.std.proofs.Math.Seq.{take-add}
use Rattle.std.proofs.lemmas.List.{take_all}
use Rattle.grammar.specs.Language.{Begins, Refused}
use Rattle.std.specs.Option.{option_and_then}
use Rattle.object_forms.specs.declared.kind.Kind.{Kind}
use Rattle.object_forms.specs.Head.{Found, HasHead, after_token, head, kind_in, name_at, making_after}
use Rattle.object_texts.specs.Left.{name_place, place_in, token_reach}
use Rattle.plain_data.specs.Byte.{is_white}
use Rattle.object_forms.specs.Token.{Lexeme, Token, closing, comment_end, comment_lexeme, first_token, is_gap, is_quote, is_word, is_word_byte, past_gaps, quoted_lexeme, slash_lexeme, tokens}
use Rattle.object_forms.specs.Token.Token.{comment, mark, quoted_name, string, unended, white, word}
use Rattle.object_texts.proofs.Closers.{comment-tokens, creates, quote-tokens, space-breaks}
use Rattle.sql_tokens.proofs.Cuts.{parted}
use Rattle.object_texts.proofs.HeadPlaces.{Stands, alike-head, begins-with, break-head, has-head, head-of, is_created, none-created, refused-at}
use Rattle.object_texts.proofs.HeadFronts.{reaches-head}
use Rattle.object_texts.proofs.Longer.{IsBreak, cond_same}
use Rattle.sql_tokens.proofs.Tokens.{first_token_by, tokens-cons, tokens-nil}

slash-breaks : IsBreak 47
slash-breaks = record { no_word = refl; no_quote = refl; no_star = refl }

-- no name comes of a text that begins so
abbrev NoName : List ℕ → Type 0
NoName text = is_some (name_at (past_gaps (tokens text))) ≡ false

by-first : (byte : ℕ) (bytes : List ℕ) (found : Lexeme) → first_token (byte ∷ bytes) ≡ found → ((others : List Token) → is_some (name_at (past_gaps (found.token ∷ others))) ≡ false) → NoName (byte ∷ bytes)
by-first byte bytes found e none = ap (λ (all : List Token). is_some (name_at (past_gaps all))) (tokens-cons byte bytes ∙ ap (λ (first : Lexeme). first.token ∷ tokens (drop first.size (byte ∷ bytes))) e) ∙ none (tokens (drop found.size (byte ∷ bytes)))

quoted-no_name : (quote : ℕ) (bytes : List ℕ) (size : Option ℕ) → (quote == 96) ≡ false → (others : List Token) → is_some (name_at (past_gaps ((quoted_lexeme quote bytes size).token ∷ others))) ≡ false
quoted-no_name quote bytes None other others = refl
quoted-no_name quote bytes (Some size) other others = rw other refl

string-no_name : (byte : ℕ) → is_word_byte byte ≡ false → is_quote byte ≡ true → (byte == 96) ≡ false → (bytes : List ℕ) → NoName (byte ∷ bytes)
string-no_name byte no_word quote other bytes = by-first byte bytes (quoted_lexeme byte bytes (closing byte bytes)) (rw (no_word, quote) refl) (quoted-no_name byte bytes (closing byte bytes) other)

mark-no_name : (byte : ℕ) → is_word_byte byte ≡ false → is_quote byte ≡ false → is_white byte ≡ false → (byte == 47) ≡ false → (bytes : List ℕ) → NoName (byte ∷ bytes)
mark-no_name byte no_word no_quote no_white no_slash bytes = by-first byte bytes (record { size = 1; token = mark byte }) (rw (no_word, no_quote, no_white, no_slash) refl) (λ others. refl)

slash-no_name : (next : ℕ) → (next == 42) ≡ false → (bytes : List ℕ) → NoName (47 ∷ next ∷ bytes)
slash-no_name next no_star bytes = by-first 47 (next ∷ bytes) (record { size = 1; token = mark 47 }) (rw no_star refl) (λ others. refl)

pub name-comes : is_some (name_at (past_gaps (tokens (codes " t")))) ≡ true
unfolding tokens
name-comes = refl

slashed-name : is_some (name_at (past_gaps (tokens (codes "/**/ t")))) ≡ true
unfolding tokens
slashed-name = refl

none-where : (found : Option ℕ) → found ≡ None → is_some found ≡ false
none-where found e = ap is_some e

front-more : (n : ℕ) (byte : ℕ) (bytes more : List ℕ) → 1 ≤ n → take n (byte ∷ bytes) ++ more ≡ byte ∷ (take (n - 1) bytes ++ more)
front-more zero byte bytes more some = absurd (omega arith)
front-more (suc n) byte bytes more some = let e : suc n - 1 ≡ n = omega arith in rw e refl

two-more : (n : ℕ) (byte next : ℕ) (bytes more : List ℕ) → 2 ≤ n → take n (byte ∷ next ∷ bytes) ++ more ≡ byte ∷ next ∷ (take (n - 2) bytes ++ more)
two-more zero byte next bytes more some = absurd (omega arith)
two-more (suc zero) byte next bytes more some = absurd (omega arith)
two-more (suc (suc n)) byte next bytes more some = let e : suc (suc n) - 2 ≡ n = omega arith in rw e refl

module _ {text rest : List ℕ} (stands : Stands text rest) (none : is_some (head text) ≡ false) where
  place : ℕ
  place = length text - length rest

  within : length rest ≤ length text
  within = (parted text rest stands.left).within

  -- the text goes along up to there
  begins-there : Begins HasHead (take (length text - length rest) text)
  begins-there = begins-with (take (length text - length rest) text) (codes " t") (break-head stands 32 (codes "t") space-breaks ∙ name-comes)

  -- no name comes of the byte that stands there
  pub refused-there : ((n : ℕ) → length text - length rest < n → n ≤ length text → (more : List ℕ) → NoName (take (n - (length text - length rest)) rest ++ more)) → Refused HasHead text (length text - length rest)
  refused-there no_name = refused-at text (length text - length rest) (omega arith) none begins-there (λ n below fits more. alike-head stands n more below fits ∙ no_name n below fits more)

  -- a name comes of all that stands there, if it goes on so
  pub refused-end : (more : List ℕ) → 1 ≤ length rest → is_some (name_at (past_gaps (tokens (rest ++ more)))) ≡ true → Refused HasHead text (length text)
  refused-end more some comes =
      let fits = (parted text rest stands.left).within in
      let below : length text - length rest < length text = omega arith in
      let left : take (length text - (length text - length rest)) rest ≡ rest = take_all (length text - (length text - length rest)) rest (omega arith) in
      let ends : is_some (head (take (length text) text ++ more)) ≡ true = alike-head stands (length text) more below (omega arith) ∙ ap (λ (bytes : List ℕ). is_some (name_at (past_gaps (tokens (bytes ++ more))))) left ∙ comes in
      refused-at text (length text) (omega arith) none (begins-with (take (length text) text) more ends) (λ n above within more. absurd (omega arith))

-- a byte of which no name comes
refused-byte : (text bytes : List ℕ) (byte : ℕ) → Stands text (byte ∷ bytes) → is_some (head text) ≡ false → ((others : List ℕ) → NoName (byte ∷ others)) → Refused HasHead text (length text - length (byte ∷ bytes) + 0)
refused-byte text bytes byte stands none no_name =
    let same : length text - length (byte ∷ bytes) + 0 ≡ length text - length (byte ∷ bytes) = omega arith in
    rw same (refused-there stands none (λ n below fits more.
    let at = n - (length text - length (byte ∷ bytes)) in
    let some : 1 ≤ at = omega arith in
    subst NoName (sym (front-more at byte bytes more some)) (no_name (take (at - 1) bytes ++ more))))

-- nothing stands there
refused-nil : (text : List ℕ) → Stands text [] → is_some (head text) ≡ false → Refused HasHead text (length text - 0 + 0)
refused-nil text stands none =
    let same : length text - 0 + 0 ≡ length text - 0 = omega arith in
    rw same (refused-there stands none (λ n below fits more. absurd (omega arith)))

-- a slash that begins no comment
refused-slash : (text bytes : List ℕ) → Stands text (47 ∷ bytes) → is_some (head text) ≡ false → ((n : ℕ) → 2 ≤ n → n ≤ suc (length bytes) → (more : List ℕ) → NoName (take n (47 ∷ bytes) ++ more)) → Refused HasHead text (length text - length (47 ∷ bytes) + 1)
refused-slash text bytes stands none no_name =
    let rest = 47 ∷ bytes in
    let place = length text - length rest in
    let parts = parted text rest stands.left in
    let front : take (place + 1) text ≡ take place text ++ (47 ∷ []) = take-add place 1 text ∙ ap (λ (left : List ℕ). take place text ++ take 1 left) parts.after in
    let more = codes "**/ t" in
    let joined : take (place + 1) text ++ more ≡ take place text ++ codes "/**/ t" = ap (λ (bytes : List ℕ). bytes ++ more) front ∙ append_assoc (take place text) (47 ∷ []) more in
    let begins : is_some (head (take (place + 1) text ++ more)) ≡ true = ap (λ (bytes : List ℕ). is_some (head bytes)) joined ∙ break-head stands 47 (codes "**/ t") slash-breaks ∙ slashed-name in
    refused-at text (place + 1) (omega (arith, parts.within)) none (begins-with (take (place + 1) text) more begins) (λ n below fits more. alike-head stands n more (omega arith) fits ∙ no_name (n - place) (omega arith) (omega (arith, parts.within)) more)

some-is : (n m : ℕ) → Some n ≡ Some m → n ≡ m
some-is n m e = cc

none-some : (n : ℕ) → Some n ≡ None → ⊥
none-some n e = cc

past-of : (gap : Bool) (token : Token) (others : List Token) → length (past_gaps others) ≤ length others → length (cond gap (past_gaps others) (token ∷ others)) ≤ suc (length others)
past-of true token others below = omega arith
past-of false token others below = omega arith

past-le : (all : List Token) → length (past_gaps all) ≤ length all
past-le [] = omega arith
past-le (token ∷ others) = past-of (is_gap token) token others (past-le others)

gap-first : (gap : Bool) (token : Token) (others : List Token) → is_gap token ≡ gap → cond gap (past_gaps others) (token ∷ others) ≡ token ∷ others → is_gap token ≡ false
gap-first true token others e same = absurd (omega (arith, ap length same, past-le others))
gap-first false token others e same = e

-- the first token that stands there is no gap
first-no_gap : {text : List ℕ} (byte : ℕ) (bytes : List ℕ) → Stands text (byte ∷ bytes) → is_gap (first_token (byte ∷ bytes)).token ≡ false
first-no_gap byte bytes stands =
    let found = first_token (byte ∷ bytes) in
    let whole = tokens-cons byte bytes in
    gap-first (is_gap found.token) found.token (tokens (drop found.size (byte ∷ bytes))) refl (sym (ap past_gaps whole) ∙ stands.gapless ∙ whole)

-- where a text stands that begins so, it is refused after so many bytes more
abbrev RefusedBy : List ℕ → List ℕ → ℕ → Type 0
RefusedBy text rest n = Refused HasHead text (length text - length rest + n)

refused-whole : (text rest more : List ℕ) (n : ℕ) → n ≡ length rest → Stands text rest → is_some (head text) ≡ false → 1 ≤ length rest → is_some (name_at (past_gaps (tokens (rest ++ more)))) ≡ true → RefusedBy text rest n
refused-whole text rest more n e stands none some comes =
    let fits = (parted text rest stands.left).within in
    let same : length text - length rest + n ≡ length text = omega arith in
    rw same (refused-end stands none more some comes)

no_slash : (byte : ℕ) → is_quote byte ≡ true → (byte == 47) ≡ false
no_slash byte quote = cond_same (byte == 47) (λ e. let same : byte ≡ 47 = eqb-true byte 47 e in cc (ap is_quote same))

quote-refused : (text bytes : List ℕ) (byte n : ℕ) (size : Option ℕ) (name : Bool) → Stands text (byte ∷ bytes) → is_some (head text) ≡ false → is_word_byte byte ≡ false → is_quote byte ≡ true → closing byte bytes ≡ size → (byte == 96) ≡ name → Some n ≡ token_reach byte (suc (length bytes)) (quoted_lexeme byte bytes size).token → RefusedBy text (byte ∷ bytes) n
quote-refused text bytes byte n None true stands none no_word quote size name place =
    let all : n ≡ suc (length bytes) = some-is n (suc (length bytes)) (place ∙ rw name refl) in
    let comes : is_some (name_at (past_gaps (tokens (byte ∷ bytes ++ (120 ∷ byte ∷ 32 ∷ codes "t"))))) ≡ true = ap (λ (all : List Token). is_some (name_at (past_gaps all))) (quote-tokens byte bytes (codes "t") no_word quote size) ∙ rw name refl in
    refused-whole text (byte ∷ bytes) (120 ∷ byte ∷ 32 ∷ codes "t") n all stands none (omega arith) comes
quote-refused text bytes byte n None false stands none no_word quote size name place =
    let zero_is : n ≡ 0 = some-is n 0 (place ∙ rw (name, no_slash byte quote) refl) in
    rw zero_is (refused-byte text bytes byte stands none (string-no_name byte no_word quote name))
quote-refused text bytes byte n (Some size) true stands none no_word quote found name place = absurd (none-some n (place ∙ rw name refl))
quote-refused text bytes byte n (Some size) false stands none no_word quote found name place =
    let zero_is : n ≡ 0 = some-is n 0 (place ∙ rw name refl) in
    rw zero_is (refused-byte text bytes byte stands none (string-no_name byte no_word quote name))

comment-refused : (text : List ℕ) (n : ℕ) (bytes : List ℕ) (size : Option ℕ) → comment_end bytes ≡ size → Stands text (47 ∷ 42 ∷ bytes) → is_some (head text) ≡ false → is_gap (comment_lexeme (42 ∷ bytes) size).token ≡ false → Some n ≡ token_reach 47 (suc (suc (length bytes))) (comment_lexeme (42 ∷ bytes) size).token → RefusedBy text (47 ∷ 42 ∷ bytes) n
comment-refused text n bytes None size stands none no_gap place =
    let all : n ≡ suc (suc (length bytes)) = some-is n (suc (suc (length bytes))) place in
    let comes : is_some (name_at (past_gaps (tokens (47 ∷ 42 ∷ bytes ++ (42 ∷ 47 ∷ 32 ∷ codes "t"))))) ≡ true = ap (λ (all : List Token). is_some (name_at (past_gaps all))) (comment-tokens bytes (codes "t") size) ∙ name-comes in
    refused-whole text (47 ∷ 42 ∷ bytes) (42 ∷ 47 ∷ 32 ∷ codes "t") n all stands none (omega arith) comes
comment-refused text n bytes (Some size) found stands none no_gap place = absurd (cc)

next-refused : (text : List ℕ) (n next : ℕ) (bytes : List ℕ) (star : Bool) → (next == 42) ≡ star → Stands text (47 ∷ next ∷ bytes) → is_some (head text) ≡ false → is_gap (slash_lexeme (next ∷ bytes)).token ≡ false → Some n ≡ token_reach 47 (suc (suc (length bytes))) (slash_lexeme (next ∷ bytes)).token → RefusedBy text (47 ∷ next ∷ bytes) n
next-refused text n next bytes true star =
    let same : next ≡ 42 = eqb-true next 42 star in
    let P : ℕ → Type 0 = λ next. Stands text (47 ∷ next ∷ bytes) → is_some (head text) ≡ false → is_gap (slash_lexeme (next ∷ bytes)).token ≡ false → Some n ≡ token_reach 47 (suc (suc (length bytes))) (slash_lexeme (next ∷ bytes)).token → RefusedBy text (47 ∷ next ∷ bytes) n in
    subst P (sym same) (comment-refused text n bytes (comment_end bytes) refl)
next-refused text n next bytes false star = λ stands none no_gap place.
    let lexeme : slash_lexeme (next ∷ bytes) ≡ record { size = 1; token = mark 47 } = rw star refl in
    let one : n ≡ 1 = some-is n 1 (place ∙ ap (λ (found : Lexeme). token_reach 47 (suc (suc (length bytes))) found.token) lexeme) in
    rw one (refused-slash text (next ∷ bytes) stands none (λ n some fits more. subst NoName (sym (two-more n 47 next bytes more some)) (slash-no_name next star (take (n - 2) bytes ++ more))))

slash-refused : (text : List ℕ) (n : ℕ) (bytes : List ℕ) → Stands text (47 ∷ bytes) → is_some (head text) ≡ false → is_gap (slash_lexeme bytes).token ≡ false → Some n ≡ token_reach 47 (suc (length bytes)) (slash_lexeme bytes).token → RefusedBy text (47 ∷ bytes) n
slash-refused text n [] stands none no_gap place =
    let one : n ≡ 1 = some-is n 1 place in
    rw one (refused-slash text [] stands none (λ n some fits more. absurd (omega arith)))
slash-refused text n (next ∷ bytes) stands none no_gap place = next-refused text n next bytes (next == 42) refl stands none no_gap place

byte-refused : (text : List ℕ) (byte n : ℕ) (bytes : List ℕ) → Stands text (byte ∷ bytes) → is_some (head text) ≡ false → is_gap (first_token (byte ∷ bytes)).token ≡ false → Some n ≡ token_reach byte (suc (length bytes)) (first_token (byte ∷ bytes)).token → RefusedBy text (byte ∷ bytes) n
byte-refused text byte n bytes stands none =
    first_token_by (λ found. is_gap found.token ≡ false → Some n ≡ token_reach byte (suc (length bytes)) found.token → RefusedBy text (byte ∷ bytes) n) byte bytes
    (λ a no_gap place. absurd (none-some n place))
    (λ a b no_gap place. quote-refused text bytes byte n (closing byte bytes) (byte == 96) stands none a b refl refl place)
    (λ a b c no_gap place. absurd (cc))
    (λ a b c d.
    let same : byte ≡ 47 = eqb-true byte 47 d in
    let P : ℕ → Type 0 = λ byte. Stands text (byte ∷ bytes) → is_gap (slash_lexeme bytes).token ≡ false → Some n ≡ token_reach byte (suc (length bytes)) (slash_lexeme bytes).token → RefusedBy text (byte ∷ bytes) n in
    subst P (sym same) (λ stands no_gap place. slash-refused text n bytes stands none no_gap place) stands)
    (λ a b c d no_gap place. let zero_is : n ≡ 0 = some-is n 0 (place ∙ rw d refl) in rw zero_is (refused-byte text bytes byte stands none (mark-no_name byte a b c d)))

place-none : (byte size n : ℕ) (all : List Token) → Some n ≡ place_in byte size all → is_some (name_at all) ≡ false
place-none byte size n [] e = refl
place-none byte size n (word bytes ∷ all) e = absurd (none-some n e)
place-none byte size n (quoted_name bytes ∷ all) e = absurd (none-some n e)
place-none byte size n (string ∷ all) e = refl
place-none byte size n (white ∷ all) e = refl
place-none byte size n (comment ∷ all) e = refl
place-none byte size n (mark other ∷ all) e = refl
place-none byte size n (unended ∷ all) e = refl

place-some : (byte size : ℕ) (all : List Token) → None ≡ place_in byte size all → is_some (name_at all) ≡ true
place-some byte size [] e = absurd (cc)
place-some byte size (word bytes ∷ all) e = refl
place-some byte size (quoted_name bytes ∷ all) e = refl
place-some byte size (string ∷ all) e = absurd (cc)
place-some byte size (white ∷ all) e = absurd (cc)
place-some byte size (comment ∷ all) e = absurd (cc)
place-some byte size (mark other ∷ all) e = absurd (cc)
place-some byte size (unended ∷ all) e = absurd (cc)

-- where no name stands the text is refused, so many bytes after
pub stands-refused : (text rest : List ℕ) (n : ℕ) → Stands text rest → Some n ≡ name_place rest → Refused HasHead text (length text - length rest + n)
stands-refused text [] n stands place =
    let none = head-of stands ∙ place-none 0 0 n (tokens []) place in
    let zero_is : n ≡ 0 = some-is n 0 (place ∙ ap (place_in 0 0) tokens-nil) in
    rw zero_is (refused-nil text stands none)
stands-refused text (byte ∷ bytes) n stands place =
    let none = head-of stands ∙ place-none byte (suc (length bytes)) n (tokens (byte ∷ bytes)) place in
    byte-refused text byte n bytes stands none (first-no_gap byte bytes stands) (place ∙ ap (place_in byte (suc (length bytes))) (tokens-cons byte bytes))

-- where one stands the text has a head
pub stands-named : (text rest : List ℕ) → Stands text rest → None ≡ name_place rest → HasHead text
stands-named text rest stands place = has-head text (head-of stands ∙ place-some (slice_index rest 0) (length rest) (tokens rest) place)

-- where no kind comes after CREATE, the text goes along to its end
created-first : (first : ℕ) (bytes created : List ℕ) → Some (tokens created) ≡ after_token (is_word (codes "create")) (tokens (first ∷ bytes)) → created ≡ drop (first_token (first ∷ bytes)).size (first ∷ bytes) → None ≡ kind_in (tokens created) → Refused HasHead (first ∷ bytes) (length (first ∷ bytes))
created-first first bytes created create at none =
    let text = first ∷ bytes in
    let word = is_created first bytes created (sym create) in
    let goes_on = creates first bytes word (sym (ap (λ (left : List ℕ). kind_in (tokens left)) at) ∙ sym none) in
    let no_head : is_some (head text) ≡ false =
    ap (λ (created : Option (List Token)). is_some (option_and_then making_after (option_and_then kind_in created))) (sym create)
    ∙ ap (λ (kind : Option (Found Kind)). is_some (option_and_then making_after kind)) (sym none) in
    let whole : take (length text) text ++ goes_on.more ≡ text ++ goes_on.more = ap (λ (bytes : List ℕ). bytes ++ goes_on.more) (take_all (length text) text (omega arith)) in
    let begins : is_some (head (take (length text) text ++ goes_on.more)) ≡ true = ap (λ (bytes : List ℕ). is_some (head bytes)) whole ∙ reaches-head (tokens (text ++ goes_on.more)) (tokens (codes " t")) goes_on.reaches ∙ name-comes in
    refused-at text (length text) (omega arith) no_head (begins-with (take (length text) text) goes_on.more begins) (λ n above within more. absurd (omega arith))

pub created-refused : (text created : List ℕ) → Some (tokens created) ≡ after_token (is_word (codes "create")) (tokens text) → created ≡ drop (first_token text).size text → None ≡ kind_in (tokens created) → Refused HasHead text (length text)
created-refused [] created create at none = absurd (none-created created (sym create))
created-refused (first ∷ bytes) created create at none = created-first first bytes created create at none
