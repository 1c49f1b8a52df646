-- Continuations that close what nothing ends, and give a text a head.
use Rattle.std.proofs.Common.{◌≡◌, ℕ, suc, zero, ◌+◌, ◌≤◌, ◌==◌, ◌&&◌, not, Bool, true, false, List, [], ◌∷◌, ◌++◌, length, drop, Option, Some, None, codes, refl, sym, ◌∙◌, ap, subst, ⊎_elim, arith, eq-eqb, eqb-true, length-drop, drop_of_length-le}
use Rattle.std.proofs.Math.Seq.{drop-append-add}
use Rattle.std.proofs.lemmas.List.{drop-append-le}
use Rattle.std.proofs.lemmas.Bool.{cases_lt}
use Rattle.object_forms.specs.declared.kind.Kind.{Kind}
use Rattle.object_forms.specs.declared.kind.Kind.TheVariants.{Table}
use Rattle.object_forms.specs.Head.{kind_in, kind_of}
use Rattle.object_forms.specs.Token.{Lexeme, Token, closing, comment_end, comment_lexeme, ends_comment, first_token, is_quote, is_word, is_word_byte, more, quoted_lexeme, slash_lexeme, tokens}
use Rattle.object_forms.specs.Token.Token.{comment, mark, quoted_name, string, unended, white, word}
use Rattle.sql_tokens.proofs.Cuts.{cond_both}
use Rattle.object_texts.proofs.Fronts.{first_token-append, first_token-break, is_ended, tokens-alike}
use Rattle.object_texts.proofs.HeadFronts.{EndsLast, Reaches, from_kind, word-ended}
use Rattle.object_texts.proofs.Longer.{IsBreak, other_quote}
use Rattle.sql_tokens.proofs.Tokens.{cond_by, first_token-fits, first_token_by, tokens-cons, tokens-nil}

both_false : (b : Bool) → (b && false) ≡ false
both_false true = refl
both_false false = refl

-- where there was no end, there is one now after so many bytes
abbrev Closed : ℕ → Option ℕ → Option ℕ → Type 0
Closed n again None = again ≡ Some n
Closed n again (Some size) = Unit {0}

more-closed : (k n m : ℕ) (again size : Option ℕ) → k + n ≡ m → Closed n again size → Closed m (more k again) (more k size)
more-closed k n m again None e holds = rw holds (ap Some e)
more-closed k n m again (Some size) e holds = tt

tail-one : (quote : ℕ) (rest : List ℕ) → (32 == quote) ≡ false → closing quote (quote ∷ 32 ∷ rest) ≡ Some 1
tail-one quote rest space = rw (eq-eqb quote quote refl, space) refl

tail-two : (quote : ℕ) (rest : List ℕ) → (120 == quote) ≡ false → (32 == quote) ≡ false → closing quote (120 ∷ quote ∷ 32 ∷ rest) ≡ Some 2
tail-two quote rest other space = rw other (ap (more 1) (tail-one quote rest space))

closing-closed : (quote : ℕ) (bytes rest : List ℕ) → (120 == quote) ≡ false → (32 == quote) ≡ false → Closed (length bytes + 2) (closing quote (bytes ++ (120 ∷ quote ∷ 32 ∷ rest))) (closing quote bytes)
closing-closed quote [] rest other space = tail-two quote rest other space
closing-closed quote (byte ∷ []) rest other space =
    let P : Option ℕ → Type 0 = λ again. again ≡ Some 3 in
    cond_both (Closed 3) (byte == quote) tt (cond_by P (byte == 92 && not (quote == 96)) _ _ (λ e. ap (more 2) (tail-one quote rest space)) (λ e. ap (more 1) (tail-two quote rest other space)))
closing-closed quote (byte ∷ next ∷ bytes) rest other space =
    let n = suc (suc (length bytes)) + 2 in
    let both = more-closed 2 (length bytes + 2) n (closing quote (bytes ++ (120 ∷ quote ∷ 32 ∷ rest))) (closing quote bytes) (omega arith) (closing-closed quote bytes rest other space) in
    cond_both (Closed n) (byte == quote)
    (cond_both (Closed n) (next == quote) both tt)
    (cond_both (Closed n) (byte == 92 && not (quote == 96)) both (more-closed 1 (suc (length bytes) + 2) n (closing quote (next ∷ bytes ++ (120 ∷ quote ∷ 32 ∷ rest))) (closing quote (next ∷ bytes)) (omega arith) (closing-closed quote (next ∷ bytes) rest other space)))

no_end : (byte : ℕ) → ends_comment byte 42 ≡ false
no_end byte = both_false (byte == 42)

comment_end-closed : (bytes rest : List ℕ) → Closed (length bytes + 2) (comment_end (bytes ++ (42 ∷ 47 ∷ rest))) (comment_end bytes)
comment_end-closed [] rest = refl
comment_end-closed (byte ∷ []) rest = rw (no_end byte) refl
comment_end-closed (byte ∷ next ∷ bytes) rest =
    let n = suc (suc (length bytes)) + 2 in
    cond_both (Closed n) (ends_comment byte next) tt (more-closed 1 (suc (length bytes) + 2) n (comment_end (next ∷ bytes ++ (42 ∷ 47 ∷ rest))) (comment_end (next ∷ bytes)) (omega arith) (comment_end-closed (next ∷ bytes) rest))

-- a text that nothing ends, closed: its token, and those after it
quote-closed : (byte : ℕ) (bytes rest : List ℕ) → is_word_byte byte ≡ false → is_quote byte ≡ true → closing byte bytes ≡ None → first_token (byte ∷ bytes ++ (120 ∷ byte ∷ 32 ∷ rest)) ≡ quoted_lexeme byte (bytes ++ (120 ∷ byte ∷ 32 ∷ rest)) (Some (length bytes + 2))
quote-closed byte bytes rest no_word quote none =
    let again : closing byte (bytes ++ (120 ∷ byte ∷ 32 ∷ rest)) ≡ Some (length bytes + 2) = subst (Closed (length bytes + 2) (closing byte (bytes ++ (120 ∷ byte ∷ 32 ∷ rest)))) none (closing-closed byte bytes rest (other_quote byte 120 quote refl) (other_quote byte 32 quote refl)) in
    rw (no_word, quote) (ap (quoted_lexeme byte (bytes ++ (120 ∷ byte ∷ 32 ∷ rest))) again)

pub quote-tokens : (byte : ℕ) (bytes rest : List ℕ) → is_word_byte byte ≡ false → is_quote byte ≡ true → closing byte bytes ≡ None → tokens (byte ∷ bytes ++ (120 ∷ byte ∷ 32 ∷ rest)) ≡ (quoted_lexeme byte (bytes ++ (120 ∷ byte ∷ 32 ∷ rest)) (Some (length bytes + 2))).token ∷ tokens (32 ∷ rest)
quote-tokens byte bytes rest no_word quote none =
    let text = bytes ++ (120 ∷ byte ∷ 32 ∷ rest) in
    tokens-cons byte text ∙ ap (λ (found : Lexeme). found.token ∷ tokens (drop found.size (byte ∷ text))) (quote-closed byte bytes rest no_word quote none)
    ∙ ap (λ (left : List ℕ). (quoted_lexeme byte text (Some (length bytes + 2))).token ∷ tokens left) (drop-append-add bytes (120 ∷ byte ∷ 32 ∷ rest) 2)

pub comment-tokens : (bytes rest : List ℕ) → comment_end bytes ≡ None → tokens (47 ∷ 42 ∷ bytes ++ (42 ∷ 47 ∷ 32 ∷ rest)) ≡ comment ∷ tokens (32 ∷ rest)
comment-tokens bytes rest none =
    let text = bytes ++ (42 ∷ 47 ∷ 32 ∷ rest) in
    let again : comment_end text ≡ Some (length bytes + 2) = subst (Closed (length bytes + 2) (comment_end text)) none (comment_end-closed bytes (32 ∷ rest)) in
    let first : first_token (47 ∷ 42 ∷ text) ≡ record { size = 2 + (length bytes + 2); token = comment } = ap (comment_lexeme (42 ∷ text)) again in
    let size : 2 + (length bytes + 2) ≡ suc (suc (length bytes + 2)) = omega arith in
    tokens-cons 47 (42 ∷ text) ∙ ap (λ (found : Lexeme). found.token ∷ tokens (drop found.size (47 ∷ 42 ∷ text))) first
    ∙ ap (λ (n : ℕ). comment ∷ tokens (drop n (47 ∷ 42 ∷ text))) size ∙ ap (λ (left : List ℕ). comment ∷ tokens left) (drop-append-add bytes (42 ∷ 47 ∷ 32 ∷ rest) 2)

-- what closes a text whose last token nothing ends: no kind comes of it
pub record Closer (text rest : List ℕ) : Type 0 where
  pub closes_with : List ℕ
  pub token : Token
  pub kind : kind_of token ≡ None
  pub tokens : tokens (text ++ (closes_with ++ (32 ∷ rest))) ≡ token ∷ tokens (32 ∷ rest)

quote-closer : (byte : ℕ) (bytes rest : List ℕ) (size : Option ℕ) → is_word_byte byte ≡ false → is_quote byte ≡ true → closing byte bytes ≡ size → (quoted_lexeme byte bytes size).token ≡ unended → Closer (byte ∷ bytes) rest
quote-closer byte bytes rest None no_word quote none e =
    let P : Token → Type 0 = λ token. kind_of token ≡ None in
    record {
      closes_with = 120 ∷ byte ∷ [];
      token = (quoted_lexeme byte (bytes ++ (120 ∷ byte ∷ 32 ∷ rest)) (Some (length bytes + 2))).token;
      kind = cond_by P (byte == 96) _ _ (λ e. refl) (λ e. refl);
      tokens = quote-tokens byte bytes rest no_word quote none;
    }
quote-closer byte bytes rest (Some size) no_word quote none e =
    let P : Token → Type 0 = λ token. token ≡ unended → Closer (byte ∷ bytes) rest in
    cond_by P (byte == 96) _ _ (λ a b. absurd (cc)) (λ a b. absurd (cc)) e

comment-closer : (bytes rest : List ℕ) (size : Option ℕ) → comment_end bytes ≡ size → (comment_lexeme (42 ∷ bytes) size).token ≡ unended → Closer (47 ∷ 42 ∷ bytes) rest
comment-closer bytes rest None none e = record { closes_with = 42 ∷ 47 ∷ []; token = comment; kind = refl; tokens = comment-tokens bytes rest none }
comment-closer bytes rest (Some size) none e = absurd (cc)

slash-closer : (bytes rest : List ℕ) → (slash_lexeme bytes).token ≡ unended → Closer (47 ∷ bytes) rest
slash-closer [] rest e = absurd (cc)
slash-closer (byte ∷ bytes) rest open_end =
    let P : Lexeme → Type 0 = λ found. found.token ≡ unended → Closer (47 ∷ byte ∷ bytes) rest in
    cond_by P (byte == 42) _ _
    (λ star e. let same : byte ≡ 42 = eqb-true byte 42 star in
    let Q : ℕ → Type 0 = λ byte. (comment_lexeme (byte ∷ bytes) (comment_end bytes)).token ≡ unended → Closer (47 ∷ byte ∷ bytes) rest in
    subst Q (sym same) (comment-closer bytes rest (comment_end bytes) refl) e)
    (λ star e. absurd (cc)) open_end

closer-of : (byte : ℕ) (bytes rest : List ℕ) → (first_token (byte ∷ bytes)).token ≡ unended → Closer (byte ∷ bytes) rest
closer-of byte bytes rest =
    first_token_by (λ found. found.token ≡ unended → Closer (byte ∷ bytes) rest) byte bytes
    (λ a e. absurd (cc))
    (λ a b. quote-closer byte bytes rest (closing byte bytes) a b refl)
    (λ a b c e. absurd (cc))
    (λ a b c d. let same : byte ≡ 47 = eqb-true byte 47 d in let Q : ℕ → Type 0 = λ byte. (slash_lexeme bytes).token ≡ unended → Closer (byte ∷ bytes) rest in subst Q (sym same) (slash-closer bytes rest))
    (λ a b c d e. absurd (cc))

-- a text goes on to the word TABLE and a name
pub record Opens (text : List ℕ) : Type 0 where
  pub more : List ℕ
  pub kinds : kind_in (tokens (text ++ more)) ≡ Some (record { value = Table; rest = tokens (codes " t") })

abbrev pub table : List ℕ
table = codes " table t"

pub opens-table : kind_in (tokens (codes " table t")) ≡ Some (record { value = Table; rest = tokens (codes " t") })
unfolding tokens
opens-table = refl

pub space-breaks : IsBreak 32
space-breaks = record { no_word = refl; no_quote = refl; no_star = refl }

no_kind : (found : Option Kind) (all : List Token) → from_kind found all ≡ None → (found ≡ None) × (kind_in all ≡ None)
no_kind None all e = (refl, e)
no_kind (Some kind) all e = absurd (cc)

unended-is : (token : Token) → is_ended token ≡ false → token ≡ unended
unended-is (word bytes) e = absurd (cc)
unended-is (quoted_name bytes) e = absurd (cc)
unended-is string e = absurd (cc)
unended-is white e = absurd (cc)
unended-is comment e = absurd (cc)
unended-is (mark byte) e = absurd (cc)
unended-is unended e = refl

kind_in-token : (token : Token) (all : List Token) → kind_of token ≡ None → kind_in (token ∷ all) ≡ kind_in all
kind_in-token token all e = ap (λ (found : Option Kind). from_kind found all) e

-- the last token of a text, and a continuation after it
opens-last : (first : ℕ) (bytes : List ℕ) (ended : Bool) → is_ended (first_token (first ∷ bytes)).token ≡ ended → length (first ∷ bytes) ≤ (first_token (first ∷ bytes)).size → kind_of (first_token (first ∷ bytes)).token ≡ None → Opens (first ∷ bytes)
opens-last first bytes true ended last none =
    let text = first ∷ bytes in
    let fits = first_token-fits first bytes in
    let same = first_token-break text 32 (codes "table t") space-breaks fits.some ended in
    let left : drop (first_token text).size (text ++ table) ≡ table = drop-append-le (first_token text).size text table fits.within ∙ ap (λ (rest : List ℕ). rest ++ table) (drop_of_length-le text last) in
    record { more = table; kinds = ap kind_in (tokens-alike (text ++ table) text table same fits.some left) ∙ kind_in-token (first_token text).token (tokens table) none ∙ opens-table }
opens-last first bytes false ended last none =
    let closer = closer-of first bytes (codes "table t") (unended-is (first_token (first ∷ bytes)).token ended) in
    record { more = closer.closes_with ++ table; kinds = ap kind_in closer.tokens ∙ kind_in-token closer.token (tokens table) closer.kind ∙ opens-table }

opens-within : (n : ℕ) (text : List ℕ) → length text ≤ n → kind_in (tokens text) ≡ None → Opens text
opens-within n [] within none = record { more = table; kinds = opens-table }
opens-within zero (first ∷ bytes) within none = absurd (omega arith)
opens-within (suc n) (first ∷ bytes) within none =
    let text = first ∷ bytes in
    let found = first_token text in
    let fits = first_token-fits first bytes in
    let after = drop found.size text in
    let split = no_kind (kind_of found.token) (tokens after) (sym (ap kind_in (tokens-cons first bytes)) ∙ none) in
    ⊎_elim
    (λ below.
    let opens = opens-within n after (omega (arith, length-drop found.size text, fits.some)) split.1 in
    let same = first_token-append text opens.more below in
    let left : drop found.size (text ++ opens.more) ≡ after ++ opens.more = drop-append-le found.size text opens.more fits.within in
    record { more = opens.more; kinds = ap kind_in (tokens-alike (text ++ opens.more) text (after ++ opens.more) same fits.some left) ∙ kind_in-token found.token (tokens (after ++ opens.more)) split.0 ∙ opens.kinds })
    (λ last. opens-last first bytes (is_ended found.token) refl last split.0)
    (cases_lt found.size (length text))

-- a text that begins with CREATE and has no kind goes on to one with a head
pub record Creates (text : List ℕ) : Type 0 where
  pub more : List ℕ
  pub reaches : Reaches (tokens (text ++ more)) (tokens (codes " t"))

pub creates-of : (token : Token) (all : List Token) → is_word (codes "create") token ≡ true → kind_in all ≡ Some (record { value = Table; rest = tokens (codes " t") }) → Reaches (token ∷ all) (tokens (codes " t"))
creates-of token all create kinds = record { created = all; kind = Table; after_kind = tokens (codes " t"); create = rw create refl; kinds = kinds; gaps = refl }

creates-last : (first : ℕ) (bytes : List ℕ) → is_ended (first_token (first ∷ bytes)).token ≡ true → is_word (codes "create") (first_token (first ∷ bytes)).token ≡ true → length (first ∷ bytes) ≤ (first_token (first ∷ bytes)).size → Creates (first ∷ bytes)
creates-last first bytes ended create last =
    let text = first ∷ bytes in
    let fits = first_token-fits first bytes in
    let same = first_token-break text 32 (codes "table t") space-breaks fits.some ended in
    let left : drop (first_token text).size (text ++ table) ≡ table = drop-append-le (first_token text).size text table fits.within ∙ ap (λ (rest : List ℕ). rest ++ table) (drop_of_length-le text last) in
    let P : List Token → Type 0 = λ all. Reaches all (tokens (codes " t")) in
    record { more = table; reaches = subst P (sym (tokens-alike (text ++ table) text table same fits.some left)) (creates-of (first_token text).token (tokens table) create opens-table) }

pub creates : (first : ℕ) (bytes : List ℕ) → is_word (codes "create") (first_token (first ∷ bytes)).token ≡ true → kind_in (tokens (drop (first_token (first ∷ bytes)).size (first ∷ bytes))) ≡ None → Creates (first ∷ bytes)
creates first bytes create none =
    let text = first ∷ bytes in
    let found = first_token text in
    let fits = first_token-fits first bytes in
    let after = drop found.size text in
    ⊎_elim
    (λ below.
    let opens = opens-within (length after) after (omega arith) none in
    let same = first_token-append text opens.more below in
    let left : drop found.size (text ++ opens.more) ≡ after ++ opens.more = drop-append-le found.size text opens.more fits.within in
    let P : List Token → Type 0 = λ all. Reaches all (tokens (codes " t")) in
    record { more = opens.more; reaches = subst P (sym (tokens-alike (text ++ opens.more) text (after ++ opens.more) same fits.some left)) (creates-of found.token (tokens (after ++ opens.more)) create opens.kinds) })
    (λ last. creates-last first bytes (word-ended (codes "create") found.token create) create last)
    (cases_lt found.size (length text))

quote-whole : (byte : ℕ) (bytes : List ℕ) (size : Option ℕ) → is_ended (quoted_lexeme byte bytes size).token ≡ false → suc (length bytes) ≤ (quoted_lexeme byte bytes size).size
quote-whole byte bytes None e = omega arith
quote-whole byte bytes (Some size) open_end =
    let P : Token → Type 0 = λ token. is_ended token ≡ false → suc (length bytes) ≤ suc size in
    cond_by P (byte == 96) _ _ (λ a e. absurd (cc)) (λ a e. absurd (cc)) open_end

comment-whole : (bytes : List ℕ) (size : Option ℕ) → is_ended (comment_lexeme bytes size).token ≡ false → suc (length bytes) ≤ (comment_lexeme bytes size).size
comment-whole bytes None e = omega arith
comment-whole bytes (Some size) e = absurd (cc)

slash-whole : (bytes : List ℕ) → is_ended (slash_lexeme bytes).token ≡ false → suc (length bytes) ≤ (slash_lexeme bytes).size
slash-whole [] e = absurd (cc)
slash-whole (byte ∷ bytes) open_end =
    let P : Lexeme → Type 0 = λ found. is_ended found.token ≡ false → suc (suc (length bytes)) ≤ found.size in
    cond_by P (byte == 42) _ _ (λ star. comment-whole (byte ∷ bytes) (comment_end bytes)) (λ star e. absurd (cc)) open_end

-- a token that nothing ends is the last
unended-whole : (first : ℕ) (bytes : List ℕ) → is_ended (first_token (first ∷ bytes)).token ≡ false → length (first ∷ bytes) ≤ (first_token (first ∷ bytes)).size
unended-whole first bytes =
    first_token_by (λ found. is_ended found.token ≡ false → suc (length bytes) ≤ found.size) first bytes
    (λ a e. absurd (cc))
    (λ a b. quote-whole first bytes (closing first bytes))
    (λ a b c e. absurd (cc))
    (λ a b c d. slash-whole bytes)
    (λ a b c d e. absurd (cc))

last-step : (token : Token) (all : List Token) → (1 ≤ length all → is_ended token ≡ true) → EndsLast all → EndsLast (token ∷ all)
last-step token [] ended last = tt
last-step token (next ∷ all) ended last = (ended (omega arith), last)

nothing-after : (text : List ℕ) → length text ≡ 0 → length (tokens text) ≡ 0
nothing-after [] e = ap length tokens-nil
nothing-after (byte ∷ bytes) e = absurd (omega arith)

ended-or : (ended : Bool) (token : Token) (all : List Token) → is_ended token ≡ ended → (is_ended token ≡ false → length all ≡ 0) → 1 ≤ length all → is_ended token ≡ true
ended-or true token all e whole some = e
ended-or false token all e whole some = absurd (omega (arith, whole e))

ends-last-within : (n : ℕ) (text : List ℕ) → length text ≤ n → EndsLast (tokens text)
ends-last-within n [] within = subst EndsLast (sym tokens-nil) tt
ends-last-within zero (first ∷ bytes) within = absurd (omega arith)
ends-last-within (suc n) (first ∷ bytes) within =
    let text = first ∷ bytes in
    let found = first_token text in
    let fits = first_token-fits first bytes in
    let after = drop found.size text in
    let shorter = length-drop found.size text in
    let none : is_ended found.token ≡ false → length (tokens after) ≡ 0 = λ e. let whole = unended-whole first bytes e in nothing-after after (omega arith) in
    subst EndsLast (sym (tokens-cons first bytes)) (last-step found.token (tokens after) (ended-or (is_ended found.token) found.token (tokens after) refl none) (ends-last-within n after (omega (arith, fits.some))))

pub ends-last : (text : List ℕ) → EndsLast (tokens text)
ends-last text = ends-last-within (length text) text (omega arith)
