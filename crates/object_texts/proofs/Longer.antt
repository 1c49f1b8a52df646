-- A first token that ends before the end of a text, or before a byte that no token goes on with, stays the same however the text goes on.
use Rattle.std.proofs.Common.{◌≡◌, ◌⊎◌, ℕ, suc, ◌+◌, ◌-◌, ◌<◌, ◌≤◌, ◌==◌, ◌&&◌, ◌||◌, not, Bool, true, false, cond, List, [], ◌∷◌, ◌++◌, length, take, Option, Some, None, inl, inr, refl, ap, ⊎_elim, arith, eqb-true}
use Rattle.std.specs.List.{prefix_len}
use Rattle.std.proofs.lemmas.List.{take-append-le}
use Rattle.std.proofs.lemmas.List.Sums.{prefix_len-le-length}
use Rattle.plain_data.specs.Byte.{is_white}
use Rattle.object_forms.specs.Token.{Lexeme, Token, closing, comment_end, comment_lexeme, ends_comment, first_token, is_quote, is_word_byte, more, quoted_lexeme, slash_lexeme, word_lexeme}
use Rattle.object_forms.specs.Token.Token.{comment, mark, quoted_name, string, unended, white, word}
use Rattle.sql_tokens.proofs.Cuts.{cond_both}
use Rattle.sql_tokens.proofs.Tokens.{EndsWithin, closing-within}

pub cond_same : (b : Bool) → (b ≡ true → ⊥) → b ≡ false
cond_same true never = absurd (never refl)
cond_same false never = refl

quote_or_not : {A B : Type 0} (R : A → B → Type 0) (test : Bool) {x y : A} {v w : B} → (test ≡ true → R x v) → R y w → R (cond test x y) (cond test v w)
quote_or_not R true a b = a refl
quote_or_not R false a b = b

-- the end that was found is found again, where it lies before that place or the fact holds
abbrev Again : Type 0 → ℕ → Option ℕ → Option ℕ → Type 0
Again E n again None = Unit {0}
Again E n again (Some size) = (size < n) ⊎ E → again ≡ Some size

more-again : (E : Type 0) (k n m : ℕ) (again size : Option ℕ) → k + n ≡ m → Again E n again size → Again E m (more k again) (more k size)
more-again E k n m again None e holds = tt
more-again E k n m again (Some size) e holds = λ apart. let nearer : (size < n) ⊎ E = ⊎_elim (λ below. inl (omega arith)) (λ fact. inr fact) apart in rw (holds nearer) refl

closing-longer : (quote : ℕ) (bytes : List ℕ) (byte : ℕ) (rest : List ℕ) → Again ((byte == quote) ≡ false) (length bytes) (closing quote (bytes ++ (byte ∷ rest))) (closing quote bytes)
closing-longer quote [] byte rest = tt
closing-longer quote (first ∷ []) byte rest =
    let E = (byte == quote) ≡ false in
    cond_both (Again E 1) (first == quote) (λ apart. ⊎_elim (λ below. absurd (omega arith)) (λ e. rw e refl) apart) tt
closing-longer quote (first ∷ next ∷ bytes) byte rest =
    let E = (byte == quote) ≡ false in
    let n = suc (suc (length bytes)) in
    let both = more-again E 2 (length bytes) n (closing quote (bytes ++ (byte ∷ rest))) (closing quote bytes) (omega arith) (closing-longer quote bytes byte rest) in
    cond_both (Again E n) (first == quote)
    (cond_both (Again E n) (next == quote) both (λ apart. refl))
    (cond_both (Again E n) (first == 92 && not (quote == 96)) both (more-again E 1 (suc (length bytes)) n (closing quote (next ∷ bytes ++ (byte ∷ rest))) (closing quote (next ∷ bytes)) (omega arith) (closing-longer quote (next ∷ bytes) byte rest)))

-- the same of comments, whose end looks at no byte after it
abbrev Found : Option ℕ → Option ℕ → Type 0
Found again None = Unit {0}
Found again (Some size) = again ≡ Some size

more-found : (k : ℕ) (again size : Option ℕ) → Found again size → Found (more k again) (more k size)
more-found k again None holds = tt
more-found k again (Some size) holds = rw holds refl

comment_end-longer : (bytes rest : List ℕ) → Found (comment_end (bytes ++ rest)) (comment_end bytes)
comment_end-longer [] rest = tt
comment_end-longer (first ∷ []) rest = tt
comment_end-longer (first ∷ next ∷ bytes) rest = cond_both Found (ends_comment first next) refl (more-found 1 (comment_end (next ∷ bytes ++ rest)) (comment_end (next ∷ bytes)) (comment_end-longer (next ∷ bytes) rest))

prefix_len-longer : (p : ℕ → Bool) (bytes : List ℕ) (byte : ℕ) (rest : List ℕ) → (prefix_len p bytes < length bytes) ⊎ (p byte ≡ false) → prefix_len p (bytes ++ (byte ∷ rest)) ≡ prefix_len p bytes
prefix_len-longer p [] byte rest apart = ⊎_elim (λ below. absurd (omega arith)) (λ e. rw e refl) apart
prefix_len-longer p (first ∷ bytes) byte rest apart =
    let P : ℕ → ℕ → Type 0 = λ again size. (size < suc (length bytes)) ⊎ (p byte ≡ false) → again ≡ size in
    cond_both P (p first)
    (λ nearer. let below : (prefix_len p bytes < length bytes) ⊎ (p byte ≡ false) = ⊎_elim (λ less. inl (omega arith)) (λ fact. inr fact) nearer in ap (λ (n : ℕ). 1 + n) (prefix_len-longer p bytes byte rest below))
    (λ nearer. refl) apart

-- a byte with which no token goes on
pub record IsBreak (byte : ℕ) : Type 0 where
  pub no_word : is_word_byte byte ≡ false
  pub no_quote : is_quote byte ≡ false
  pub no_star : (byte == 42) ≡ false

-- a token that doesn't go on with that byte
abbrev pub Stops : ℕ → Token → Type 0
Stops byte (word bytes) = is_word_byte byte ≡ false
Stops byte (quoted_name bytes) = (byte == 96) ≡ false
Stops byte string = ((byte == 39) ≡ false) × ((byte == 34) ≡ false)
Stops byte white = Unit {0}
Stops byte comment = Unit {0}
Stops byte (mark other) = (byte == 42) ≡ false
Stops byte unended = ⊥

-- a token that ends before the end of so many bytes, or doesn't go on with the byte that follows
abbrev pub IsApart : ℕ → ℕ → Lexeme → Type 0
IsApart n byte found = (found.size < n) ⊎ Stops byte found.token

abbrev Keeps : ℕ → ℕ → Lexeme → Lexeme → Type 0
Keeps n byte again found = IsApart n byte found → again ≡ found

pub other_quote : (quote byte : ℕ) → is_quote quote ≡ true → is_quote byte ≡ false → (byte == quote) ≡ false
other_quote quote byte e f = cond_same (byte == quote) (λ same. let equal = eqb-true byte quote same in absurd (cc (ap is_quote equal)))

-- an ended token doesn't go on with such a byte
pub break-stops : (byte : ℕ) (token : Token) → IsBreak byte → (token ≡ unended → ⊥) → Stops byte token
break-stops byte (word bytes) breaks ended = breaks.no_word
break-stops byte (quoted_name bytes) breaks ended = other_quote 96 byte refl breaks.no_quote
break-stops byte string breaks ended = (other_quote 39 byte refl breaks.no_quote, other_quote 34 byte refl breaks.no_quote)
break-stops byte white breaks ended = tt
break-stops byte comment breaks ended = tt
break-stops byte (mark other) breaks ended = breaks.no_star
break-stops byte unended breaks ended = ended refl

-- a quote goes on with itself alone
stops-quote : (quote byte : ℕ) (name : List ℕ) → is_quote quote ≡ true → Stops byte (cond (quote == 96) (quoted_name name) string) → (byte == quote) ≡ false
stops-quote quote byte name e =
    by_test (quote == 96) (quote == 39) (quote == 34) refl refl refl e
  where
    at : (other : ℕ) → (quote == other) ≡ true → (byte == other) ≡ false → (byte == quote) ≡ false
    at other same none = let equal = eqb-true quote other same in rw equal none

    by_test : (name_quote single double : Bool) → (quote == 96) ≡ name_quote → (quote == 39) ≡ single → (quote == 34) ≡ double → (name_quote || single || double) ≡ true → Stops byte (cond name_quote (quoted_name name) string) → (byte == quote) ≡ false
    by_test true single double a b c e none = at 96 a none
    by_test false true double a b c e none = at 39 b none.0
    by_test false false true a b c e none = at 34 c none.1
    by_test false false false a b c e none = absurd (cc)

word-keeps : (bytes : List ℕ) (byte : ℕ) (rest : List ℕ) → Keeps (length bytes) byte (word_lexeme (bytes ++ (byte ∷ rest)) (prefix_len is_word_byte (bytes ++ (byte ∷ rest)))) (word_lexeme bytes (prefix_len is_word_byte bytes))
word-keeps bytes byte rest apart =
    rw (prefix_len-longer is_word_byte bytes byte rest apart, take-append-le (prefix_len is_word_byte bytes) bytes (byte ∷ rest) (prefix_len-le-length is_word_byte bytes)) refl

quoted-keeps : (quote : ℕ) (bytes : List ℕ) (byte : ℕ) (rest : List ℕ) (again size : Option ℕ) → is_quote quote ≡ true → EndsWithin (length bytes) size → Again ((byte == quote) ≡ false) (length bytes) again size → Keeps (suc (length bytes)) byte (quoted_lexeme quote (bytes ++ (byte ∷ rest)) again) (quoted_lexeme quote bytes size)
quoted-keeps quote bytes byte rest again None e within holds = λ apart. absurd (⊎_elim (λ below. omega arith) (λ stops. stops) apart)
quoted-keeps quote bytes byte rest again (Some size) e within holds = λ apart.
    let either : (size < length bytes) ⊎ ((byte == quote) ≡ false) = ⊎_elim (λ below. inl (omega arith)) (λ stops. inr (stops-quote quote byte (take (size - 1) bytes) e stops)) apart in
    let before : size - 1 ≤ length bytes = omega arith in
    rw (holds either, take-append-le (size - 1) bytes (byte ∷ rest) before) refl

comment-keeps : (bytes : List ℕ) (byte : ℕ) (rest : List ℕ) (again size : Option ℕ) → Found again size → Keeps (suc (length bytes)) byte (comment_lexeme (bytes ++ (byte ∷ rest)) again) (comment_lexeme bytes size)
comment-keeps bytes byte rest again None holds = λ apart. absurd (⊎_elim (λ below. omega arith) (λ stops. stops) apart)
comment-keeps bytes byte rest again (Some size) holds = λ apart. rw holds refl

slash-keeps : (bytes : List ℕ) (byte : ℕ) (rest : List ℕ) → Keeps (suc (length bytes)) byte (slash_lexeme (bytes ++ (byte ∷ rest))) (slash_lexeme bytes)
slash-keeps [] byte rest = λ apart. ⊎_elim (λ below. absurd (omega arith)) (λ stops. rw stops refl) apart
slash-keeps (first ∷ bytes) byte rest =
    cond_both (Keeps (suc (suc (length bytes))) byte) (first == 42) (comment-keeps (first ∷ bytes) byte rest (comment_end (bytes ++ (byte ∷ rest))) (comment_end bytes) (comment_end-longer bytes (byte ∷ rest))) (λ apart. refl)

-- the first token stays the same
pub first_token-longer : (first : ℕ) (bytes : List ℕ) (byte : ℕ) (rest : List ℕ) → IsApart (suc (length bytes)) byte (first_token (first ∷ bytes)) → first_token (first ∷ bytes ++ (byte ∷ rest)) ≡ first_token (first ∷ bytes)
first_token-longer first bytes byte rest apart =
    let R : Lexeme → Lexeme → Type 0 = Keeps (suc (length bytes)) byte in
    cond_both R (is_word_byte first) (word-keeps (first ∷ bytes) byte rest)
    (quote_or_not R (is_quote first) (λ e. quoted-keeps first bytes byte rest (closing first (bytes ++ (byte ∷ rest))) (closing first bytes) e (closing-within first bytes) (closing-longer first bytes byte rest))
    (cond_both R (is_white first) (λ kept. refl)
    (cond_both R (first == 47) (slash-keeps bytes byte rest) (λ kept. refl)))) apart
