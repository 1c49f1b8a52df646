-- The first token of a text, and those after it.
use Rattle.std.proofs.Common.{◌≡◌, ℕ, suc, zero, ◌+◌, ◌-◌, ◌≤◌, ◌==◌, ◌&&◌, not, Bool, true, false, cond, List, [], ◌∷◌, length, drop, Option, Some, None, refl, sym, ap, subst, arith, length-drop}
use Rattle.std.specs.List.{prefix_len}
use Rattle.std.proofs.lemmas.List.Sums.{prefix_len-le-length}
use Rattle.plain_data.specs.Byte.{is_white}
use Rattle.object_forms.specs.Token.{Lexeme, Token, closing, comment_end, comment_lexeme, ends_comment, first_token, is_quote, is_word_byte, more, quoted_lexeme, slash_lexeme, tokens, tokens_within, word_lexeme}
use Rattle.object_forms.specs.Token.Token.{mark, white}

-- what holds of either choice holds of the one that is made
pub cond_by : {A : Type 0} (P : A → Type 0) (test : Bool) (x y : A) → (test ≡ true → P x) → (test ≡ false → P y) → P (cond test x y)
cond_by P true x y h k = h refl
cond_by P false x y h k = k refl

-- what holds of each kind of first token holds of the first token
pub first_token_by :
    (P : Lexeme → Type 0) (byte : ℕ) (bytes : List ℕ)
    → (is_word_byte byte ≡ true → P (word_lexeme (byte ∷ bytes) (prefix_len is_word_byte (byte ∷ bytes))))
    → (is_word_byte byte ≡ false → is_quote byte ≡ true → P (quoted_lexeme byte bytes (closing byte bytes)))
    → (is_word_byte byte ≡ false → is_quote byte ≡ false → is_white byte ≡ true → P (record { size = 1; token = white }))
    → (is_word_byte byte ≡ false → is_quote byte ≡ false → is_white byte ≡ false → (byte == 47) ≡ true → P (slash_lexeme bytes))
    → (is_word_byte byte ≡ false → is_quote byte ≡ false → is_white byte ≡ false → (byte == 47) ≡ false → P (record { size = 1; token = mark byte }))
    → P (first_token (byte ∷ bytes))
first_token_by P byte bytes on_word on_quote on_white on_slash on_mark =
    cond_by P (is_word_byte byte) _ _ on_word (λ a. cond_by P (is_quote byte) _ _ (on_quote a) (λ b. cond_by P (is_white byte) _ _ (on_white a b) (λ c. cond_by P (byte == 47) _ _ (on_slash a b c) (on_mark a b c))))

-- an end, where there is one, within so many bytes
abbrev pub EndsWithin : ℕ → Option ℕ → Type 0
EndsWithin n None = Unit {0}
EndsWithin n (Some size) = (1 ≤ size) × (size ≤ n)

more-within : (k n m : ℕ) (size : Option ℕ) → k + n ≤ m → EndsWithin n size → EndsWithin m (more k size)
more-within k n m None fits within = tt
more-within k n m (Some size) fits within = (omega arith, omega arith)

pub closing-within : (quote : ℕ) (bytes : List ℕ) → EndsWithin (length bytes) (closing quote bytes)
closing-within quote [] = tt
closing-within quote (byte ∷ []) = cond_by (EndsWithin 1) (byte == quote) _ _ (λ e. (omega arith, omega arith)) (λ e. tt)
closing-within quote (byte ∷ next ∷ bytes) =
    let both = more-within 2 (length bytes) (suc (suc (length bytes))) (closing quote bytes) (omega arith) (closing-within quote bytes) in
    cond_by (EndsWithin (suc (suc (length bytes)))) (byte == quote) _ _
    (λ e. cond_by (EndsWithin (suc (suc (length bytes)))) (next == quote) _ _ (λ f. both) (λ f. (omega arith, omega arith)))
    (λ e. cond_by (EndsWithin (suc (suc (length bytes)))) (byte == 92 && not (quote == 96)) _ _ (λ f. both) (λ f. more-within 1 (suc (length bytes)) (suc (suc (length bytes))) (closing quote (next ∷ bytes)) (omega arith) (closing-within quote (next ∷ bytes))))

pub comment_end-within : (bytes : List ℕ) → EndsWithin (length bytes) (comment_end bytes)
comment_end-within [] = tt
comment_end-within (byte ∷ []) = tt
comment_end-within (byte ∷ next ∷ bytes) =
    cond_by (EndsWithin (suc (suc (length bytes)))) (ends_comment byte next) _ _ (λ e. (omega arith, omega arith)) (λ e. more-within 1 (suc (length bytes)) (suc (suc (length bytes))) (comment_end (next ∷ bytes)) (omega arith) (comment_end-within (next ∷ bytes)))

-- a token has at least a byte, and no more than there are
pub record Fits (n : ℕ) (found : Lexeme) : Type 0 where
  pub some : 1 ≤ found.size
  pub within : found.size ≤ n

quoted-fits : (quote : ℕ) (bytes : List ℕ) (size : Option ℕ) → EndsWithin (length bytes) size → Fits (suc (length bytes)) (quoted_lexeme quote bytes size)
quoted-fits quote bytes None within = record { some = omega arith; within = omega arith }
quoted-fits quote bytes (Some size) within = record { some = omega arith; within = omega arith }

comment-fits : (bytes : List ℕ) (size : Option ℕ) (n : ℕ) → suc (length bytes) ≤ n → EndsWithin (length bytes - 1) size → Fits n (comment_lexeme bytes size)
comment-fits bytes None n fits within = record { some = omega arith; within = omega arith }
comment-fits bytes (Some size) n fits within = record { some = omega arith; within = omega arith }

slash-fits : (bytes : List ℕ) → Fits (suc (length bytes)) (slash_lexeme bytes)
slash-fits [] = record { some = omega arith; within = omega arith }
slash-fits (byte ∷ bytes) =
    cond_by (Fits (suc (suc (length bytes)))) (byte == 42) _ _ (λ e. comment-fits (byte ∷ bytes) (comment_end bytes) (suc (suc (length bytes))) (omega arith) (let all : suc (length bytes) - 1 ≡ length bytes = omega arith in rw all (comment_end-within bytes))) (λ e. record { some = omega arith; within = omega arith })

word-fits : (byte : ℕ) (bytes : List ℕ) → is_word_byte byte ≡ true → Fits (suc (length bytes)) (word_lexeme (byte ∷ bytes) (prefix_len is_word_byte (byte ∷ bytes)))
word-fits byte bytes e = record {
  some = let one : prefix_len is_word_byte (byte ∷ bytes) ≡ 1 + prefix_len is_word_byte bytes = rw e refl in omega arith;
  within = prefix_len-le-length is_word_byte (byte ∷ bytes);
}

pub first_token-fits : (byte : ℕ) (bytes : List ℕ) → Fits (suc (length bytes)) (first_token (byte ∷ bytes))
first_token-fits byte bytes =
    first_token_by (Fits (suc (length bytes))) byte bytes
    (word-fits byte bytes)
    (λ a b. quoted-fits byte bytes (closing byte bytes) (closing-within byte bytes))
    (λ a b c. record { some = omega arith; within = omega arith })
    (λ a b c d. slash-fits bytes)
    (λ a b c d. record { some = omega arith; within = omega arith })

-- what is left after the first token
unfoldable pub after_first : List ℕ → List ℕ
after_first bytes = drop (first_token bytes).size bytes

pub after_first-shorter : (byte : ℕ) (bytes : List ℕ) → length (after_first (byte ∷ bytes)) ≤ length bytes
unfolding after_first
after_first-shorter byte bytes =
    let fits = first_token-fits byte bytes in
    omega (arith, length-drop (first_token (byte ∷ bytes)).size (byte ∷ bytes), fits.some)

-- more than enough tokens are no more than enough
enough : (n m : ℕ) (bytes : List ℕ) → length bytes ≤ n → length bytes ≤ m → tokens_within n bytes ≡ tokens_within m bytes
unfolding after_first
enough zero zero [] a b = refl
enough zero (suc m) [] a b = refl
enough (suc n) zero [] a b = refl
enough (suc n) (suc m) [] a b = refl
enough zero m (byte ∷ bytes) a b = absurd (omega arith)
enough (suc n) zero (byte ∷ bytes) a b = absurd (omega arith)
enough (suc n) (suc m) (byte ∷ bytes) a b =
    let shorter = after_first-shorter byte bytes in
    ap (λ (left : List Token). (first_token (byte ∷ bytes)).token ∷ left) (enough n m (after_first (byte ∷ bytes)) (omega arith) (omega arith))

pub tokens-nil : tokens [] ≡ []
unfolding tokens
tokens-nil = refl

-- the tokens of a text are its first one, and those of what is after it
pub tokens-cons : (byte : ℕ) (bytes : List ℕ) → tokens (byte ∷ bytes) ≡ (first_token (byte ∷ bytes)).token ∷ tokens (drop (first_token (byte ∷ bytes)).size (byte ∷ bytes))
unfolding tokens after_first
tokens-cons byte bytes =
    let shorter = after_first-shorter byte bytes in
    ap (λ (left : List Token). (first_token (byte ∷ bytes)).token ∷ left) (enough (length bytes) (length (after_first (byte ∷ bytes))) (after_first (byte ∷ bytes)) (omega arith) (omega arith))

-- the first token of a text that isn't empty
pub record IsFirst (bytes : List ℕ) (size : ℕ) (token : Token) : Type 0 where
  pub some : 1 ≤ size
  pub within : size ≤ length bytes
  pub tokens : tokens bytes ≡ token ∷ tokens (drop size bytes)

pub first-of : (bytes : List ℕ) → (bytes ≡ [] → ⊥) → IsFirst bytes (first_token bytes).size (first_token bytes).token
first-of [] some = absurd (some refl)
first-of (byte ∷ bytes) some =
    let fits = first_token-fits byte bytes in
    record { some = fits.some; within = fits.within; tokens = tokens-cons byte bytes }

-- a lexeme that was read is the first token
pub first-read : (bytes : List ℕ) (size : ℕ) (token : Token) → (bytes ≡ [] → ⊥) → record { size = size; token = token } ≡ first_token bytes → IsFirst bytes size token
first-read bytes size token some read =
    let P : Lexeme → Type 0 = λ found. IsFirst bytes found.size found.token in
    subst P (sym read) (first-of bytes some)

pub ruleset steps = (tokens-nil, first-read)
