-- A text that is cut after some of its tokens has just those tokens.
use Rattle.std.proofs.Common.{◌≡◌, ℕ, suc, zero, ◌+◌, ◌-◌, ◌<◌, ◌≤◌, ◌==◌, ◌&&◌, not, Bool, true, false, cond, List, [], ◌∷◌, ◌++◌, length, take, drop, Option, Some, None, refl, sym, ◌∙◌, ap, subst, ⊎_elim, arith, length-drop, append_assoc}
use Rattle.std.proofs.lemmas.List.{append_cancel_right, drop-drop, drop-take, take_all}
use Rattle.std.proofs.lemmas.Bool.{cases_lt}
use Rattle.std.specs.List.{prefix_len}
use Rattle.plain_data.specs.Byte.{is_white}
use Rattle.object_forms.specs.Token.{Lexeme, Token, closing, comment_end, comment_lexeme, ends_comment, first_token, is_quote, is_word_byte, more, quoted_lexeme, slash_lexeme, tokens, word_lexeme}
use Rattle.object_forms.specs.Token.{left_after}
use Rattle.sql_tokens.specs.Left.{IsLeft}
use Rattle.sql_tokens.proofs.Tokens.{EndsWithin, closing-within, comment_end-within, cond_by, first_token-fits, tokens-cons, tokens-nil}

-- what holds between the choices holds of those that one test makes
pub cond_both : {A B : Type 0} (R : A → B → Type 0) (test : Bool) {x y : A} {v w : B} → R x v → R y w → R (cond test x y) (cond test v w)
cond_both R true a b = a
cond_both R false a b = b

-- the end that was found is found within so many bytes too, where it is within them
abbrev Agrees : ℕ → Option ℕ → Option ℕ → Type 0
Agrees n again None = Unit {0}
Agrees n again (Some size) = size ≤ n → again ≡ Some size

more-agrees : (k n m : ℕ) (again size : Option ℕ) → k + n ≡ m → Agrees n again size → Agrees m (more k again) (more k size)
more-agrees k n m again None e agrees = tt
more-agrees k n m again (Some size) e agrees = λ within. rw (agrees (omega arith)) refl

none-agrees : (n : ℕ) (again size : Option ℕ) (m : ℕ) → EndsWithin m size → Agrees 0 again size
none-agrees n again None m within = tt
none-agrees n again (Some size) m within = λ few. absurd (omega arith)

far-agrees : (k n : ℕ) (again size : Option ℕ) (m : ℕ) → n ≤ k → EndsWithin m size → Agrees n again (more k size)
far-agrees k n again None m far within = tt
far-agrees k n again (Some size) m far within = λ few. absurd (omega arith)

closing-take : (quote : ℕ) (bytes : List ℕ) (n : ℕ) → Agrees n (closing quote (take n bytes)) (closing quote bytes)
closing-take quote bytes zero = none-agrees 0 (closing quote (take 0 bytes)) (closing quote bytes) (length bytes) (closing-within quote bytes)
closing-take quote [] (suc n) = tt
closing-take quote (byte ∷ []) (suc zero) = cond_both (Agrees 1) (byte == quote) (λ within. refl) tt
closing-take quote (byte ∷ []) (suc (suc n)) = cond_both (Agrees (suc (suc n))) (byte == quote) (λ within. refl) tt
closing-take quote (byte ∷ next ∷ bytes) (suc zero) =
    cond_both (Agrees 1) (byte == quote)
    (cond_by (Agrees 1 (Some 1)) (next == quote) _ _ (λ e. far-agrees 2 1 (Some 1) (closing quote bytes) (length bytes) (omega arith) (closing-within quote bytes)) (λ e within. refl))
    (cond_by (Agrees 1 None) (byte == 92 && not (quote == 96)) _ _ (λ e. far-agrees 2 1 None (closing quote bytes) (length bytes) (omega arith) (closing-within quote bytes)) (λ e. far-agrees 1 1 None (closing quote (next ∷ bytes)) (suc (length bytes)) (omega arith) (closing-within quote (next ∷ bytes))))
closing-take quote (byte ∷ next ∷ bytes) (suc (suc n)) =
    let both = more-agrees 2 n (suc (suc n)) (closing quote (take n bytes)) (closing quote bytes) (omega arith) (closing-take quote bytes n) in
    cond_both (Agrees (suc (suc n))) (byte == quote)
    (cond_both (Agrees (suc (suc n))) (next == quote) both (λ within. refl))
    (cond_both (Agrees (suc (suc n))) (byte == 92 && not (quote == 96)) both (more-agrees 1 (suc n) (suc (suc n)) (closing quote (next ∷ take n bytes)) (closing quote (next ∷ bytes)) (omega arith) (closing-take quote (next ∷ bytes) (suc n))))

comment_end-take : (bytes : List ℕ) (n : ℕ) → Agrees n (comment_end (take n bytes)) (comment_end bytes)
comment_end-take bytes zero = none-agrees 0 (comment_end (take 0 bytes)) (comment_end bytes) (length bytes) (comment_end-within bytes)
comment_end-take [] (suc n) = tt
comment_end-take (byte ∷ []) (suc n) = tt
comment_end-take (byte ∷ next ∷ bytes) (suc zero) =
    cond_by (Agrees 1 None) (ends_comment byte next) _ _ (λ e within. absurd (omega arith)) (λ e. far-agrees 1 1 None (comment_end (next ∷ bytes)) (suc (length bytes)) (omega arith) (comment_end-within (next ∷ bytes)))
comment_end-take (byte ∷ next ∷ bytes) (suc (suc n)) =
    cond_both (Agrees (suc (suc n))) (ends_comment byte next) (λ within. refl) (more-agrees 1 (suc n) (suc (suc n)) (comment_end (next ∷ take n bytes)) (comment_end (next ∷ bytes)) (omega arith) (comment_end-take (next ∷ bytes) (suc n)))

prefix_len-take : (p : ℕ → Bool) (bytes : List ℕ) (n : ℕ) → prefix_len p bytes ≤ n → prefix_len p (take n bytes) ≡ prefix_len p bytes
prefix_len-take p [] zero within = refl
prefix_len-take p [] (suc n) within = refl
prefix_len-take p (byte ∷ bytes) zero within = omega arith
prefix_len-take p (byte ∷ bytes) (suc n) within =
    let P : ℕ → ℕ → Type 0 = λ again size. size ≤ suc n → again ≡ size in
    cond_both P (p byte) (λ few. ap (λ (m : ℕ). 1 + m) (prefix_len-take p bytes n (omega arith))) (λ few. refl) within

comment-fits-two : (bytes : List ℕ) (size : Option ℕ) → 0 < length bytes → 2 ≤ (comment_lexeme bytes size).size
comment-fits-two bytes None some = omega arith
comment-fits-two bytes (Some size) some = omega arith

pub take_take_le : (m n : ℕ) (bytes : List ℕ) → m ≤ n → take m (take n bytes) ≡ take m bytes
take_take_le zero n bytes below = refl
take_take_le (suc m) zero bytes below = absurd (omega arith)
take_take_le (suc m) (suc n) [] below = refl
take_take_le (suc m) (suc n) (byte ∷ bytes) below = ap (λ (left : List ℕ). byte ∷ left) (take_take_le m n bytes (omega arith))

nothing-left : (bytes : List ℕ) → (first_token bytes).size ≤ 0 → first_token (take 0 bytes) ≡ first_token bytes
nothing-left [] within = refl
nothing-left (byte ∷ bytes) within = let fits = first_token-fits byte bytes in absurd (omega (arith, fits.some))

-- a token of no more than so many bytes is the first one of that many bytes too
abbrev Stays : ℕ → Lexeme → Lexeme → Type 0
Stays n again found = found.size ≤ n → again ≡ found

word-stays : (bytes : List ℕ) (n : ℕ) → Stays n (word_lexeme (take n bytes) (prefix_len is_word_byte (take n bytes))) (word_lexeme bytes (prefix_len is_word_byte bytes))
word-stays bytes n within = rw (prefix_len-take is_word_byte bytes n within, take_take_le (prefix_len is_word_byte bytes) n bytes within) refl

quoted-stays : (quote : ℕ) (bytes : List ℕ) (n : ℕ) (again size : Option ℕ) → n < length bytes → Agrees n again size → Stays (suc n) (quoted_lexeme quote (take n bytes) again) (quoted_lexeme quote bytes size)
quoted-stays quote bytes n again None cut agrees = λ within. absurd (omega arith)
quoted-stays quote bytes n again (Some size) cut agrees = λ within.
    let few : size ≤ n = omega arith in
    let fewer : size - 1 ≤ n = omega arith in
    rw (agrees few, take_take_le (size - 1) n bytes fewer) refl

comment-stays : (bytes : List ℕ) (n : ℕ) (again size : Option ℕ) → n < length bytes → Agrees (n - 1) again size → Stays (suc n) (comment_lexeme (take n bytes) again) (comment_lexeme bytes size)
comment-stays bytes n again None cut agrees = λ within. absurd (omega arith)
comment-stays bytes n again (Some size) cut agrees = λ within. let few : size ≤ n - 1 = omega arith in rw (agrees few) refl

slash-stays : (bytes : List ℕ) (n : ℕ) → n < length bytes → Stays (suc n) (slash_lexeme (take n bytes)) (slash_lexeme bytes)
slash-stays [] n cut = absurd (omega arith)
slash-stays (byte ∷ bytes) zero cut =
    let P : Lexeme → Type 0 = Stays 1 (slash_lexeme []) in
    cond_by P (byte == 42) _ _ (λ e within. let two = comment-fits-two (byte ∷ bytes) (comment_end bytes) (omega arith) in absurd (omega arith)) (λ e within. refl)
slash-stays (byte ∷ bytes) (suc n) cut =
    let all : suc n - 1 ≡ n = omega arith in
    cond_both (Stays (suc (suc n))) (byte == 42) (comment-stays (byte ∷ bytes) (suc n) (comment_end (take n bytes)) (comment_end bytes) cut (rw all (comment_end-take bytes n))) (λ within. refl)

-- the first token stays the same where no more than what is after it is cut off
first_token-cut : (byte : ℕ) (bytes : List ℕ) (n : ℕ) → n < length bytes → Stays (suc n) (first_token (byte ∷ take n bytes)) (first_token (byte ∷ bytes))
first_token-cut byte bytes n cut =
    let R : Lexeme → Lexeme → Type 0 = Stays (suc n) in
    cond_both R (is_word_byte byte) (word-stays (byte ∷ bytes) (suc n))
    (cond_both R (is_quote byte) (quoted-stays byte bytes n (closing byte (take n bytes)) (closing byte bytes) cut (closing-take byte bytes n))
    (cond_both R (is_white byte) (λ within. refl)
    (cond_both R (byte == 47) (slash-stays bytes n cut) (λ within. refl))))

pub first_token-take : (bytes : List ℕ) (n : ℕ) → (first_token bytes).size ≤ n → first_token (take n bytes) ≡ first_token bytes
first_token-take bytes zero within = nothing-left bytes within
first_token-take [] (suc n) within = refl
first_token-take (byte ∷ bytes) (suc n) within =
    ⊎_elim (λ cut. first_token-cut byte bytes n cut within) (λ all. ap (λ (left : List ℕ). first_token (byte ∷ left)) (take_all n bytes all)) (cases_lt n (length bytes))

pub left-all : (text : List ℕ) → IsLeft text text
left-all text = record { count = 0; is = refl }

left_after-suc : (n : ℕ) (bytes : List ℕ) → left_after (suc n) bytes ≡ drop (first_token (left_after n bytes)).size (left_after n bytes)
left_after-suc zero bytes = refl
left_after-suc (suc n) bytes = left_after-suc n (drop (first_token bytes).size bytes)

pub left-next : (text rest : List ℕ) → IsLeft text rest → IsLeft text (drop (first_token rest).size rest)
left-next text rest left = record { count = suc left.count; is = left_after-suc left.count text ∙ ap (λ (bytes : List ℕ). drop (first_token bytes).size bytes) left.is }

-- what was read after one more token is left too
pub left-read : (text rest after : List ℕ) → after ≡ drop (first_token rest).size rest → IsLeft text rest → IsLeft text after
left-read text rest after read left = subst (IsLeft text) (sym read) (left-next text rest left)

-- the rest stands at the text's end, and the tokens are those before it and its own
pub record Parted (text rest : List ℕ) : Type 0 where
  pub within : length rest ≤ length text
  pub after : drop (length text - length rest) text ≡ rest
  pub tokens : tokens text ≡ tokens (take (length text - length rest) text) ++ tokens rest

parted-all : (text : List ℕ) → Parted text text
parted-all text =
    let none : length text - length text ≡ 0 = omega arith in
    record { within = omega arith; after = rw none refl; tokens = rw (none, tokens-nil) refl }

pub tokens-first : (bytes : List ℕ) → 1 ≤ (first_token bytes).size → tokens bytes ≡ (first_token bytes).token ∷ tokens (drop (first_token bytes).size bytes)
tokens-first [] some = absurd (omega arith)
tokens-first (byte ∷ bytes) some = tokens-cons byte bytes

-- the tokens of a text's front are its first token and those of the front of what is after it
pub tokens-front : (bytes : List ℕ) (n : ℕ) → 1 ≤ (first_token bytes).size → tokens (take ((first_token bytes).size + n) bytes) ≡ (first_token bytes).token ∷ tokens (take n (drop (first_token bytes).size bytes))
tokens-front bytes n some =
    let front = take ((first_token bytes).size + n) bytes in
    let same : first_token front ≡ first_token bytes = first_token-take bytes ((first_token bytes).size + n) (omega arith) in
    let there : 1 ≤ (first_token front).size = rw same some in
    tokens-first front there ∙ ap (λ (found : Lexeme). found.token ∷ tokens (drop found.size front)) same ∙ ap (λ (left : List ℕ). (first_token bytes).token ∷ tokens left) (drop-take (first_token bytes).size n bytes)

parted-more : (text rest : List ℕ) → 1 ≤ (first_token text).size → (first_token text).size ≤ length text → Parted (drop (first_token text).size text) rest → Parted text rest
parted-more text rest some within parted =
    let size = (first_token text).size in
    let shorter = length-drop size text in
    let place = length (drop size text) - length rest in
    let at : length text - length rest ≡ size + place = omega (arith, parted.within) in
    record {
      within = omega (arith, parted.within);
      after = ap (λ (n : ℕ). drop n text) at ∙ sym (drop-drop place size text) ∙ parted.after;
      tokens = tokens-first text some ∙ ap (λ (left : List Token). (first_token text).token ∷ left) parted.tokens ∙ ap (λ (front : List Token). front ++ tokens rest) (sym (tokens-front text place some)) ∙ ap (λ (n : ℕ). tokens (take n text) ++ tokens rest) (sym at);
    }

parted-after : (n : ℕ) (text : List ℕ) → Parted text (left_after n text)
parted-after zero text = parted-all text
parted-after (suc n) [] = parted-after n []
parted-after (suc n) (byte ∷ bytes) =
    let fits = first_token-fits byte bytes in
    parted-more (byte ∷ bytes) (left_after n (drop (first_token (byte ∷ bytes)).size (byte ∷ bytes))) fits.some fits.within (parted-after n (drop (first_token (byte ∷ bytes)).size (byte ∷ bytes)))

pub parted : (text rest : List ℕ) → IsLeft text rest → Parted text rest
parted text rest left = subst (Parted text) left.is (parted-after left.count text)

-- one token more before what is left
pub front-more : (text rest after : List ℕ) (token : Token) → IsLeft text rest → IsLeft text after → tokens rest ≡ token ∷ tokens after → tokens (take (length text - length after) text) ≡ tokens (take (length text - length rest) text) ++ (token ∷ [])
front-more text rest after token left later first =
    let before = tokens (take (length text - length rest) text) in
    let one : before ++ (token ∷ tokens after) ≡ tokens text = ap (λ (back : List Token). before ++ back) (sym first) ∙ sym (parted text rest left).tokens in
    append_cancel_right (tokens (take (length text - length after) text)) (before ++ (token ∷ [])) (tokens after) (sym (parted text after later).tokens ∙ sym one ∙ sym (append_assoc before (token ∷ []) (tokens after)))

pub ruleset left = (left-all, left-read)
