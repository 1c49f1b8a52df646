-- The place at which a text that doesn't begin with CREATE is refused.
use Rattle.std.proofs.Common.{◌≡◌, ℕ, suc, zero, ◌+◌, ◌<◌, ◌≤◌, ◌==◌, ◌&&◌, Bool, true, false, cond, List, [], ◌∷◌, ◌++◌, length, take, drop, map, nat_le, Option, Some, None, is_some, codes, refl, sym, ◌∙◌, ap, subst, ⊎_elim, arith, append_assoc, eq-eqb, eqb-true, leb-true, length-take-le, take-append-drop}
use Rattle.std.specs.Char.{to_ascii_lowercase}
use Rattle.std.specs.List.{list_all, prefix_len}
use Rattle.std.specs.Str.{bytes_eq}
use Rattle.std.proofs.Math.Seq.{drop-append_seam, take-append_seam}
use Rattle.std.proofs.lemmas.Bool.{cases_lt}
use Rattle.std.proofs.lemmas.Bool.Decides.{nat_tests}
use Rattle.std.proofs.lemmas.List.{length-map, take-append-le, take_all}
use Rattle.std.proofs.lemmas.Slice.Eq.{bytes_eq-Decides}
use Rattle.std.proofs.lemmas.List.Sums.{prefix_len-le-length}
use Rattle.grammar.specs.Language.{Refused}
use Rattle.std.specs.Option.{option_and_then}
use Rattle.object_forms.specs.Head.{HasHead, after_token, head, head_in, kind_in, making_after}
use Rattle.object_texts.specs.Left.{agreement}
use Rattle.object_forms.specs.Token.{Lexeme, Token, closing, comment_end, comment_lexeme, first_token, is_word, is_word_byte, quoted_lexeme, slash_lexeme, tokens, word_lexeme}
use Rattle.object_forms.specs.Token.Token.{word}
use Rattle.object_texts.proofs.Closers.{creates-of, opens-table, table}
use Rattle.sql_tokens.proofs.Cuts.{first_token-take, take_take_le}
use Rattle.object_texts.proofs.Fronts.{first_token-append}
use Rattle.object_texts.proofs.HeadFronts.{Reaches, reaches-head}
use Rattle.object_texts.proofs.HeadPlaces.{begins-with, refused-at}
use Rattle.object_texts.proofs.HeadRefusals.{name-comes}
use Rattle.object_texts.proofs.Longer.{cond_same}
use Rattle.sql_tokens.proofs.Tokens.{cond_by, first_token_by, tokens-cons, tokens-nil}
use Rattle.object_texts.proofs.Utf8.{both_true}

one-more : (n : ℕ) → suc n ≡ 1 + n
one-more n = omega arith

-- the front that agrees, and what is missing of the word, are the word
lower-rest : (text lower : List ℕ) → map to_ascii_lowercase lower ≡ lower → map to_ascii_lowercase (take (agreement text lower) text ++ drop (agreement text lower) lower) ≡ lower
lower-rest [] lower small = small
lower-rest (byte ∷ text) [] small = refl
lower-rest (byte ∷ text) (letter ∷ lower) small =
    let P : ℕ → Type 0 = λ n. map to_ascii_lowercase (take n (byte ∷ text) ++ drop n (letter ∷ lower)) ≡ letter ∷ lower in
    let tail : map to_ascii_lowercase lower ≡ lower = cc in
    cond_by P (to_ascii_lowercase byte == letter) _ _
    (λ e. let same : to_ascii_lowercase byte ≡ letter = eqb-true (to_ascii_lowercase byte) letter e in let later = lower-rest text lower tail in subst P (one-more (agreement text lower)) (ap (λ (letters : List ℕ). to_ascii_lowercase byte ∷ letters) later ∙ ap (λ (first : ℕ). first ∷ lower) same))
    (λ e. small)

abbrev is_small : ℕ → Bool
is_small byte = nat_le 97 byte && nat_le byte 122

-- a byte that a small letter comes of is a letter
small-is_word : (byte : ℕ) → 97 ≤ to_ascii_lowercase byte → to_ascii_lowercase byte ≤ 122 → is_word_byte byte ≡ true
small-is_word byte low high = grind (arith, nat_tests)

-- such a word, and a space
word-length : (letters lower rest : List ℕ) → map to_ascii_lowercase letters ≡ lower → list_all is_small lower ≡ true → prefix_len is_word_byte (letters ++ (32 ∷ rest)) ≡ length letters
word-length [] lower rest e small = refl
word-length (letter ∷ letters) [] rest e small = absurd (cc)
word-length (letter ∷ letters) (first ∷ lower) rest e small =
    let both = both_true (is_small first) (list_all is_small lower) small in
    let range = both_true (nat_le 97 first) (nat_le first 122) both.0 in
    let same : to_ascii_lowercase letter ≡ first = cc in
    let others : map to_ascii_lowercase letters ≡ lower = cc in
    let is_word : is_word_byte letter ≡ true = small-is_word letter (omega (arith, leb-true 97 first range.0)) (omega (arith, leb-true first 122 range.1)) in
    rw is_word (ap (λ (n : ℕ). 1 + n) (word-length letters lower rest others both.1) ∙ sym (one-more (length letters)))

cond-true : {A : Type 0} (test : Bool) (x y : A) → test ≡ true → cond test x y ≡ x
cond-true true x y e = refl
cond-true false x y e = absurd (cc)

-- a text that begins with a word in small letters, in any case, and a space
first-word : (letter : ℕ) (letters lower rest : List ℕ) → map to_ascii_lowercase (letter ∷ letters) ≡ lower → list_all is_small lower ≡ true → tokens (letter ∷ letters ++ (32 ∷ rest)) ≡ word (letter ∷ letters) ∷ tokens (32 ∷ rest)
first-word letter letters [] rest e small = absurd (cc)
first-word letter letters (first ∷ lower) rest e small =
    let both = both_true (is_small first) (list_all is_small lower) small in
    let range = both_true (nat_le 97 first) (nat_le first 122) both.0 in
    let same : to_ascii_lowercase letter ≡ first = cc in
    let is_word : is_word_byte letter ≡ true = small-is_word letter (omega (arith, leb-true 97 first range.0)) (omega (arith, leb-true first 122 range.1)) in
    let text = letter ∷ letters ++ (32 ∷ rest) in
    let size = word-length (letter ∷ letters) (first ∷ lower) rest e small in
    let found : first_token text ≡ word_lexeme text (length (letter ∷ letters)) = cond-true (is_word_byte letter) _ _ is_word ∙ ap (word_lexeme text) size in
    tokens-cons letter (letters ++ (32 ∷ rest)) ∙ ap (λ (found : Lexeme). found.token ∷ tokens (drop found.size text)) found
    ∙ ap (λ (bytes : List ℕ). word bytes ∷ tokens (drop (length (letter ∷ letters)) text)) (take-append_seam (letter ∷ letters) (32 ∷ rest))
    ∙ ap (λ (left : List ℕ). word (letter ∷ letters) ∷ tokens left) (drop-append_seam (letter ∷ letters) (32 ∷ rest))

abbrev create : List ℕ
create = codes "create"

word-head : (letters : List ℕ) → map to_ascii_lowercase letters ≡ create → is_some (head (letters ++ table)) ≡ true
word-head [] e = absurd (cc)
word-head (letter ∷ letters) e =
    let text = letter ∷ letters ++ table in
    let first = first-word letter letters create (codes "table t") e refl in
    let is_create : is_word create (word (letter ∷ letters)) ≡ true = ap (λ (bytes : List ℕ). bytes_eq bytes create) e in
    let P : List Token → Type 0 = λ all. Reaches all (tokens (codes " t")) in
    let reaches : Reaches (tokens text) (tokens (codes " t")) = subst P (sym first) (creates-of (word (letter ∷ letters)) (tokens table) is_create opens-table) in
    reaches-head (tokens text) (tokens (codes " t")) reaches ∙ name-comes

-- a text that agrees with so many letters of a word does so at least
agreement-least : (n : ℕ) (text lower : List ℕ) → n ≤ length text → n ≤ length lower → map to_ascii_lowercase (take n text) ≡ take n lower → n ≤ agreement text lower
agreement-least zero text lower a b e = omega arith
agreement-least (suc n) [] lower a b e = absurd (omega arith)
agreement-least (suc n) (byte ∷ text) [] a b e = absurd (omega arith)
agreement-least (suc n) (byte ∷ text) (letter ∷ lower) a b e =
    let same : to_ascii_lowercase byte ≡ letter = cc in
    let tail : map to_ascii_lowercase (take n text) ≡ take n lower = cc in
    let later = agreement-least n text lower (omega arith) (omega arith) tail in
    let test : (to_ascii_lowercase byte == letter) ≡ true = eq-eqb (to_ascii_lowercase byte) letter same in
    rw test (omega arith)

-- what a text begins with, if its first token is the word CREATE
pub record IsCreate (text : List ℕ) : Type 0 where
  pub size : (first_token text).size ≡ 6
  pub letters : map to_ascii_lowercase (take 6 text) ≡ create
  pub word : is_word create (first_token text).token ≡ true

-- the same, of a first token
pub record Created (text : List ℕ) (found : Lexeme) : Type 0 where
  pub size : found.size ≡ 6
  pub letters : map to_ascii_lowercase (take 6 text) ≡ create

word-created : (text : List ℕ) → is_word create (word_lexeme text (prefix_len is_word_byte text)).token ≡ true → Created text (word_lexeme text (prefix_len is_word_byte text))
word-created text e =
    let size = prefix_len is_word_byte text in
    let letters : map to_ascii_lowercase (take size text) ≡ create = (bytes_eq-Decides (map to_ascii_lowercase (take size text)) create).0 e in
    let within = prefix_len-le-length is_word_byte text in
    let six : size ≡ 6 = omega (arith, ap length letters, length-map (take size text) to_ascii_lowercase, length-take-le size text within) in
    record { size = six; letters = ap (λ (n : ℕ). map to_ascii_lowercase (take n text)) (sym six) ∙ letters }

quote-not_create : (quote : ℕ) (bytes : List ℕ) (size : Option ℕ) → is_word create (quoted_lexeme quote bytes size).token ≡ false
quote-not_create quote bytes None = refl
quote-not_create quote bytes (Some size) = let P : Token → Type 0 = λ token. is_word create token ≡ false in cond_by P (quote == 96) _ _ (λ e. refl) (λ e. refl)

comment-not_create : (bytes : List ℕ) (size : Option ℕ) → is_word create (comment_lexeme bytes size).token ≡ false
comment-not_create bytes None = refl
comment-not_create bytes (Some size) = refl

slash-not_create : (bytes : List ℕ) → is_word create (slash_lexeme bytes).token ≡ false
slash-not_create [] = refl
slash-not_create (byte ∷ bytes) = let P : Lexeme → Type 0 = λ found. is_word create found.token ≡ false in cond_by P (byte == 42) _ _ (λ e. comment-not_create (byte ∷ bytes) (comment_end bytes)) (λ e. refl)

not-both : (test : Bool) → test ≡ false → test ≡ true → ⊥
not-both test e f = cc

created-first : (first : ℕ) (bytes : List ℕ) → is_word create (first_token (first ∷ bytes)).token ≡ true → Created (first ∷ bytes) (first_token (first ∷ bytes))
created-first first bytes =
    first_token_by (λ found. is_word create found.token ≡ true → Created (first ∷ bytes) found) first bytes
    (λ a e. word-created (first ∷ bytes) e)
    (λ a b e. absurd (not-both (is_word create (quoted_lexeme first bytes (closing first bytes)).token) (quote-not_create first bytes (closing first bytes)) e))
    (λ a b c e. absurd (cc))
    (λ a b c d e. absurd (not-both (is_word create (slash_lexeme bytes).token) (slash-not_create bytes) e))
    (λ a b c d e. absurd (cc))

created-by : (test : Bool) (all : List Token) → is_some (cond test (Some all) None) ≡ true → test ≡ true
created-by true all e = refl
created-by false all e = absurd (cc)

after-there : (created : Option (List Token)) → is_some (option_and_then making_after (option_and_then kind_in created)) ≡ true → is_some created ≡ true
after-there None e = absurd (cc)
after-there (Some all) e = refl

head-is_create : (text : List ℕ) → is_some (head text) ≡ true → IsCreate text
head-is_create [] e = absurd (cc (ap (λ (all : List Token). is_some (head_in all)) tokens-nil))
head-is_create (first ∷ bytes) e =
    let text = first ∷ bytes in
    let found = first_token text in
    let after_it = after-there (after_token (is_word create) (tokens text)) e in
    let is_create : is_word create found.token ≡ true = created-by (is_word create found.token) (tokens (drop found.size text)) (sym (ap (λ (all : List Token). is_some (after_token (is_word create) all)) (tokens-cons first bytes)) ∙ after_it) in
    let created = created-first first bytes is_create in
    record { size = created.size; letters = created.letters; word = is_create }

created-none : (test : Bool) (all : List Token) → None ≡ cond test (Some all) None → test ≡ true → ⊥
created-none true all e f = cc
created-none false all e f = cc

-- a text without the word in front has no such token
first-not_create : (text : List ℕ) → None ≡ after_token (is_word create) (tokens text) → is_word create (first_token text).token ≡ true → ⊥
first-not_create [] e f = cc
first-not_create (first ∷ bytes) e f = let found = first_token (first ∷ bytes) in created-none (is_word create found.token) (tokens (drop found.size (first ∷ bytes))) (e ∙ ap (after_token (is_word create)) (tokens-cons first bytes)) f

uncreated-head : (text : List ℕ) → None ≡ after_token (is_word create) (tokens text) → is_some (head text) ≡ false
uncreated-head text e = ap (λ (created : Option (List Token)). is_some (option_and_then making_after (option_and_then kind_in created))) (sym e)

take-map : (n : ℕ) (bytes : List ℕ) → map to_ascii_lowercase (take n bytes) ≡ take n (map to_ascii_lowercase bytes)
take-map zero bytes = refl
take-map (suc n) [] = refl
take-map (suc n) (byte ∷ bytes) = ap (λ (left : List ℕ). to_ascii_lowercase byte ∷ left) (take-map n bytes)

-- no text that goes on after where it agrees with the word has it in front
never-create : (text more : List ℕ) (n : ℕ) → None ≡ after_token (is_word create) (tokens text) → agreement text create < n → n ≤ length text → IsCreate (take n text ++ more) → ⊥
never-create text more n none above within is_create =
    let front = take n text in
    let other = front ++ more in
    let long : length front ≡ n = length-take-le n text within in
    let shared : take n other ≡ front = take-append-le n front more (omega arith) ∙ take_all n front (omega arith) in
    ⊎_elim
    (λ far.
    let same_front : first_token front ≡ first_token other = ap first_token (sym shared) ∙ first_token-take other n (omega (arith, is_create.size)) in
    let below : (first_token front).size < length front = omega (arith, ap (λ (found : Lexeme). found.size) same_front, is_create.size) in
    let same : first_token text ≡ first_token other = ap first_token (sym (take-append-drop n text)) ∙ first_token-append front (drop n text) below ∙ same_front in
    first-not_create text none (ap (λ (found : Lexeme). is_word create found.token) same ∙ is_create.word))
    (λ near.
    let few : n ≤ length create = omega arith in
    let cut : take n (take 6 other) ≡ take n other = take_take_le n 6 other near in
    let letters : map to_ascii_lowercase front ≡ take n create = ap (map to_ascii_lowercase) (sym shared ∙ sym cut) ∙ take-map n (take 6 other) ∙ ap (take n) is_create.letters in
    absurd (omega (arith, agreement-least n text create within few letters)))
    (cases_lt 6 n)

agreement-le : (text lower : List ℕ) → agreement text lower ≤ length text
agreement-le [] lower = omega arith
agreement-le (byte ∷ text) [] = omega arith
agreement-le (byte ∷ text) (letter ∷ lower) = let P : ℕ → Type 0 = λ n. n ≤ suc (length text) in cond_by P (to_ascii_lowercase byte == letter) _ _ (λ e. let later = agreement-le text lower in omega arith) (λ e. omega arith)

pub uncreated-refused : (text : List ℕ) → None ≡ after_token (is_word create) (tokens text) → Refused HasHead text (agreement text create)
uncreated-refused text none =
    let place = agreement text create in
    let rest = drop place create in
    let joined : take place text ++ (rest ++ table) ≡ (take place text ++ rest) ++ table = sym (append_assoc (take place text) rest table) in
    let begins : is_some (head (take place text ++ (rest ++ table))) ≡ true = ap (λ (bytes : List ℕ). is_some (head bytes)) joined ∙ word-head (take place text ++ rest) (lower-rest text create refl) in
    refused-at text place (agreement-le text create) (uncreated-head text none) (begins-with (take place text) (rest ++ table) begins)
    (λ n above within more. cond_same (is_some (head (take n text ++ more))) (λ e. never-create text more n none above within (head-is_create (take n text ++ more) e)))
