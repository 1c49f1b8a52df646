-- The texts that text literals are written for.
use Rattle.std.proofs.Common.{◌≡◌, ◌==◌, ◌||◌, ◌&&◌, inl, inr, ℕ, zero, suc, ◌-◌, ◌≤◌, Bool, true, false, cond, List, [], ◌∷◌, ◌++◌, length, take, drop, refl, sym, ◌∙◌, ap, subst, arith, append_assoc}
use Rattle.std.specs.List.{flat_map, list_all}
use Rattle.std.proofs.lemmas.Bool.Decides.{nat_tests}
use Rattle.std.proofs.lemmas.List.{append_cancel_right}
use Rattle.grammar.specs.Language.{Fixed, One, Then, Or, Times, Many, Nothing}
use Rattle.sql_cells.specs.Literal.{is_special, letter_of, escaped_byte, text_literal}
use Rattle.sql_cells.specs.Spelling.{letter_value, text_value}
use Rattle.sql_literals.proofs.Units.{escaped_back}
use Rattle.statement_reading.specs.Parts.{is_own, is_written_letter, WrittenEscape, WrittenByte, OpenedText, WrittenText, DigestText}
use Rattle.statement_reading.specs.Readings.{has_byte}
use Rattle.statement_forms.specs.Statement.{is_lower_digit, IsDigest}
use Rattle.statement_reading.proofs.NameValues.{inner_of, outer_size}

letter_back : (l : ℕ) → is_written_letter l ≡ true → is_special (letter_value l) ≡ true
letter_back l written = grind (arith, nat_tests)

letter_same : (l : ℕ) → is_written_letter l ≡ true → letter_of (letter_value l) ≡ l
letter_same l written = grind (arith, nat_tests)

own_plain : (c : ℕ) → is_own c ≡ true → is_special c ≡ false
own_plain c own = by_test (is_special c) own where
  by_test : (t : Bool) → cond t false true ≡ true → t ≡ false
  by_test true e = cc
  by_test false e = refl

plain_own : (c : ℕ) → is_special c ≡ false → is_own c ≡ true
plain_own c plain = ap (λ t. cond t false true) plain

byte_of : (t : List ℕ) → WrittenByte t → (v : ℕ) × (t ≡ escaped_byte v)
unfolding WrittenByte WrittenEscape Or One Then Fixed
byte_of t (inl (c, is, own)) = (c, is ∙ sym (ap (λ s. cond s (92 ∷ letter_of c ∷ []) (c ∷ [])) (own_plain c own)))
byte_of t (inr (a, b, e, back, (l, is, written))) = (letter_value l, e ∙ ap (λ x. x ++ b) back ∙ ap (λ x. 92 ∷ x) is ∙ ap (λ k. 92 ∷ k ∷ []) (sym (letter_same l written)) ∙ sym (ap (λ s. cond s (92 ∷ letter_of (letter_value l) ∷ []) (letter_value l ∷ [])) (letter_back l written)))

bytes_of : (n : ℕ) (t : List ℕ) → Times WrittenByte n t → (v : List ℕ) × (t ≡ flat_map escaped_byte v)
unfolding Times Then Nothing
bytes_of zero t none = ([], none)
bytes_of (suc n) t (a, b, e, one, more) =
    let (c, is) = byte_of a one in
    let (v, rest) = bytes_of n b more in
    (c ∷ v, e ∙ ap (λ x. x ++ b) is ∙ ap (λ x. escaped_byte c ++ x) rest)

-- A text literal is written for some text.
pub text_of : (t : List ℕ) → WrittenText t → (v : List ℕ) × (t ≡ text_literal v)
unfolding WrittenText OpenedText Then Fixed Many
text_of t (x, y, e, (a, b, split, begin, (n, bytes)), close) =
    let (v, is) = bytes_of n b bytes in
    (v, e ∙ ap (λ l. l ++ y) (split ∙ ap (λ l. l ++ b) begin ∙ ap (λ l. 39 ∷ l) is) ∙ ap (λ l. 39 ∷ flat_map escaped_byte v ++ l) close)

special_letter : (c : ℕ) → is_special c ≡ true → is_written_letter (letter_of c) ≡ true
special_letter c special = grind (arith, nat_tests)

byte_text : (c : ℕ) → WrittenByte (escaped_byte c)
unfolding WrittenByte WrittenEscape Or One Then Fixed
byte_text c = by_test (is_special c) refl where
  by_test : (s : Bool) → is_special c ≡ s → Or (One is_own) (Then (Fixed (92 ∷ [])) (One is_written_letter)) (escaped_byte c)
  by_test true is = subst (λ s. Or (One is_own) (Then (Fixed (92 ∷ [])) (One is_written_letter)) (cond s (92 ∷ letter_of c ∷ []) (c ∷ []))) (sym is) (inr (92 ∷ [], letter_of c ∷ [], refl, refl, (letter_of c, refl, special_letter c is)))
  by_test false is = subst (λ s. Or (One is_own) (Then (Fixed (92 ∷ [])) (One is_written_letter)) (cond s (92 ∷ letter_of c ∷ []) (c ∷ []))) (sym is) (inl (c, refl, plain_own c is))

bytes_text : (v : List ℕ) → Many WrittenByte (flat_map escaped_byte v)
unfolding Many Times Then Nothing
bytes_text [] = (0, refl)
bytes_text (c ∷ v) = let (n, more) = bytes_text v in (suc n, (escaped_byte c, flat_map escaped_byte v, refl, byte_text c, more))

-- The literal that is written for a text is a text literal.
pub text_text : (v : List ℕ) → WrittenText (text_literal v)
unfolding WrittenText OpenedText Then Fixed
text_text v = (39 ∷ flat_map escaped_byte v, 39 ∷ [], refl, (39 ∷ [], flat_map escaped_byte v, refl, refl, bytes_text v), refl)

same_texts : (u v : List ℕ) → flat_map escaped_byte u ≡ flat_map escaped_byte v → u ≡ v
same_texts u v e = sym (escaped_back u) ∙ ap text_value e ∙ escaped_back v

pub one_text : (u v : List ℕ) → text_literal u ≡ text_literal v → u ≡ v
one_text u v e = same_texts u v (append_cancel_right (flat_map escaped_byte u) (flat_map escaped_byte v) (39 ∷ []) (cc))

-- what stands between the quotes

pub text_size : (t : List ℕ) → WrittenText t → 2 ≤ length t
text_size t written = let (v, is) = text_of t written in subst (λ l. 2 ≤ length l) (sym is) (outer_size 39 39 (flat_map escaped_byte v))

text_inner : (t v : List ℕ) → t ≡ text_literal v → take (length t - 1 - 1) (drop 1 t) ≡ flat_map escaped_byte v
text_inner t v is = rw is (inner_of 39 39 (flat_map escaped_byte v))

pub text_made : (t made : List ℕ) → WrittenText t → made ≡ text_value (take (length t - 1 - 1) (drop 1 t)) → text_literal made ≡ t
text_made t made written e =
    let (v, is) = text_of t written in
    let same : made ≡ v = e ∙ ap text_value (text_inner t v is) ∙ escaped_back v in
    ap text_literal same ∙ sym is

no_escape : (c : ℕ) (u : List ℕ) (s : Bool) → is_special c ≡ s → has_byte 92 (cond s (92 ∷ letter_of c ∷ []) (c ∷ []) ++ u) ≡ false → (s ≡ false) × (has_byte 92 u ≡ false)
no_escape c u true is none = absurd (cc none)
no_escape c u false is none = (refl, by_test (c == 92) none) where
  by_test : (t : Bool) → (t || has_byte 92 u) ≡ false → has_byte 92 u ≡ false
  by_test true e = cc
  by_test false e = e

unescaped_same : (v : List ℕ) → has_byte 92 (flat_map escaped_byte v) ≡ false → flat_map escaped_byte v ≡ v
unescaped_same [] none = refl
unescaped_same (c ∷ v) none =
    let there = no_escape c (flat_map escaped_byte v) (is_special c) refl none in
    ap (λ s. cond s (92 ∷ letter_of c ∷ []) (c ∷ []) ++ flat_map escaped_byte v) there.0 ∙ ap (λ l. c ∷ l) (unescaped_same v there.1)

-- Without a backslash inside, the inner bytes are the text.
pub text_inside : (t : List ℕ) → WrittenText t → has_byte 92 (take (length t - 1 - 1) (drop 1 t)) ≡ false → text_literal (take (length t - 1 - 1) (drop 1 t)) ≡ t
text_inside t written none =
    let (v, is) = text_of t written in
    let inner : take (length t - 1 - 1) (drop 1 t) ≡ flat_map escaped_byte v = text_inner t v is in
    let same : flat_map escaped_byte v ≡ v = unescaped_same v (subst (λ l. has_byte 92 l ≡ false) inner none) in
    ap text_literal (inner ∙ same) ∙ sym is

-- digests

digits_of : (n : ℕ) (t : List ℕ) → Times (One is_lower_digit) n t → (length t ≡ n) × (list_all is_lower_digit t ≡ true)
unfolding Times One Then Nothing
digits_of zero t none = (ap length none, ap (list_all is_lower_digit) none)
digits_of (suc n) t (a, b, e, (c, is, digit), more) =
    let rest = digits_of n b more in
    let split : t ≡ c ∷ b = e ∙ ap (λ l. l ++ b) is in
    (ap length split ∙ ap suc rest.0, ap (list_all is_lower_digit) split ∙ ap (λ k. k && list_all is_lower_digit b) digit ∙ rest.1)

pub digest_of : (t : List ℕ) → DigestText t → IsDigest t
unfolding DigestText
digest_of t digits = digits_of 40 t digits

both_of : (a b : Bool) → (a && b) ≡ true → (a ≡ true) × (b ≡ true)
both_of true true e = (refl, refl)
both_of true false e = cc
both_of false b e = cc

digits_text : (n : ℕ) (t : List ℕ) → length t ≡ n → list_all is_lower_digit t ≡ true → Times (One is_lower_digit) n t
unfolding Times One Then Nothing
digits_text zero [] size all = refl
digits_text zero (c ∷ t) size all = absurd (omega arith)
digits_text (suc n) [] size all = absurd (omega arith)
digits_text (suc n) (c ∷ t) size all = let both = both_of (is_lower_digit c) (list_all is_lower_digit t) all in (c ∷ [], t, refl, (c, refl, both.0), digits_text n t (omega arith) both.1)

pub digest_text : (t : List ℕ) → IsDigest t → DigestText t
unfolding DigestText
digest_text t digest = digits_text 40 t digest.0 digest.1

digit_plain : (c : ℕ) → is_lower_digit c ≡ true → is_special c ≡ false
digit_plain c digit = grind (arith, nat_tests)

plain_digits : (t : List ℕ) → list_all is_lower_digit t ≡ true → flat_map escaped_byte t ≡ t
plain_digits [] all = refl
plain_digits (c ∷ t) all =
    let both = both_of (is_lower_digit c) (list_all is_lower_digit t) all in
    ap (λ s. cond s (92 ∷ letter_of c ∷ []) (c ∷ []) ++ flat_map escaped_byte t) (digit_plain c both.0) ∙ ap (λ l. c ∷ l) (plain_digits t both.1)

-- Nothing is escaped in a digest.
pub digest_quoted : (t : List ℕ) → IsDigest t → text_literal t ≡ 39 ∷ t ++ 39 ∷ []
digest_quoted t digest = ap (λ l. 39 ∷ l ++ 39 ∷ []) (plain_digits t digest.1)

-- A digest between quotes, with the quotes as parts of the words.
pub digest_spelled : (w v tail : List ℕ) → IsDigest v → w ++ text_literal v ++ tail ≡ (w ++ 39 ∷ []) ++ v ++ (39 ∷ tail)
digest_spelled w v tail digest = ap (λ l. w ++ l ++ tail) (digest_quoted v digest) ∙ regrouped w v tail where
  regrouped : (w v tail : List ℕ) → w ++ (39 ∷ v ++ 39 ∷ []) ++ tail ≡ (w ++ 39 ∷ []) ++ v ++ (39 ∷ tail)
  regrouped w v tail = simp append_assoc
