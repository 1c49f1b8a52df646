-- Ends of quotes and comments, from a place on.
use Rattle.std.proofs.Common.{◌≡◌, ℕ, suc, ◌+◌, ◌<◌, ◌≤◌, ◌==◌, ◌&&◌, not, Bool, true, false, cond, List, [], ◌∷◌, length, drop, get_or, Option, Some, None, refl, ◌∙◌, ap, arith, drop-cons, length-drop, drop_of_length-le}
use Rattle.std.proofs.lemmas.List.{drop-drop}
use Rattle.std.proofs.lemmas.List.Sums.{prefix_len-drop_yes, prefix_len-drop_no, prefix_len-drop_all}
use Rattle.sql_tokens.specs.Reading.{closes, quoted_step}
use Rattle.object_forms.specs.Token.{closing, comment_end, ends_comment, more}

more-more : (n m : ℕ) (size : Option ℕ) → more n (more m size) ≡ more (n + m) size
more-more n m None = refl
more-more n m (Some size) = ap Some (omega arith)

pub more-zero : (size : Option ℕ) → more 0 size ≡ size
more-zero None = refl
more-zero (Some size) = ap Some (omega arith)

-- inside quotes, a byte that doesn't end them is passed over, and maybe the next one
after_byte : (quote byte : ℕ) (bytes : List ℕ) → Option ℕ
after_byte quote byte bytes = cond (closes quote (byte ∷ bytes)) (Some 1) (more (quoted_step quote byte) (closing quote (drop (quoted_step quote byte) (byte ∷ bytes))))

closing-only : (quote byte : ℕ) (ends escapes : Bool) → (byte == quote) ≡ ends → (byte == 92 && not (quote == 96)) ≡ escapes → closing quote (byte ∷ []) ≡ after_byte quote byte []
unfolding after_byte
closing-only quote byte true escapes e f = rw e refl
closing-only quote byte false true e f = rw (e, f) refl
closing-only quote byte false false e f = rw (e, f) refl

closing-both : (quote byte next : ℕ) (bytes : List ℕ) (ends doubled escapes : Bool) → (byte == quote) ≡ ends → (next == quote) ≡ doubled → (byte == 92 && not (quote == 96)) ≡ escapes → closing quote (byte ∷ next ∷ bytes) ≡ after_byte quote byte (next ∷ bytes)
unfolding after_byte
closing-both quote byte next bytes true true escapes e f g = rw (e, f) refl
closing-both quote byte next bytes true false escapes e f g = rw (e, f) refl
closing-both quote byte next bytes false doubled true e f g = rw (e, g) refl
closing-both quote byte next bytes false doubled false e f g = rw (e, g) refl

closing-cons : (quote byte : ℕ) (bytes : List ℕ) → closing quote (byte ∷ bytes) ≡ cond (closes quote (byte ∷ bytes)) (Some 1) (more (quoted_step quote byte) (closing quote (drop (quoted_step quote byte) (byte ∷ bytes))))
unfolding after_byte
closing-cons quote byte [] = closing-only quote byte _ _ refl refl
closing-cons quote byte (next ∷ bytes) = closing-both quote byte next bytes _ _ _ refl refl refl

-- what is left from a place on begins with the byte at it
pub drop-at : (text : List ℕ) (at : ℕ) → at < length text → drop at text ≡ get_or text at 0 ∷ drop (at + 1) text
drop-at text at inside = let next : suc at ≡ at + 1 = omega arith in drop-cons text at 0 inside ∙ ap (λ (n : ℕ). get_or text at 0 ∷ drop n text) next

more-cond : (at n m : ℕ) (ends : Bool) (size : Option ℕ) → more at (cond ends (Some n) (more m size)) ≡ cond ends (Some (at + n)) (more (at + m) size)
more-cond at n m true size = refl
more-cond at n m false size = more-more at m size

step-drop : (quote at : ℕ) (text rest : List ℕ) (byte : ℕ) → drop at text ≡ byte ∷ rest → more at (closing quote (drop at text)) ≡ cond (closes quote (drop at text)) (Some (at + 1)) (more (at + quoted_step quote byte) (closing quote (drop (at + quoted_step quote byte) text)))
step-drop quote at text rest byte front =
    let one : closing quote (drop at text) ≡ cond (closes quote (drop at text)) (Some 1) (more (quoted_step quote byte) (closing quote (drop (quoted_step quote byte) (drop at text)))) = rw front (closing-cons quote byte rest) in
    ap (more at) one ∙ more-cond at 1 (quoted_step quote byte) (closes quote (drop at text)) (closing quote (drop (quoted_step quote byte) (drop at text)))
    ∙ ap (λ (left : List ℕ). cond (closes quote (drop at text)) (Some (at + 1)) (more (at + quoted_step quote byte) (closing quote left))) (drop-drop (quoted_step quote byte) at text)

pub closing_ends : (quote at : ℕ) (text : List ℕ) → at < length text → closes quote (drop at text) ≡ true → more at (closing quote (drop at text)) ≡ Some (at + 1)
closing_ends quote at text inside ends = step-drop quote at text (drop (at + 1) text) (get_or text at 0) (drop-at text at inside) ∙ rw ends refl

pub closing_goes_on : (quote at : ℕ) (text : List ℕ) → at < length text → closes quote (drop at text) ≡ false → more at (closing quote (drop at text)) ≡ more (at + quoted_step quote (get_or text at 0)) (closing quote (drop (at + quoted_step quote (get_or text at 0)) text))
closing_goes_on quote at text inside ends = step-drop quote at text (drop (at + 1) text) (get_or text at 0) (drop-at text at inside) ∙ rw ends refl

pub closing-past : (quote at : ℕ) (text : List ℕ) → length text ≤ at → more at (closing quote (drop at text)) ≡ None
closing-past quote at text past = rw (drop_of_length-le text past) refl

comment_end-drop : (at : ℕ) (text rest : List ℕ) (byte next : ℕ) → drop at text ≡ byte ∷ next ∷ rest → drop (at + 1) text ≡ next ∷ rest → more at (comment_end (drop at text)) ≡ cond (ends_comment byte next) (Some (at + 2)) (more (at + 1) (comment_end (drop (at + 1) text)))
comment_end-drop at text rest byte next front after = rw (front, after) (more-cond at 2 1 (ends_comment byte next) (comment_end (next ∷ rest)))

two-at : (at : ℕ) (text : List ℕ) → at + 1 < length text → more at (comment_end (drop at text)) ≡ cond (ends_comment (get_or text at 0) (get_or text (at + 1) 0)) (Some (at + 2)) (more (at + 1) (comment_end (drop (at + 1) text)))
two-at at text inside =
    let after = drop-at text (at + 1) inside in
    let first : at < length text = omega arith in
    let front : drop at text ≡ get_or text at 0 ∷ get_or text (at + 1) 0 ∷ drop (at + 1 + 1) text = drop-at text at first ∙ ap (λ (left : List ℕ). get_or text at 0 ∷ left) after in
    comment_end-drop at text (drop (at + 1 + 1) text) (get_or text at 0) (get_or text (at + 1) 0) front after

pub comment_end-ends : (at : ℕ) (text : List ℕ) → at + 1 < length text → ends_comment (get_or text at 0) (get_or text (at + 1) 0) ≡ true → more at (comment_end (drop at text)) ≡ Some (at + 2)
comment_end-ends at text inside ends = two-at at text inside ∙ rw ends refl

pub comment_end-goes_on : (at : ℕ) (text : List ℕ) → at + 1 < length text → ends_comment (get_or text at 0) (get_or text (at + 1) 0) ≡ false → more at (comment_end (drop at text)) ≡ more (at + 1) (comment_end (drop (at + 1) text))
comment_end-goes_on at text inside ends = two-at at text inside ∙ rw ends refl

comment_end-short : (text : List ℕ) → length text ≤ 1 → comment_end text ≡ None
comment_end-short [] short = refl
comment_end-short (byte ∷ []) short = refl
comment_end-short (byte ∷ next ∷ bytes) short = absurd (omega arith)

pub comment_end-past : (at : ℕ) (text : List ℕ) → length text ≤ at + 1 → more at (comment_end (drop at text)) ≡ None
comment_end-past at text past = rw (comment_end-short (drop at text) (omega (arith, length-drop at text))) refl

pub ruleset prefixes = (prefix_len-drop_yes, prefix_len-drop_no, prefix_len-drop_all)

pub ruleset quotes = (more-zero, closing_ends, closing_goes_on, closing-past)

pub ruleset comments = (more-zero, comment_end-ends, comment_end-goes_on, comment_end-past)
