-- Searches that go on from place to place.
use Rattle.std.proofs.Common.{◌≡◌, ◌≢◌, ◌==◌, ◌&&◌, ℕ, zero, suc, ◌+◌, ◌-◌, ◌<◌, ◌≤◌, Bool, true, false, List, [], ◌∷◌, ◌++◌, length, get_or, drop, replicate, Option, Some, None, refl, ap, ◌∙◌, arith, subst, length-append}
use Rattle.std.specs.Prelude.{nat_eq}
use Rattle.std.specs.List.{prefix_len}
use Rattle.std.proofs.lemmas.Bool.Decides.{nat_tests}
use Rattle.std.proofs.lemmas.List.{drop_more, length-drop, length-replicate}
use Rattle.splitter_forms.specs.Scan.{after_byte, is_text, before_semicolon, before_mark, dollar_line, plus}
use Rattle.splitter_forms.specs.Pieces.{begins, is_front_of, is_dollar}
use Rattle.statement_splitter.specs.State.{IsPlain, RunWithin, GoesOn, FindsEnd}
use Rattle.splitter_forms.specs.declared.within.Within.{Within}
use Rattle.statement_splitter.proofs.Words.{begins_more, begins_long, front_cons, front_empty, same_back}

pub plus-plus : (a b : ℕ) (size : Option ℕ) → plus a (plus b size) ≡ plus (a + b) size
plus-plus a b None = refl
plus-plus a b (Some n) = let e : a + (b + n) ≡ a + b + n = omega arith in ap (λ k. Some k) e

pub plus-zero : (size : Option ℕ) → plus 0 size ≡ size
plus-zero None = refl
plus-zero (Some n) = let e : 0 + n ≡ n = omega arith in ap (λ k. Some k) e

pub goes_same : (f : List ℕ → Option ℕ) (bytes : List ℕ) (at : ℕ) → at ≤ length bytes → GoesOn f f bytes at at
goes_same f bytes at h = record { low = omega arith; high = h; same = λ more. refl }

pub goes_further : (f g h : List ℕ → Option ℕ) (bytes : List ℕ) (i j k : ℕ) → GoesOn f g bytes i j → GoesOn g h bytes j k → GoesOn f h bytes i k
goes_further f g h bytes i j k a b = record { low = omega (arith, a.low, b.low); high = b.high; same = λ more. a.same more ∙ b.same more }

pub goes_to_end : (f g : List ℕ → Option ℕ) (bytes : List ℕ) (i j k size : ℕ) → GoesOn f g bytes i j → FindsEnd g bytes j k size → FindsEnd f bytes i k size
goes_to_end f g bytes i j k size a b = record { low = omega (arith, a.low, b.low); high = b.high; finds = λ more. a.same more ∙ b.finds more }

goes_by_steps : (f : List ℕ → Option ℕ) (bytes : List ℕ) (from n : ℕ) → from + n ≤ length bytes → ((k : ℕ) → from ≤ k → k < from + n → GoesOn f f bytes k (k + 1)) → GoesOn f f bytes from (from + n)
goes_by_steps f bytes from zero h steps =
    let e : from ≡ from + 0 = omega arith in
    subst (λ k. GoesOn f f bytes from k) e (goes_same f bytes from (omega arith))
goes_by_steps f bytes from (suc n) h steps =
    let e : from + n + 1 ≡ from + suc n = omega arith in
    let before : GoesOn f f bytes from (from + n) = goes_by_steps f bytes from n (omega arith) (λ k a b. steps k a (omega arith)) in
    subst (λ k. GoesOn f f bytes from k) e (goes_further f f f bytes from (from + n) (from + n + 1) before (steps (from + n) (omega arith) (omega arith)))

pub goes_along : (f : List ℕ → Option ℕ) (bytes : List ℕ) (from to : ℕ) → from ≤ to → to ≤ length bytes → ((k : ℕ) → from ≤ k → k < to → GoesOn f f bytes k (k + 1)) → GoesOn f f bytes from to
goes_along f bytes from to low high steps =
    let e : from + (to - from) ≡ to = omega arith in
    subst (λ k. GoesOn f f bytes from k) e (goes_by_steps f bytes from (to - from) (omega arith) (λ k a b. steps k a (omega arith)))

-- a step over one byte
one_step : (f g : List ℕ → Option ℕ) (bytes : List ℕ) (at : ℕ) → at < length bytes → ((rest : List ℕ) → f (get_or bytes at 0 ∷ rest) ≡ plus 1 (g rest)) → GoesOn f g bytes at (at + 1)
one_step f g bytes at h step = record {
  low = omega arith;
  high = omega arith;
  same = λ more.
      ap (λ t. plus at (f (t ++ more))) (drop_more bytes at 0 h)
      ∙ ap (plus at) (step (drop (at + 1) bytes ++ more))
      ∙ plus-plus at 1 (g (drop (at + 1) bytes ++ more));
}

-- a byte of a statement that doesn't end it
pub semicolon_step : (within : Within) (bytes : List ℕ) (at : ℕ) → at < length bytes → (get_or bytes at 0 == 59 && is_text within) ≡ false → GoesOn (before_semicolon within) (before_semicolon (after_byte within (get_or bytes at 0))) bytes at (at + 1)
semicolon_step within bytes at h other = one_step (before_semicolon within) (before_semicolon (after_byte within (get_or bytes at 0))) bytes at h (λ rest. rw other)

pub plain_goes : (within : Within) (bytes : List ℕ) (from to : ℕ) → RunWithin within bytes from to → GoesOn (before_semicolon within) (before_semicolon within) bytes from to
plain_goes within bytes from to run =
    goes_along (before_semicolon within) bytes from to run.low run.high (λ k a b.
    let plain : IsPlain within (get_or bytes k 0) = run.plain k a b in
    let at : k < length bytes = omega (arith, run.high) in
    subst (λ after. GoesOn (before_semicolon within) (before_semicolon after) bytes k (k + 1)) plain.0 (semicolon_step within bytes k at plain.1))

pub semicolon_here : (within : Within) (bytes : List ℕ) (at : ℕ) → at < length bytes → (get_or bytes at 0 == 59 && is_text within) ≡ true → FindsEnd (before_semicolon within) bytes at at 1
semicolon_here within bytes at h here = record {
  low = omega arith;
  high = omega arith;
  finds = λ more.
      ap (λ t. plus at (before_semicolon within (t ++ more))) (drop_more bytes at 0 h)
      ∙ (let e : at + 0 ≡ at = omega arith in rw (here, e));
}

-- no mark begins where its first byte doesn't stand
pub no_first : (first : ℕ) (word bytes : List ℕ) (from to : ℕ) → from ≤ to → to ≤ length bytes → ((k : ℕ) → from ≤ k → k < to → nat_eq (get_or bytes k 0) first ≡ false) → GoesOn (before_mark (first ∷ word)) (before_mark (first ∷ word)) bytes from to
no_first first word bytes from to low high other =
    goes_along (before_mark (first ∷ word)) bytes from to low high (λ k a b.
    let differs : nat_eq first (get_or bytes k 0) ≡ false = (let is = other k a b in grind (arith, nat_tests)) in
    one_step (before_mark (first ∷ word)) (before_mark (first ∷ word)) bytes k (omega arith) (λ rest. rw differs))

-- a mark stands here
pub mark_here : (first : ℕ) (word bytes : List ℕ) (at : ℕ) → begins (first ∷ word) (drop at bytes) ≡ true → FindsEnd (before_mark (first ∷ word)) bytes at at (length (first ∷ word))
mark_here first word bytes at here =
    let long = begins_long (first ∷ word) (drop at bytes) here in
    let inside : at < length bytes = omega (arith, length-drop at bytes) in
    record {
      low = omega arith;
      high = omega (arith, length-drop at bytes);
      finds = λ more.
          let is : begins (first ∷ word) (get_or bytes at 0 ∷ drop (at + 1) bytes) ≡ true = subst (λ t. begins (first ∷ word) t ≡ true) (drop_more bytes at 0 inside) here in
          let still : begins (first ∷ word) (get_or bytes at 0 ∷ drop (at + 1) bytes ++ more) ≡ true = begins_more (first ∷ word) (get_or bytes at 0 ∷ drop (at + 1) bytes) more is in
          ap (λ t. plus at (before_mark (first ∷ word) (t ++ more))) (drop_more bytes at 0 inside)
          ∙ (let e : at + 0 ≡ at = omega arith in rw (still, e));
    }

-- no mark stands here, whatever follows
pub mark_not_here : (first : ℕ) (word bytes : List ℕ) (at : ℕ) → at < length bytes → get_or bytes at 0 ≡ first → ((more : List ℕ) → begins word (drop (at + 1) bytes ++ more) ≡ false) → GoesOn (before_mark (first ∷ word)) (before_mark (first ∷ word)) bytes at (at + 1)
mark_not_here first word bytes at inside is other = record {
  low = omega arith;
  high = omega arith;
  same = λ more.
      let differs : begins word (drop (at + 1) bytes ++ more) ≡ false = other more in
      let same : nat_eq first first ≡ true = grind (arith, nat_tests) in
      ap (λ t. plus at (before_mark (first ∷ word) (t ++ more))) (drop_more bytes at 0 inside ∙ ap (λ b. b ∷ drop (at + 1) bytes) is)
      ∙ (rw (same, differs) refl)
      ∙ plus-plus at 1 (before_mark (first ∷ word) (drop (at + 1) bytes ++ more));
}

-- the last part of a mark: so many dollars, a byte
abbrev tail : ℕ → ℕ → List ℕ
tail last n = replicate n 36 ++ last ∷ []

whole_step : (n last b : ℕ) (bs : List ℕ) → (prefix_len is_dollar bs ≡ n → n < length bs → get_or bs n 0 ≡ last → begins (tail last n) bs ≡ true) → prefix_len is_dollar (b ∷ bs) ≡ suc n → n < length bs → get_or bs n 0 ≡ last → (nat_eq 36 b && begins (tail last n) bs) ≡ true
whole_step n last b bs rest count inside is = grind (arith, nat_tests)

pub tail_whole : (n last : ℕ) (bytes : List ℕ) → prefix_len is_dollar bytes ≡ n → n < length bytes → get_or bytes n 0 ≡ last → begins (tail last n) bytes ≡ true
tail_whole n last [] count inside is = absurd (omega arith)
tail_whole zero last (b ∷ bs) count inside is = let same : nat_eq last b ≡ true = grind (arith, nat_tests) in rw same
tail_whole (suc n) last (b ∷ bs) count inside is = whole_step n last b bs (tail_whole n last bs) count (omega arith) is

front_step : (n last b : ℕ) (bs : List ℕ) → (prefix_len is_dollar bs ≡ length bs → length bs ≤ n → is_front_of (tail last n) bs ≡ true) → prefix_len is_dollar (b ∷ bs) ≡ suc (length bs) → length bs ≤ n → (nat_eq b 36 && is_front_of (tail last n) bs) ≡ true
front_step n last b bs rest count short = grind (arith, nat_tests)

pub tail_front : (n last : ℕ) (bytes : List ℕ) → prefix_len is_dollar bytes ≡ length bytes → length bytes ≤ n → is_front_of (tail last n) bytes ≡ true
tail_front zero last [] count short = front_empty last []
tail_front (suc n) last [] count short = front_empty 36 (tail last n)
tail_front zero last (b ∷ bs) count short = absurd (omega arith)
tail_front (suc n) last (b ∷ bs) count short = front_cons 36 b (tail last n) bs ∙ front_step n last b bs (tail_front n last bs) count (omega arith)

neither_last : (last b : ℕ) (bs : List ℕ) → last ≢ 36 → (prefix_len is_dollar (b ∷ bs) ≡ 0 → b ≢ last) → nat_eq b last ≡ false
neither_last last b bs other differs = grind (arith, nat_tests)

neither_step : (n b : ℕ) (bs : List ℕ) (rest : Bool) → (b ≡ 36 → rest ≡ false) → (nat_eq 36 b && rest) ≡ false
neither_step n b bs rest h = grind (arith, nat_tests)

neither_back : (n b : ℕ) (bs : List ℕ) (rest : Bool) → (b ≡ 36 → rest ≡ false) → (nat_eq b 36 && rest) ≡ false
neither_back n b bs rest h = grind (arith, nat_tests)

dollar_next : (b : ℕ) (bs : List ℕ) → b ≡ 36 → prefix_len is_dollar (b ∷ bs) ≡ suc (prefix_len is_dollar bs)
dollar_next b bs is = grind (arith, nat_tests)

pub tail_neither : (n last : ℕ) (bytes : List ℕ) → last ≢ 36 → (prefix_len is_dollar bytes ≡ length bytes → n < length bytes) → (prefix_len is_dollar bytes < length bytes → prefix_len is_dollar bytes ≡ n → get_or bytes n 0 ≢ last) → (begins (tail last n) bytes ≡ false) × (is_front_of (tail last n) bytes ≡ false)
tail_neither n last [] other long differs = absurd (let l : n < 0 = long refl in omega arith)
tail_neither zero last (b ∷ bs) other long differs =
    let not : nat_eq b last ≡ false = neither_last last b bs other (λ none. differs (omega arith) none) in
    let back : nat_eq last b ≡ false = same_back b last false not in
    (rw back, front_cons last b [] bs ∙ rw not)
tail_neither (suc n) last (b ∷ bs) other long differs =
    let rest = λ (is : b ≡ 36). (let next = dollar_next b bs is in tail_neither n last bs other (λ all. let l : suc n < suc (length bs) = long (omega arith) in omega arith) (λ some count. differs (omega arith) (omega arith))) in
    (neither_step n b bs (begins (tail last n) bs) (λ is. (rest is).0), front_cons 36 b (tail last n) bs ∙ neither_back n b bs (is_front_of (tail last n) bs) (λ is. (rest is).1))

pub length-dollar_line : (n : ℕ) → length (dollar_line n) ≡ n + 2
length-dollar_line n = simp (length-append, length-replicate) (omega arith)
