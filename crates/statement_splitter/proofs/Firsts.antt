-- The first byte that passes a test, from a place on.
use Rattle.std.proofs.Common.{◌≡◌, ℕ, ◌+◌, ◌-◌, ◌<◌, ◌≤◌, Bool, true, false, List, ◌∷◌, length, get_or, drop, Some, None, refl, sym, ap, ◌∙◌, arith}
use Rattle.std.specs.Prelude.{nat_eq}
use Rattle.std.proofs.lemmas.Bool.Decides.{nat_tests}
use Rattle.std.proofs.lemmas.List.{drop_more, drop_all, length-drop, get_or-drop}
use Rattle.memchr.specs.Find.{IsFirstByte, is_byte}
use Rattle.splitter_forms.specs.Scan.{before_mark}
use Rattle.splitter_forms.specs.Pieces.{begins, is_front_of}
use Rattle.statement_splitter.specs.State.{Until, GoesOn, FindsEnd}
use Rattle.statement_splitter.proofs.Words.{front_cons, front_empty, neither_more}
use Rattle.statement_splitter.proofs.Searches.{goes_further, goes_to_end, no_first, mark_here, mark_not_here}

not_true : (b : Bool) → ¬ (b ≡ true) → b ≡ false
not_true true h = absurd (h refl)
not_true false h = refl

module _ (test : ℕ → Bool) (bytes : List ℕ) (from : ℕ) (rest : List ℕ) (is : rest ≡ drop from bytes) where
  there : (k : ℕ) → from ≤ k → get_or rest (k - from) 0 ≡ get_or bytes k 0
  there k low =
      let e : from + (k - from) ≡ k = omega arith in
      ap (λ xs. get_or xs (k - from) 0) is ∙ get_or-drop from bytes (k - from) 0 ∙ ap (λ n. get_or bytes n 0) e

  fails : (k : ℕ) → from ≤ k → ¬ (test (get_or rest (k - from) 0) ≡ true) → test (get_or bytes k 0) ≡ false
  fails k low h = ap test (sym (there k low)) ∙ not_true _ h

  pub until_some : (size : ℕ) → from ≤ length bytes → IsFirstByte test rest (Some size) → Until test bytes from (from + size)
  until_some size inside (none, here) =
      let long : length rest ≡ length bytes - from = ap length is ∙ length-drop from bytes in
      let e : from + size - from ≡ size = omega arith in
      record {
        low = omega arith;
        high = omega (arith, none.high);
        before = λ k low high. fails k low (none.before (k - from) (omega arith) (omega arith));
        passes = λ _. ap test (sym (there (from + size) (omega arith)) ∙ ap (λ n. get_or rest n 0) e) ∙ here;
      }

  pub until_none : from ≤ length bytes → IsFirstByte test rest None → Until test bytes from (length bytes)
  until_none inside none =
      let long : length rest ≡ length bytes - from = ap length is ∙ length-drop from bytes in
      record {
        low = inside;
        high = omega arith;
        before = λ k low high. fails k low (none (k - from) (omega arith) (omega arith));
        passes = λ h. absurd (omega arith);
      }

-- a mark begins with its first byte
module _ (first : ℕ) (word bytes : List ℕ) where
  pub first_goes : (from at : ℕ) → Until (is_byte first) bytes from at → GoesOn (before_mark (first ∷ word)) (before_mark (first ∷ word)) bytes from at
  first_goes from at until = no_first first word bytes from at until.low until.high until.before

  pub first_is : (from at : ℕ) → Until (is_byte first) bytes from at → at < length bytes → get_or bytes at 0 ≡ first
  first_is from at until inside = let is = until.passes inside in grind (arith, nat_tests)

  pub none_after : (from at : ℕ) → Until (is_byte first) bytes from at → at ≡ length bytes → GoesOn (before_mark (first ∷ word)) (before_mark (first ∷ word)) bytes from at × (is_front_of (first ∷ word) (drop at bytes) ≡ true)
  none_after from at until all = (first_goes from at until, ap (is_front_of (first ∷ word)) (drop_all at bytes (omega arith)) ∙ front_empty first word)

  pub mark_ends : (from at : ℕ) → Until (is_byte first) bytes from at → at < length bytes → begins word (drop (at + 1) bytes) ≡ true → FindsEnd (before_mark (first ∷ word)) bytes from at (length (first ∷ word))
  mark_ends from at until inside rest =
      let same : nat_eq first first ≡ true = grind (arith, nat_tests) in
      let here : begins (first ∷ word) (first ∷ drop (at + 1) bytes) ≡ true = rw same rest in
      let cut : drop at bytes ≡ first ∷ drop (at + 1) bytes = drop_more bytes at 0 inside ∙ ap (λ b. b ∷ drop (at + 1) bytes) (first_is from at until inside) in
      goes_to_end (before_mark (first ∷ word)) (before_mark (first ∷ word)) bytes from at at (length (first ∷ word)) (first_goes from at until)
      (mark_here first word bytes at (ap (begins (first ∷ word)) cut ∙ here))

  pub mark_may : (from at : ℕ) → Until (is_byte first) bytes from at → at < length bytes → is_front_of word (drop (at + 1) bytes) ≡ true → GoesOn (before_mark (first ∷ word)) (before_mark (first ∷ word)) bytes from at × (is_front_of (first ∷ word) (drop at bytes) ≡ true)
  mark_may from at until inside rest =
      let same : nat_eq first first ≡ true = grind (arith, nat_tests) in
      let cut : drop at bytes ≡ first ∷ drop (at + 1) bytes = drop_more bytes at 0 inside ∙ ap (λ b. b ∷ drop (at + 1) bytes) (first_is from at until inside) in
      (first_goes from at until, ap (is_front_of (first ∷ word)) cut ∙ front_cons first first word (drop (at + 1) bytes) ∙ (rw same rest))

  pub mark_not : (from at : ℕ) → Until (is_byte first) bytes from at → at < length bytes → begins word (drop (at + 1) bytes) ≡ false → is_front_of word (drop (at + 1) bytes) ≡ false → GoesOn (before_mark (first ∷ word)) (before_mark (first ∷ word)) bytes from (at + 1)
  mark_not from at until inside whole front =
      goes_further (before_mark (first ∷ word)) (before_mark (first ∷ word)) (before_mark (first ∷ word)) bytes from at (at + 1) (first_goes from at until)
      (mark_not_here first word bytes at inside (first_is from at until inside) (λ more. (neither_more word (drop (at + 1) bytes) more whole front).0))
