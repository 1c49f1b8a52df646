-- The grammar of digests, and how they are read.
use Rattle.std.proofs.Common.{◌≡◌, ℕ, ◌+◌, ◌-◌, ◌<◌, true, false, List, [], length, take, drop, get_or, refl, ap, ◌∙◌, subst, arith, add-zero, length-drop, Ok, Err}
use Rattle.std.proofs.lemmas.List.{get_or-drop}
use Rattle.grammar.specs.Language.{Begins, Reads, Nothing, One, Then, Times}
use Rattle.grammar.proofs.Empty.{no_empty_one, begins_one, begins_then}
use Rattle.grammar.proofs.Leaves.{one_apart, one_there, one_none}
use Rattle.grammar.proofs.Onward.{Onward, onward_start, onward_alone, onward_counted, onward_counted_broken, onward_none, onward_done}
use Rattle.grammar.proofs.Places.{rest_of}
use Rattle.grammar.proofs.Repeats.{begins_times}
use Rattle.grammar.proofs.Rows.{Apart}
use Rattle.grammar.proofs.Sets.{Lengthens, lengthens_one, lengthens_times}
use Rattle.statement_reading.specs.Parts.{DigestText}
use Rattle.statement_forms.specs.Statement.{is_lower_digit}

pub nothing_begun : Begins Nothing []
unfolding Begins Nothing
nothing_begun = ([], refl)

pub digit_there : (s : List ℕ) → 0 < length s → is_lower_digit (get_or s 0 0) ≡ true → Reads (One is_lower_digit) s (Ok 1)
digit_there s long passes = one_there is_lower_digit s long passes

pub digit_none : (s : List ℕ) → (0 < length s → is_lower_digit (get_or s 0 0) ≡ false) → Reads (One is_lower_digit) s (Err 0)
digit_none s fails = one_none is_lower_digit 48 refl s fails

pub begins_digits : (n : ℕ) → Begins (Times (One is_lower_digit) n) []
begins_digits n = begins_times (One is_lower_digit) n (begins_one is_lower_digit 48 refl)

pub begins_digest : Begins DigestText []
unfolding DigestText
begins_digest = begins_digits 40

-- Nothing lengthens a digest.
pub lengthens_digest : (P : ℕ → Type 0) → Lengthens DigestText P
unfolding DigestText
lengthens_digest P = lengthens_times (One is_lower_digit) P 40 (one_apart is_lower_digit _) (no_empty_one is_lower_digit) (lengthens_one is_lower_digit P)

-- one digit after another

head_at : (s : List ℕ) (i : ℕ) → get_or (drop i s) 0 0 ≡ get_or s i 0
head_at s i = get_or-drop i s 0 0 ∙ ap (λ k. get_or s k 0) (add-zero i)

apart_digit : (n : ℕ) → Apart (One is_lower_digit) (Then (Times (One is_lower_digit) n) Nothing)
apart_digit n = one_apart is_lower_digit _

pub digest_start : (s : List ℕ) → Onward DigestText (Then (Times (One is_lower_digit) (40 - 0)) Nothing) s 0
unfolding DigestText
digest_start s = onward_alone DigestText (Times (One is_lower_digit) 40) s 0 (onward_start DigestText s)

pub digest_more : (s : List ℕ) (i : ℕ) → i < 40 → i < length s → is_lower_digit (get_or s i 0) ≡ true → Onward DigestText (Then (Times (One is_lower_digit) (40 - i)) Nothing) s i → Onward DigestText (Then (Times (One is_lower_digit) (40 - (i + 1))) Nothing) s (i + 1)
digest_more s i few within passes onward =
    let one : Reads (One is_lower_digit) (take (length s - i) (drop i s)) (Ok 1) = rw (rest_of s i) (digit_there (drop i s) (omega (arith, length-drop i s)) (rw (head_at s i) passes)) in
    subst (λ n. Onward DigestText (Then (Times (One is_lower_digit) n) Nothing) s (i + 1)) (omega arith)
    (onward_counted DigestText (One is_lower_digit) Nothing s i 1 (40 - i) (Ok 1) onward (omega arith) (apart_digit (40 - i - 1)) one refl)

pub digest_broken : (s : List ℕ) (i : ℕ) → i < 40 → (i < length s → is_lower_digit (get_or s i 0) ≡ false) → Onward DigestText (Then (Times (One is_lower_digit) (40 - i)) Nothing) s i → Reads DigestText s (Err i)
digest_broken s i few fails onward =
    let none : Reads (One is_lower_digit) (take (length s - i) (drop i s)) (Err 0) = rw (rest_of s i) (digit_none (drop i s) (λ long. rw (head_at s i) (fails (omega (arith, length-drop i s))))) in
    subst (λ n. Reads DigestText s (Err n)) (add-zero i)
    (onward_counted_broken DigestText (One is_lower_digit) Nothing s i 0 (40 - i) (Err 0) onward (omega arith) (apart_digit (40 - i - 1)) (begins_then _ _ (begins_digits (40 - i - 1)) nothing_begun) none refl)

pub digest_end : (s : List ℕ) → Onward DigestText (Then (Times (One is_lower_digit) (40 - 40)) Nothing) s 40 → Reads DigestText s (Ok 40)
digest_end s onward = onward_done DigestText s 40 (onward_none DigestText (One is_lower_digit) Nothing s 40 onward)
