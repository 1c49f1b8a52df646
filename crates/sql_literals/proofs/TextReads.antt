-- The grammar of strings: what comes first, what lengthens them, and how they are read.
use Rattle.std.proofs.Common.{◌≡◌, ◌≢◌, ℕ, zero, suc, ◌+◌, ◌-◌, ◌<◌, ◌≤◌, ◌⊎◌, inl, inr, true, false, List, [], ◌∷◌, length, take, drop, get_or, refl, sym, subst, arith, add-zero, length-drop, Ok, Err}
use Rattle.std.proofs.lemmas.Bool.Decides.{nat_tests}
use Rattle.std.proofs.lemmas.List.{get_or-drop}
use Rattle.grammar.specs.Language.{Language, Begins, Reads, Fixed, One, Many, Absent}
use Rattle.grammar.proofs.Choices.{place_or, whole_or, broken_or, reads_same, swapped, neither}
use Rattle.grammar.proofs.Empty.{no_empty_fixed, no_empty_one, no_empty_then, begins_fixed, begins_one, begins_then}
use Rattle.grammar.proofs.Leaves.{fixed_apart, fixed_byte, fixed_other, one_there, one_none}
use Rattle.grammar.proofs.Onward.{Onward, onward_more}
use Rattle.grammar.proofs.Places.{rest_of}
use Rattle.grammar.proofs.Repeats.{apart_many, begins_many}
use Rattle.grammar.proofs.Rows.{Apart, then_read, then_broken}
use Rattle.grammar.proofs.Sets.{Starts, Lengthens, apart_by, apart_free, starts_fixed, starts_one, starts_then, starts_either, starts_many, lengthens_fixed, lengthens_one, lengthens_then, lengthens_before, lengthens_or, lengthens_many}
use Rattle.grammar.proofs.Skips.{none_row, none_broken}
use Rattle.sql_cells.specs.Literal.{is_special}
use Rattle.sql_literals.specs.Runs.{PlainRun}
use Rattle.sql_cells.specs.Spelling.{is_plain, is_escape_letter, Escape, Inner, Opened, Quoted, Text}

abbrev IsPlain : ℕ → Type 0
IsPlain b = is_plain b ≡ true

abbrev IsInnerStart : ℕ → Type 0
IsInnerStart b = IsPlain b ⊎ (b ≡ 92)

not_both : (c : ℕ) → IsPlain c → c ≡ 92 → ⊥
not_both c plain back = let wrong : IsPlain 92 = subst IsPlain back plain in cc

not_quote : (c : ℕ) → IsInnerStart c → c ≡ 39 → ⊥
not_quote c (inl plain) quote = let wrong : IsPlain 39 = subst IsPlain quote plain in cc
not_quote c (inr back) quote = absurd (omega arith)

no_empty_escape : ¬ Escape []
unfolding Escape
no_empty_escape = no_empty_then _ _ (no_empty_fixed 92 [])

starts_escape : Starts Escape (λ c. c ≡ 92)
unfolding Escape
starts_escape = starts_then _ _ _ (no_empty_fixed 92 []) (starts_fixed 92 [])

lengthens_escape : (P : ℕ → Type 0) → Lengthens Escape P
unfolding Escape
lengthens_escape P = lengthens_then _ _ P (fixed_apart _ _) (no_empty_one is_escape_letter) (lengthens_one is_escape_letter P)

pub no_empty_inner : ¬ Inner []
unfolding Inner
no_empty_inner = neither _ _ (no_empty_one is_plain) no_empty_escape

starts_inner : Starts Inner IsInnerStart
unfolding Inner
starts_inner = starts_either _ _ _ _ (starts_one is_plain) starts_escape

lengthens_inner : (P : ℕ → Type 0) → Lengthens Inner P
unfolding Inner
lengthens_inner P = lengthens_or _ _ _ _ P (no_empty_one is_plain) no_empty_escape (starts_one is_plain) starts_escape not_both (lengthens_one is_plain P) (lengthens_escape P)

pub apart_inner : Apart Inner (Many Inner)
apart_inner = apart_many Inner (apart_free _ _ (lengthens_inner _)) no_empty_inner

pub apart_close : Apart Opened (Fixed (39 ∷ []))
unfolding Opened
apart_close = apart_by _ _ IsInnerStart _
    (lengthens_before _ _ _ (fixed_apart _ _) (lengthens_fixed _ _) (starts_many _ _ no_empty_inner starts_inner) (lengthens_many _ _ apart_inner no_empty_inner starts_inner (lengthens_inner _)))
    (starts_fixed 39 []) not_quote

no_empty_opened : ¬ Opened []
unfolding Opened
no_empty_opened = no_empty_then _ _ (no_empty_fixed 39 [])

pub no_empty_quoted : ¬ Quoted []
unfolding Quoted
no_empty_quoted = no_empty_then _ _ no_empty_opened

begins_quoted : Begins Quoted []
unfolding Quoted Opened
begins_quoted = begins_then _ _ (begins_then _ _ (begins_fixed _) (begins_many _)) (begins_fixed _)

starts_quoted : Starts Quoted (λ c. c ≡ 39)
unfolding Quoted Opened
starts_quoted = starts_then _ _ _ no_empty_opened (starts_then _ _ _ (no_empty_fixed 39 []) (starts_fixed 39 []))

pub lengthens_quoted : (P : ℕ → Type 0) → Lengthens Quoted P
unfolding Quoted
lengthens_quoted P = lengthens_then _ _ P apart_close (no_empty_fixed 39 []) (lengthens_fixed _ P)

pub apart_quoted : Apart Quoted (Many Quoted)
apart_quoted = apart_many Quoted (apart_free _ _ (lengthens_quoted _)) no_empty_quoted

pub no_empty_text : ¬ Text []
unfolding Text
no_empty_text = no_empty_then _ _ no_empty_quoted

pub begins_text : Begins Text []
unfolding Text
begins_text = begins_then _ _ begins_quoted (begins_many _)

pub starts_text : Starts Text (λ c. c ≡ 39)
unfolding Text
starts_text = starts_then _ _ _ no_empty_quoted starts_quoted

pub lengthens_text : Lengthens Text (λ c. c ≡ 39)
unfolding Text
lengthens_text = lengthens_before _ _ _ apart_quoted (lengthens_quoted _) (starts_many _ _ no_empty_quoted starts_quoted) (lengthens_many _ _ apart_quoted no_empty_quoted starts_quoted (lengthens_quoted _))

-- Where the first part is broken off there is no string.
pub text_broken : (s : List ℕ) (p : ℕ) → Reads Quoted s (Err p) → Absent Text s p
unfolding Text
text_broken s p broken = record {
  at = (then_broken _ _ s p apart_quoted (begins_many _) broken).place;
  no_text = none_row _ _ s (none_broken _ s p (lengthens_quoted _) broken);
}

-- one byte between quotes

escape_none : (s : List ℕ) → (0 < length s → get_or s 0 0 ≢ 92) → Reads Escape s (Err 0)
unfolding Escape
escape_none s other = then_broken _ _ s 0 (fixed_apart _ _) (begins_one is_escape_letter 48 refl) (fixed_other 92 [] s other)

plain_none : (s : List ℕ) → (0 < length s → is_plain (get_or s 0 0) ≡ false) → Reads (One is_plain) s (Err 0)
plain_none s not_plain = one_none is_plain 48 refl s not_plain

pub inner_end : (s : List ℕ) → length s ≡ 0 → Reads Inner s (Err 0)
unfolding Inner
inner_end s none = record {
  place = place_or _ _ s 0 0 (plain_none s (λ long. absurd (omega arith))).place (escape_none s (λ long. absurd (omega arith))).place;
  text = no_empty_inner;
}

pub inner_quote : (s : List ℕ) → get_or s 0 0 ≡ 39 → Reads Inner s (Err 0)
unfolding Inner
inner_quote s quote = record {
  place = place_or _ _ s 0 0 (plain_none s (λ long. rw quote refl)).place (escape_none s (λ long. omega arith)).place;
  text = no_empty_inner;
}

pub inner_plain : (s : List ℕ) → 0 < length s → get_or s 0 0 ≢ 39 → get_or s 0 0 ≢ 92 → Reads Inner s (Ok 1)
unfolding Inner
inner_plain s long quote back = whole_or _ _ s 1 0 (one_there is_plain s long (grind (arith, nat_tests))) (escape_none s (λ long. back)).place (omega arith)

pub inner_escape : (s : List ℕ) → 1 < length s → get_or s 0 0 ≡ 92 → is_escape_letter (get_or s 1 0) ≡ true → Reads Inner s (Ok 2)
unfolding Inner Escape
inner_escape s long back letter = reads_same _ _ s (Ok 2) (swapped _ _) (swapped _ _)
    (whole_or _ _ s 2 0
    (then_read _ _ s 1 (Ok 1) (fixed_apart _ _) (fixed_byte 92 s (omega arith) back) (one_there is_escape_letter (drop 1 s) (omega (arith, length-drop 1 s)) (rw (get_or-drop 1 s 0 0) letter)))
    (plain_none s (λ long. rw back refl)).place (omega arith))

pub inner_broken : (s : List ℕ) → 0 < length s → get_or s 0 0 ≡ 92 → (1 < length s → is_escape_letter (get_or s 1 0) ≡ false) → Reads Inner s (Err 1)
unfolding Inner Escape
inner_broken s long back no_letter = reads_same _ _ s (Err 1) (swapped _ _) (swapped _ _)
    (broken_or _ _ s 1 0
    (then_read _ _ s 1 (Err 0) (fixed_apart _ _) (fixed_byte 92 s long back) (one_none is_escape_letter 48 refl (drop 1 s) (λ more. rw (get_or-drop 1 s 0 0) (no_letter (omega (arith, length-drop 1 s))))))
    (plain_none s (λ long. rw back refl)).place (omega arith))

-- a run of plain bytes

run_byte : (s : List ℕ) (i : ℕ) → i < length s → is_special (get_or s i 0) ≡ false → Reads Inner (take (length s - i) (drop i s)) (Ok 1)
run_byte s i within plain =
    let at : get_or (drop i s) 0 0 ≡ get_or s i 0 = grind (arith, get_or-drop i s 0 0) in
    rw (rest_of s i) (inner_plain (drop i s) (omega (arith, length-drop i s)) (rw at (grind (arith, nat_tests))) (rw at (grind (arith, nat_tests))))

run_bytes : (L : Language) (s : List ℕ) (at to k : ℕ) → PlainRun s at to → at + k ≤ to → Onward L (Many Inner) s at → Onward L (Many Inner) s (at + k)
run_bytes L s at to zero run within onward = subst (Onward L (Many Inner) s) (sym (add-zero at)) onward
run_bytes L s at to (suc k) run within onward =
    subst (Onward L (Many Inner) s) (omega arith)
    (onward_more Inner L s (at + k) 1 (Ok 1) apart_inner no_empty_inner (run_bytes L s at to k run (omega arith) onward) (run_byte s (at + k) (omega (arith, run.high)) (run.plain (at + k) (omega arith) (omega arith))) refl)

pub onward_run : (L : Language) (s : List ℕ) (at to : ℕ) → PlainRun s at to → Onward L (Many Inner) s at → Onward L (Many Inner) s to
onward_run L s at to run onward = subst (Onward L (Many Inner) s) (omega (arith, run.low)) (run_bytes L s at to (to - at) run (omega (arith, run.low)) onward)
