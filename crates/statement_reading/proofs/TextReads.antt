-- The grammar of texts as they are written: what comes first, what lengthens them, and how they are read.
use Rattle.std.proofs.Common.{◌≡◌, ◌≢◌, ℕ, ◌<◌, ◌⊎◌, inl, inr, true, false, List, [], ◌∷◌, length, drop, get_or, refl, subst, arith, length-drop, Ok, Err}
use Rattle.std.proofs.lemmas.List.{get_or-drop}
use Rattle.grammar.specs.Language.{Begins, Reads, Fixed, One, Many}
use Rattle.grammar.proofs.Choices.{place_or, whole_or, broken_or, reads_same, swapped, neither}
use Rattle.grammar.proofs.Empty.{no_empty_fixed, no_empty_one, no_empty_then, begins_fixed, begins_one, begins_then}
use Rattle.grammar.proofs.Leaves.{fixed_apart, fixed_byte, fixed_other, one_there, one_none}
use Rattle.grammar.proofs.Repeats.{apart_many, begins_many}
use Rattle.grammar.proofs.Rows.{Apart, then_read, then_broken}
use Rattle.grammar.proofs.Sets.{Starts, Lengthens, apart_by, apart_free, starts_fixed, starts_one, starts_then, starts_either, starts_many, lengthens_fixed, lengthens_one, lengthens_then, lengthens_before, lengthens_or, lengthens_many}
use Rattle.statement_reading.specs.Parts.{is_own, is_written_letter, WrittenEscape, WrittenByte, OpenedText, WrittenText}

abbrev IsOwn : ℕ → Type 0
IsOwn b = is_own b ≡ true

abbrev IsByteStart : ℕ → Type 0
IsByteStart b = IsOwn b ⊎ (b ≡ 92)

not_both : (c : ℕ) → IsOwn c → c ≡ 92 → ⊥
not_both c own back = let wrong : IsOwn 92 = subst IsOwn back own in cc

not_quote : (c : ℕ) → IsByteStart c → c ≡ 39 → ⊥
not_quote c (inl own) quote = let wrong : IsOwn 39 = subst IsOwn quote own in cc
not_quote c (inr back) quote = absurd (omega arith)

no_empty_escape : ¬ WrittenEscape []
unfolding WrittenEscape
no_empty_escape = no_empty_then _ _ (no_empty_fixed 92 [])

starts_escape : Starts WrittenEscape (λ c. c ≡ 92)
unfolding WrittenEscape
starts_escape = starts_then _ _ _ (no_empty_fixed 92 []) (starts_fixed 92 [])

lengthens_escape : (P : ℕ → Type 0) → Lengthens WrittenEscape P
unfolding WrittenEscape
lengthens_escape P = lengthens_then _ _ P (fixed_apart _ _) (no_empty_one is_written_letter) (lengthens_one is_written_letter P)

pub no_empty_byte : ¬ WrittenByte []
unfolding WrittenByte
no_empty_byte = neither _ _ (no_empty_one is_own) no_empty_escape

starts_byte : Starts WrittenByte IsByteStart
unfolding WrittenByte
starts_byte = starts_either _ _ _ _ (starts_one is_own) starts_escape

lengthens_byte : (P : ℕ → Type 0) → Lengthens WrittenByte P
unfolding WrittenByte
lengthens_byte P = lengthens_or _ _ _ _ P (no_empty_one is_own) no_empty_escape (starts_one is_own) starts_escape not_both (lengthens_one is_own P) (lengthens_escape P)

pub apart_byte : Apart WrittenByte (Many WrittenByte)
apart_byte = apart_many WrittenByte (apart_free _ _ (lengthens_byte _)) no_empty_byte

pub apart_close : Apart OpenedText (Fixed (39 ∷ []))
unfolding OpenedText
apart_close = apart_by _ _ IsByteStart _
    (lengthens_before _ _ _ (fixed_apart _ _) (lengthens_fixed _ _) (starts_many _ _ no_empty_byte starts_byte) (lengthens_many _ _ apart_byte no_empty_byte starts_byte (lengthens_byte _)))
    (starts_fixed 39 []) not_quote

-- Nothing lengthens a text.
pub lengthens_text : (P : ℕ → Type 0) → Lengthens WrittenText P
unfolding WrittenText
lengthens_text P = lengthens_then _ _ P apart_close (no_empty_fixed 39 []) (lengthens_fixed _ P)

pub begins_text : Begins WrittenText []
unfolding WrittenText OpenedText
begins_text = begins_then _ _ (begins_then _ _ (begins_fixed _) (begins_many _)) (begins_fixed _)

-- one byte between quotes

escape_none : (s : List ℕ) → (0 < length s → get_or s 0 0 ≢ 92) → Reads WrittenEscape s (Err 0)
unfolding WrittenEscape
escape_none s other = then_broken _ _ s 0 (fixed_apart _ _) (begins_one is_written_letter 48 refl) (fixed_other 92 [] s other)

own_none : (s : List ℕ) → (0 < length s → is_own (get_or s 0 0) ≡ false) → Reads (One is_own) s (Err 0)
own_none s not_own = one_none is_own 48 refl s not_own

pub byte_end : (s : List ℕ) → length s ≡ 0 → Reads WrittenByte s (Err 0)
unfolding WrittenByte
byte_end s none = record {
  place = place_or _ _ s 0 0 (own_none s (λ long. absurd (omega arith))).place (escape_none s (λ long. absurd (omega arith))).place;
  text = no_empty_byte;
}

pub byte_other : (s : List ℕ) → is_own (get_or s 0 0) ≡ false → get_or s 0 0 ≢ 92 → Reads WrittenByte s (Err 0)
unfolding WrittenByte
byte_other s not_own back = record {
  place = place_or _ _ s 0 0 (own_none s (λ long. not_own)).place (escape_none s (λ long. back)).place;
  text = no_empty_byte;
}

pub byte_own : (s : List ℕ) → 0 < length s → is_own (get_or s 0 0) ≡ true → Reads WrittenByte s (Ok 1)
unfolding WrittenByte
byte_own s long own = whole_or _ _ s 1 0 (one_there is_own s long own) (escape_none s (λ long back. not_both (get_or s 0 0) own back)).place (omega arith)

pub byte_escape : (s : List ℕ) → 1 < length s → get_or s 0 0 ≡ 92 → is_written_letter (get_or s 1 0) ≡ true → Reads WrittenByte s (Ok 2)
unfolding WrittenByte WrittenEscape
byte_escape s long back letter = reads_same _ _ s (Ok 2) (swapped _ _) (swapped _ _)
    (whole_or _ _ s 2 0
    (then_read _ _ s 1 (Ok 1) (fixed_apart _ _) (fixed_byte 92 s (omega arith) back) (one_there is_written_letter (drop 1 s) (omega (arith, length-drop 1 s)) (rw (get_or-drop 1 s 0 0) letter)))
    (own_none s (λ long. rw back refl)).place (omega arith))

pub byte_broken : (s : List ℕ) → 0 < length s → get_or s 0 0 ≡ 92 → (1 < length s → is_written_letter (get_or s 1 0) ≡ false) → Reads WrittenByte s (Err 1)
unfolding WrittenByte WrittenEscape
byte_broken s long back no_letter = reads_same _ _ s (Err 1) (swapped _ _) (swapped _ _)
    (broken_or _ _ s 1 0
    (then_read _ _ s 1 (Err 0) (fixed_apart _ _) (fixed_byte 92 s long back) (one_none is_written_letter 48 refl (drop 1 s) (λ more. rw (get_or-drop 1 s 0 0) (no_letter (omega (arith, length-drop 1 s))))))
    (own_none s (λ long. rw back refl)).place (omega arith))
