-- The grammar of hexadecimal literals: what comes first, what lengthens them, and how they are read.
use Rattle.std.proofs.Common.{◌≡◌, ℕ, ◌<◌, true, false, List, [], ◌∷◌, length, drop, get_or, refl, subst, arith, length-drop, Ok, Err}
use Rattle.std.proofs.lemmas.List.{get_or-drop}
use Rattle.hex.specs.Hex.{is_hex_digit}
use Rattle.grammar.specs.Language.{Begins, Reads, Fixed, Many}
use Rattle.grammar.proofs.Empty.{no_empty_fixed, no_empty_one, no_empty_then, begins_fixed, begins_one, begins_then}
use Rattle.grammar.proofs.Leaves.{fixed_apart, one_apart, one_there, one_none}
use Rattle.grammar.proofs.Repeats.{apart_many, begins_many}
use Rattle.grammar.proofs.Rows.{Apart, then_read, then_broken}
use Rattle.grammar.proofs.Sets.{Starts, Lengthens, apart_by, apart_free, starts_fixed, starts_one, starts_then, starts_many, lengthens_fixed, lengthens_one, lengthens_then, lengthens_before, lengthens_many}
use Rattle.sql_cells.specs.Spelling.{Pair, OpenedHex, Hex}

abbrev IsHexDigit : ℕ → Type 0
IsHexDigit b = is_hex_digit b ≡ true

pub no_empty_pair : ¬ Pair []
unfolding Pair
no_empty_pair = no_empty_then _ _ (no_empty_one is_hex_digit)

starts_pair : Starts Pair IsHexDigit
unfolding Pair
starts_pair = starts_then _ _ _ (no_empty_one is_hex_digit) (starts_one is_hex_digit)

lengthens_pair : (P : ℕ → Type 0) → Lengthens Pair P
unfolding Pair
lengthens_pair P = lengthens_then _ _ P (one_apart _ _) (no_empty_one is_hex_digit) (lengthens_one is_hex_digit P)

pub apart_pair : Apart Pair (Many Pair)
apart_pair = apart_many Pair (apart_free _ _ (lengthens_pair _)) no_empty_pair

pub apart_hex_close : Apart OpenedHex (Fixed (39 ∷ []))
unfolding OpenedHex
apart_hex_close = apart_by _ _ IsHexDigit _
    (lengthens_before _ _ _ (fixed_apart _ _) (lengthens_fixed _ _) (starts_many _ _ no_empty_pair starts_pair) (lengthens_many _ _ apart_pair no_empty_pair starts_pair (lengthens_pair _)))
    (starts_fixed 39 []) (λ c digit quote. let wrong : IsHexDigit 39 = subst IsHexDigit quote digit in cc)

no_empty_opened : ¬ OpenedHex []
unfolding OpenedHex
no_empty_opened = no_empty_then _ _ (no_empty_fixed 88 _)

pub no_empty_hex : ¬ Hex []
unfolding Hex
no_empty_hex = no_empty_then _ _ no_empty_opened

pub begins_hex : Begins Hex []
unfolding Hex OpenedHex
begins_hex = begins_then _ _ (begins_then _ _ (begins_fixed _) (begins_many _)) (begins_fixed _)

pub starts_hex : Starts Hex (λ c. c ≡ 88)
unfolding Hex OpenedHex
starts_hex = starts_then _ _ _ no_empty_opened (starts_then _ _ _ (no_empty_fixed 88 _) (starts_fixed 88 _))

pub lengthens_hex : (P : ℕ → Type 0) → Lengthens Hex P
unfolding Hex
lengthens_hex P = lengthens_then _ _ P apart_hex_close (no_empty_fixed 39 []) (lengthens_fixed _ P)

-- two digits

pub pair_none : (s : List ℕ) → (0 < length s → is_hex_digit (get_or s 0 0) ≡ false) → Reads Pair s (Err 0)
unfolding Pair
pair_none s no_digit = then_broken _ _ s 0 (one_apart _ _) (begins_one is_hex_digit 48 refl) (one_none is_hex_digit 48 refl s no_digit)

pub pair_half : (s : List ℕ) → 0 < length s → is_hex_digit (get_or s 0 0) ≡ true → (1 < length s → is_hex_digit (get_or s 1 0) ≡ false) → Reads Pair s (Err 1)
unfolding Pair
pair_half s long digit no_digit =
    then_read _ _ s 1 (Err 0) (one_apart _ _) (one_there is_hex_digit s long digit)
    (one_none is_hex_digit 48 refl (drop 1 s) (λ more. rw (get_or-drop 1 s 0 0) (no_digit (omega (arith, length-drop 1 s)))))

pub pair_whole : (s : List ℕ) → 1 < length s → is_hex_digit (get_or s 0 0) ≡ true → is_hex_digit (get_or s 1 0) ≡ true → Reads Pair s (Ok 2)
unfolding Pair
pair_whole s long one two =
    then_read _ _ s 1 (Ok 1) (one_apart _ _) (one_there is_hex_digit s (omega arith) one)
    (one_there is_hex_digit (drop 1 s) (omega (arith, length-drop 1 s)) (rw (get_or-drop 1 s 0 0) two))
