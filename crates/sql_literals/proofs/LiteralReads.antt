-- The choice among the kinds of literals, by the first byte.
use Rattle.std.proofs.Common.{◌≡◌, ◌≢◌, ℕ, ◌⊎◌, inl, inr, true, false, List, [], get_or, refl, subst, arith, Result}
use Rattle.grammar.specs.Language.{Begins, IsPlace, Reads, Skips, Or}
use Rattle.grammar.proofs.Choices.{place_or, reads_or, reads_or_other, neither}
use Rattle.grammar.proofs.Empty.{no_empty_fixed, begins_fixed, begins_or}
use Rattle.grammar.proofs.Sets.{Starts, Lengthens, starts_fixed, starts_either, lengthens_fixed, lengthens_or, lengthens_wider, place_other}
use Rattle.grammar.proofs.Skips.{skips_or, skips_or_other}
use Rattle.plain_data.specs.Byte.{is_digit}
use Rattle.sql_cells.specs.Number.{Number}
use Rattle.sql_cells.specs.Spelling.{Null, Text, Hex, Converted, Literal}
use Rattle.sql_literals.proofs.NumberReads.{IsDigit, IsNumberStart, IsNumberMore, no_empty_number, begins_number, starts_number, lengthens_number}
use Rattle.sql_literals.proofs.TextReads.{no_empty_text, begins_text, starts_text, lengthens_text}
use Rattle.sql_literals.proofs.HexReads.{no_empty_hex, begins_hex, starts_hex, lengthens_hex}
use Rattle.sql_literals.proofs.ConvertedReads.{no_empty_converted, begins_converted, starts_converted, lengthens_converted}

pub no_empty_null : ¬ Null []
unfolding Null
no_empty_null = no_empty_fixed 78 _

starts_null : Starts Null (λ c. c ≡ 78)
unfolding Null
starts_null = starts_fixed 78 _

begins_null : Begins Null []
unfolding Null
begins_null = begins_fixed _

pub lengthens_null : (P : ℕ → Type 0) → Lengthens Null P
unfolding Null
lengthens_null P = lengthens_fixed _ P

-- other first bytes leave a kind at once

null_other : (s : List ℕ) → get_or s 0 0 ≢ 78 → IsPlace Null s 0
null_other s other = place_other _ _ s starts_null begins_null (λ long. other)

text_other : (s : List ℕ) → get_or s 0 0 ≢ 39 → IsPlace Text s 0
text_other s other = place_other _ _ s starts_text begins_text (λ long. other)

hex_other : (s : List ℕ) → get_or s 0 0 ≢ 88 → IsPlace Hex s 0
hex_other s other = place_other _ _ s starts_hex begins_hex (λ long. other)

converted_other : (s : List ℕ) → get_or s 0 0 ≢ 67 → IsPlace Converted s 0
converted_other s other = place_other _ _ s starts_converted begins_converted (λ long. other)

no_number : (b c : ℕ) → c ≡ b → is_digit b ≡ false → b ≢ 45 → IsNumberStart c → ⊥
no_number b c is not_digit not_minus (inl minus) = absurd (omega arith)
no_number b c is not_digit not_minus (inr digit) = let wrong : is_digit b ≡ true = subst IsDigit is digit in cc

number_other : (s : List ℕ) (b : ℕ) → get_or s 0 0 ≡ b → is_digit b ≡ false → b ≢ 45 → IsPlace Number s 0
number_other s b is not_digit not_minus = place_other _ _ s starts_number begins_number (λ long inside. no_number b (get_or s 0 0) is not_digit not_minus inside)

-- what isn't of the one kind is of the others

no_bracketed : ¬ Or Hex Converted []
no_bracketed = neither _ _ no_empty_hex no_empty_converted

no_more : ¬ Or Text (Or Hex Converted) []
no_more = neither _ _ no_empty_text no_bracketed

no_other : ¬ Or Number (Or Text (Or Hex Converted)) []
no_other = neither _ _ no_empty_number no_more

bracketed_other : (s : List ℕ) → get_or s 0 0 ≢ 88 → get_or s 0 0 ≢ 67 → IsPlace (Or Hex Converted) s 0
bracketed_other s not_hex not_converted = place_or _ _ s 0 0 (hex_other s not_hex) (converted_other s not_converted)

more_other : (s : List ℕ) → get_or s 0 0 ≢ 39 → get_or s 0 0 ≢ 88 → get_or s 0 0 ≢ 67 → IsPlace (Or Text (Or Hex Converted)) s 0
more_other s not_text not_hex not_converted = place_or _ _ s 0 0 (text_other s not_text) (bracketed_other s not_hex not_converted)

null_alone : (s : List ℕ) → get_or s 0 0 ≡ 78 → IsPlace (Or Number (Or Text (Or Hex Converted))) s 0
null_alone s is = place_or _ _ s 0 0 (number_other s 78 is refl (omega arith)) (more_other s (omega arith) (omega arith) (omega arith))

pub literal_null : (s : List ℕ) (r : Result ℕ ℕ) → get_or s 0 0 ≡ 78 → Reads Null s r → Reads Literal s r
unfolding Literal
literal_null s r is reads = reads_or _ _ s r (null_alone s is) no_other reads

pub literal_text : (s : List ℕ) (r : Result ℕ ℕ) → get_or s 0 0 ≡ 39 → Reads Text s r → Reads Literal s r
unfolding Literal
literal_text s r is reads =
    reads_or_other _ _ s r (null_other s (omega arith)) no_empty_null
    (reads_or_other _ _ s r (number_other s 39 is refl (omega arith)) no_empty_number
    (reads_or _ _ s r (bracketed_other s (omega arith) (omega arith)) no_bracketed reads))

pub literal_hex : (s : List ℕ) (r : Result ℕ ℕ) → get_or s 0 0 ≡ 88 → Reads Hex s r → Reads Literal s r
unfolding Literal
literal_hex s r is reads =
    reads_or_other _ _ s r (null_other s (omega arith)) no_empty_null
    (reads_or_other _ _ s r (number_other s 88 is refl (omega arith)) no_empty_number
    (reads_or_other _ _ s r (text_other s (omega arith)) no_empty_text
    (reads_or _ _ s r (converted_other s (omega arith)) no_empty_converted reads)))

pub literal_converted : (s : List ℕ) (r : Result ℕ ℕ) → get_or s 0 0 ≡ 67 → Reads Converted s r → Reads Literal s r
unfolding Literal
literal_converted s r is reads =
    reads_or_other _ _ s r (null_other s (omega arith)) no_empty_null
    (reads_or_other _ _ s r (number_other s 67 is refl (omega arith)) no_empty_number
    (reads_or_other _ _ s r (text_other s (omega arith)) no_empty_text
    (reads_or_other _ _ s r (hex_other s (omega arith)) no_empty_hex reads)))

pub literal_number : (s : List ℕ) (r : Result ℕ ℕ) → get_or s 0 0 ≢ 78 → get_or s 0 0 ≢ 39 → get_or s 0 0 ≢ 88 → get_or s 0 0 ≢ 67 → Reads Number s r → Reads Literal s r
unfolding Literal
literal_number s r not_null not_text not_hex not_converted reads =
    reads_or_other _ _ s r (null_other s not_null) no_empty_null
    (reads_or _ _ s r (more_other s not_text not_hex not_converted) no_more reads)

-- the same for what passes over a literal

pub skips_null : (s : List ℕ) (r : Result ℕ ℕ) → get_or s 0 0 ≡ 78 → Skips Null s r → Skips Literal s r
unfolding Literal
skips_null s r is skip = skips_or _ _ s r (null_alone s is) no_other skip

pub skips_text : (s : List ℕ) (r : Result ℕ ℕ) → get_or s 0 0 ≡ 39 → Skips Text s r → Skips Literal s r
unfolding Literal
skips_text s r is skip =
    skips_or_other _ _ s r (null_other s (omega arith)) no_empty_null
    (skips_or_other _ _ s r (number_other s 39 is refl (omega arith)) no_empty_number
    (skips_or _ _ s r (bracketed_other s (omega arith) (omega arith)) no_bracketed skip))

pub skips_hex : (s : List ℕ) (r : Result ℕ ℕ) → get_or s 0 0 ≡ 88 → Skips Hex s r → Skips Literal s r
unfolding Literal
skips_hex s r is skip =
    skips_or_other _ _ s r (null_other s (omega arith)) no_empty_null
    (skips_or_other _ _ s r (number_other s 88 is refl (omega arith)) no_empty_number
    (skips_or_other _ _ s r (text_other s (omega arith)) no_empty_text
    (skips_or _ _ s r (converted_other s (omega arith)) no_empty_converted skip)))

pub skips_converted : (s : List ℕ) (r : Result ℕ ℕ) → get_or s 0 0 ≡ 67 → Skips Converted s r → Skips Literal s r
unfolding Literal
skips_converted s r is skip =
    skips_or_other _ _ s r (null_other s (omega arith)) no_empty_null
    (skips_or_other _ _ s r (number_other s 67 is refl (omega arith)) no_empty_number
    (skips_or_other _ _ s r (text_other s (omega arith)) no_empty_text
    (skips_or_other _ _ s r (hex_other s (omega arith)) no_empty_hex skip)))

pub skips_number : (s : List ℕ) (r : Result ℕ ℕ) → get_or s 0 0 ≢ 78 → get_or s 0 0 ≢ 39 → get_or s 0 0 ≢ 88 → get_or s 0 0 ≢ 67 → Skips Number s r → Skips Literal s r
unfolding Literal
skips_number s r not_null not_text not_hex not_converted skip =
    skips_or_other _ _ s r (null_other s not_null) no_empty_null
    (skips_or _ _ s r (more_other s not_text not_hex not_converted) no_more skip)

-- literals of any kind: what begins and what lengthens them

pub no_empty_literal : ¬ Literal []
unfolding Literal
no_empty_literal = neither _ _ no_empty_null no_other

pub begins_literal : Begins Literal []
unfolding Literal
begins_literal = begins_or _ _ begins_null

-- a byte that may lengthen a literal: a point, a digit or a quote
abbrev pub IsLiteralMore : ℕ → Type 0
IsLiteralMore c = IsNumberMore c ⊎ (c ≡ 39)

no_hex_other : (c : ℕ) → c ≡ 88 → c ≡ 67 → ⊥
no_hex_other c hex other = omega arith

no_text_other : (c : ℕ) → c ≡ 39 → (c ≡ 88) ⊎ (c ≡ 67) → ⊥
no_text_other c text (inl hex) = omega arith
no_text_other c text (inr converted) = omega arith

no_number_other : (c : ℕ) → IsNumberStart c → (c ≡ 39) ⊎ ((c ≡ 88) ⊎ (c ≡ 67)) → ⊥
no_number_other c number (inl text) = no_number 39 c text refl (omega arith) number
no_number_other c number (inr (inl hex)) = no_number 88 c hex refl (omega arith) number
no_number_other c number (inr (inr converted)) = no_number 67 c converted refl (omega arith) number

no_null_other : (c : ℕ) → c ≡ 78 → IsNumberStart c ⊎ ((c ≡ 39) ⊎ ((c ≡ 88) ⊎ (c ≡ 67))) → ⊥
no_null_other c null (inl number) = no_number 78 c null refl (omega arith) number
no_null_other c null (inr (inl text)) = omega arith
no_null_other c null (inr (inr (inl hex))) = omega arith
no_null_other c null (inr (inr (inr converted))) = omega arith

pub lengthens_literal : Lengthens Literal IsLiteralMore
unfolding Literal
lengthens_literal =
    let bracketed = starts_either _ _ _ _ starts_hex starts_converted in
    let more = starts_either _ _ _ _ starts_text bracketed in
    let other = starts_either _ _ _ _ starts_number more in
    lengthens_or _ _ _ _ _ no_empty_null no_other starts_null other no_null_other (lengthens_null _)
    (lengthens_or _ _ _ _ _ no_empty_number no_more starts_number more no_number_other (lengthens_wider _ _ _ (λ c longer. inl longer) lengthens_number)
    (lengthens_or _ _ _ _ _ no_empty_text no_bracketed starts_text bracketed no_text_other (lengthens_wider _ _ _ (λ c quote. inr quote) lengthens_text)
    (lengthens_or _ _ _ _ _ no_empty_hex no_empty_converted starts_hex starts_converted no_hex_other (lengthens_hex _) (lengthens_converted _))))
