-- The grammar of converted texts: what comes first, and that nothing lengthens them.
use Rattle.std.proofs.Common.{◌≡◌, ℕ, [], arith}
use Rattle.std.specs.Prelude.{codes}
use Rattle.grammar.specs.Language.{Begins, Fixed}
use Rattle.grammar.proofs.Empty.{no_empty_fixed, no_empty_then, begins_fixed, begins_then}
use Rattle.grammar.proofs.Leaves.{fixed_apart}
use Rattle.grammar.proofs.Rows.{Apart}
use Rattle.grammar.proofs.Sets.{Starts, Lengthens, apart_by, starts_fixed, starts_then, lengthens_fixed, lengthens_then}
use Rattle.sql_cells.specs.Spelling.{OpenedConverted, Converted}
use Rattle.sql_literals.proofs.TextReads.{no_empty_text, begins_text, lengthens_text}

no_empty_opened : ¬ OpenedConverted []
unfolding OpenedConverted
no_empty_opened = no_empty_then _ _ (no_empty_fixed 67 _)

-- a quote would lengthen the text, and a space follows it
pub apart_converted_close : Apart OpenedConverted (Fixed (codes " USING utf8mb4)"))
unfolding OpenedConverted
apart_converted_close =
    apart_by _ _ (λ c. c ≡ 39) (λ c. c ≡ 32)
    (lengthens_then _ _ _ (fixed_apart _ _) no_empty_text lengthens_text)
    (starts_fixed 32 _) (λ c quote space. absurd (omega arith))

pub no_empty_converted : ¬ Converted []
unfolding Converted
no_empty_converted = no_empty_then _ _ no_empty_opened

pub begins_converted : Begins Converted []
unfolding Converted OpenedConverted
begins_converted = begins_then _ _ (begins_then _ _ (begins_fixed _) begins_text) (begins_fixed _)

pub starts_converted : Starts Converted (λ c. c ≡ 67)
unfolding Converted OpenedConverted
starts_converted = starts_then _ _ _ no_empty_opened (starts_then _ _ _ (no_empty_fixed 67 _) (starts_fixed 67 _))

pub lengthens_converted : (P : ℕ → Type 0) → Lengthens Converted P
unfolding Converted
lengthens_converted P = lengthens_then _ _ P apart_converted_close (no_empty_fixed 32 _) (lengthens_fixed _ P)
