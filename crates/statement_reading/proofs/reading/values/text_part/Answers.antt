use Rattle.std.proofs.Common.{◌≡◌, ◌-◌, length, take, drop, ap, sym, ◌∙◌, false}
use Rattle.sql_cells.specs.Literal.{text_literal}
use Rattle.sql_cells.specs.Spelling.{text_value}
use Rattle.statement_reading.specs.Readings.{has_byte}
use Rattle.statement_reading.proofs.TextValues.{text_size, text_made, text_inside}
use Rattle.statement_reading.proofs.reading.values.text_part.Goals as goal

pub inside-inner-requires : goal.inside-inner-requires
inside-inner-requires c = text_size _ c.requires

pub returns-then-has_byte : goal.returns-then-has_byte
returns-then-has_byte c = text_made _ _ c.requires (c.owned.ensures ∙ c.in_ok-unescape.ensures ∙ ap text_value c.inside-inner.ensures)

pub returns : goal.returns
returns c =
    let none : has_byte 92 (take (length c.args.text.now - 1 - 1) (drop 1 c.args.text.now)) ≡ false = ap (has_byte 92) (sym c.inside-inner.ensures) ∙ sym c.has_byte.ensures ∙ c.if-has_byte.false in
    ap text_literal (c.of.ensures ∙ c.inside-inner.ensures) ∙ text_inside _ c.requires none
