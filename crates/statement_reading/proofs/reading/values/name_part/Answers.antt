use Rattle.std.proofs.Common.{◌≡◌, ◌-◌, false, length, take, drop, ap, sym, ◌∙◌, subst}
use Rattle.std.specs.List.{flat_map}
use Rattle.sql_cells.specs.Name.{name_byte, quoted_name}
use Rattle.statement_reading.specs.Readings.{has_byte, IsDoubled}
use Rattle.statement_reading.proofs.NameValues.{name_size, name_doubled, name_made, name_inside}
use Rattle.statement_reading.proofs.reading.values.name_part.Goals as goal

pub inside-inner-requires : goal.inside-inner-requires
inside-inner-requires c = name_size _ c.requires

pub undouble-requires : goal.undouble-requires
undouble-requires c = subst IsDoubled (sym c.inside-inner.ensures) (name_doubled _ c.requires)

pub returns-then-has_byte : goal.returns-then-has_byte
returns-then-has_byte c = name_made c.args.text.now c.owned.result c.requires (ap (flat_map name_byte) c.owned.ensures ∙ c.in_ok-undouble.ensures ∙ c.inside-inner.ensures)

pub returns : goal.returns
returns c =
    let none : has_byte 96 (take (length c.args.text.now - 1 - 1) (drop 1 c.args.text.now)) ≡ false = ap (has_byte 96) (sym c.inside-inner.ensures) ∙ sym c.has_byte.ensures ∙ c.if-has_byte.false in
    ap quoted_name (c.of.ensures ∙ c.inside-inner.ensures) ∙ name_inside _ c.requires none
