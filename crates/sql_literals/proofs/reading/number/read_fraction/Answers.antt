use Rattle.grammar.proofs.Choices.{reads_optional}
use Rattle.sql_cells.specs.Number.{Fraction}
use Rattle.sql_literals.proofs.reading.number.read_fraction.Goals as goal

pub returns : goal.returns
unfolding Fraction
returns c = reads_optional _ _ _ _ c.read_point.ensures c.optional.ensures
