use Rattle.grammar.proofs.Choices.{reads_optional}
use Rattle.statement_reading.specs.Parts.{FourthKey}
use Rattle.statement_reading.proofs.reading.keys.read_fourth_key.Goals as goal

pub returns : goal.returns
unfolding FourthKey
returns c = reads_optional _ _ _ _ c.read_next_name.ensures c.optional.ensures
