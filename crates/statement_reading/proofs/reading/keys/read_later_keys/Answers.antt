use Rattle.grammar.proofs.Choices.{reads_optional}
use Rattle.statement_reading.specs.Parts.{LaterKeys}
use Rattle.statement_reading.proofs.reading.keys.read_later_keys.Goals as goal

pub returns : goal.returns
unfolding LaterKeys
returns c = reads_optional _ _ _ _ c.read_third_key.ensures c.optional.ensures
