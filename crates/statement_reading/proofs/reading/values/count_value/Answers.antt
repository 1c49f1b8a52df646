use Rattle.statement_reading.proofs.NumberValues.{not_refused, value_read}
use Rattle.statement_reading.proofs.reading.values.count_value.Goals as goal

pub unreachable-requires : goal.unreachable-requires
unreachable-requires c = not_refused _ _ _ c.requires c.in_default.ensures.reads

pub returns-clause-text : goal.returns-clause-text
returns-clause-text c = value_read _ _ _ _ c.requires c.in-Ok.ensures.reads c.in-Ok.ensures.value.0
