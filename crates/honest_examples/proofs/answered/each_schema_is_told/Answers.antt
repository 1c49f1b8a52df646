use Rattle.honest_examples.proofs.Answering.{each_schema}
use Rattle.honest_examples.proofs.answered.each_schema_is_told.Goals as goal

pub returns : goal.returns
returns c = each_schema
