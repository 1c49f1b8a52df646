use Rattle.honest_examples.proofs.Answering.{engine}
use Rattle.honest_examples.proofs.answered.a_table_is_told_with_its_engine.Goals as goal

pub returns : goal.returns
returns c = engine
