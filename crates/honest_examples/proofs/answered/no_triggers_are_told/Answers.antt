use Rattle.honest_examples.proofs.Answering.{no_triggers}
use Rattle.honest_examples.proofs.answered.no_triggers_are_told.Goals as goal

pub returns : goal.returns
returns c = no_triggers
