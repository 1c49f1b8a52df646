use Rattle.honest_examples.proofs.Triggering.{is_told}
use Rattle.honest_examples.proofs.triggers.a_trigger_is_told.Goals as goal

pub returns : goal.returns
returns c = is_told
