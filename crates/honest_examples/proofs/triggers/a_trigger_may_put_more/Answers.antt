use Rattle.honest_examples.proofs.Triggering.{puts_more}
use Rattle.honest_examples.proofs.triggers.a_trigger_may_put_more.Goals as goal

pub returns : goal.returns
returns c = puts_more
