use Rattle.honest_examples.proofs.Commanding.{rollback}
use Rattle.honest_examples.proofs.effects.a_rollback_drops_the_transaction.Goals as goal

pub returns : goal.returns
returns c = rollback
