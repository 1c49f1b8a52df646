use Rattle.honest_examples.proofs.Commanding.{inserts}
use Rattle.honest_examples.proofs.effects.an_insert_is_committed_at_once.Goals as goal

pub returns : goal.returns
returns c = inserts
