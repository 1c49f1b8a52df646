use Rattle.honest_examples.proofs.Commanding.{empty_ends}
use Rattle.honest_examples.proofs.effects.an_empty_transaction_ends_under_the_read_lock.Goals as goal

pub returns : goal.returns
returns c = empty_ends
