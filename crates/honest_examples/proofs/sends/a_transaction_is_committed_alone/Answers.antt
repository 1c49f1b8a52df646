use Rattle.honest_examples.proofs.Sending.{alone}
use Rattle.honest_examples.proofs.sends.a_transaction_is_committed_alone.Goals as goal

pub returns : goal.returns
returns c = alone
