use Rattle.honest_examples.proofs.Holding.{kept}
use Rattle.honest_examples.proofs.sends.nothing_is_committed_beside_a_holder.Goals as goal

pub returns : goal.returns
returns c = kept
