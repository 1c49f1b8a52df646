use Rattle.honest_examples.proofs.Returning.{connects}
use Rattle.honest_examples.proofs.sites.connecting_leaves_the_history.Goals as goal

pub returns : goal.returns
returns c = connects
