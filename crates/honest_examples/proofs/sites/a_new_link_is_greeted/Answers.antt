use Rattle.honest_examples.proofs.Returning.{greets}
use Rattle.honest_examples.proofs.sites.a_new_link_is_greeted.Goals as goal

pub returns : goal.returns
returns c = greets
