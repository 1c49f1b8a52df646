use Rattle.honest_examples.proofs.Returning.{new_link}
use Rattle.honest_examples.proofs.sites.a_new_link_has_seen_the_history.Goals as goal

pub returns : goal.returns
returns c = new_link
