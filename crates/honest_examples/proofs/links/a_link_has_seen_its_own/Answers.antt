use Rattle.honest_examples.proofs.Linking.{own}
use Rattle.honest_examples.proofs.links.a_link_has_seen_its_own.Goals as goal

pub returns : goal.returns
returns c = own
