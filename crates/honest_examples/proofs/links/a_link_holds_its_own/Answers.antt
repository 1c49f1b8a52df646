use Rattle.honest_examples.proofs.Linking.{holds}
use Rattle.honest_examples.proofs.links.a_link_holds_its_own.Goals as goal

pub returns : goal.returns
returns c = holds
