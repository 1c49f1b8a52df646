use Rattle.honest_examples.proofs.Linking.{received}
use Rattle.honest_examples.proofs.links.bytes_are_received.Goals as goal

pub returns : goal.returns
returns c = received
