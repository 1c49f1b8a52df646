use Rattle.honest_examples.proofs.Linking.{fronts}
use Rattle.honest_examples.proofs.links.a_snapshot_shows_a_front.Goals as goal

pub returns : goal.returns
returns c = fronts
