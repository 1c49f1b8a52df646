use Rattle.honest_examples.proofs.Linking.{waits}
use Rattle.honest_examples.proofs.links.the_answer_waits.Goals as goal

pub returns : goal.returns
returns c = waits
