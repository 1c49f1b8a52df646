use Rattle.honest_examples.proofs.Rises.{counter_rises}
use Rattle.honest_examples.proofs.catalogue.a_counter_rises.Goals as goal

pub returns : goal.returns
returns c = counter_rises
