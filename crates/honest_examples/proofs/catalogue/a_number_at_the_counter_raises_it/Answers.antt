use Rattle.honest_examples.proofs.Counting.{raises}
use Rattle.honest_examples.proofs.catalogue.a_number_at_the_counter_raises_it.Goals as goal

pub returns : goal.returns
returns c = raises
