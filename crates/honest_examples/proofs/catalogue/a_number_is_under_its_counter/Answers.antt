use Rattle.honest_examples.proofs.Rises.{under}
use Rattle.honest_examples.proofs.catalogue.a_number_is_under_its_counter.Goals as goal

pub returns : goal.returns
returns c = under
