use Rattle.honest_examples.proofs.Rises.{keep}
use Rattle.honest_examples.proofs.catalogue.rows_and_counters_keep_the_catalogue.Goals as goal

pub returns : goal.returns
returns c = keep
