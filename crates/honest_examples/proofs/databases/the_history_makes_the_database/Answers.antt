use Rattle.honest_examples.proofs.Soundness.{ends}
use Rattle.honest_examples.proofs.databases.the_history_makes_the_database.Goals as goal

pub returns : goal.returns
returns c = ends
