use Rattle.honest_examples.proofs.Soundness.{files}
use Rattle.honest_examples.proofs.databases.a_position_has_a_file.Goals as goal

pub returns : goal.returns
returns c = files
