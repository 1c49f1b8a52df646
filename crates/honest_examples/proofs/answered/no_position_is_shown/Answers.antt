use Rattle.honest_examples.proofs.Answering.{no_position}
use Rattle.honest_examples.proofs.answered.no_position_is_shown.Goals as goal

pub returns : goal.returns
returns c = no_position
