use Rattle.honest_examples.proofs.Answering.{last_position}
use Rattle.honest_examples.proofs.answered.the_last_position_is_shown.Goals as goal

pub returns : goal.returns
returns c = last_position
