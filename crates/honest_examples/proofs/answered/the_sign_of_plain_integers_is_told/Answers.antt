use Rattle.honest_examples.proofs.Answering.{signs}
use Rattle.honest_examples.proofs.answered.the_sign_of_plain_integers_is_told.Goals as goal

pub returns : goal.returns
returns c = signs
