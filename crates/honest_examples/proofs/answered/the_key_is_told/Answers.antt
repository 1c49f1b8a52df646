use Rattle.honest_examples.proofs.Answering.{key_told}
use Rattle.honest_examples.proofs.answered.the_key_is_told.Goals as goal

pub returns : goal.returns
returns c = key_told
