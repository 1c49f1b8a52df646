use Rattle.honest_examples.proofs.Answering.{skipped}
use Rattle.honest_examples.proofs.answered.keys_are_skipped.Goals as goal

pub returns : goal.returns
returns c = skipped
