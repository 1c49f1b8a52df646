use Rattle.answer_examples.proofs.Examples.{all_refusals}
use Rattle.answer_examples.proofs.refusals.Goals as goal

pub returns : goal.returns
returns c = all_refusals
