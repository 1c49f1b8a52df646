use Rattle.answer_examples.proofs.Examples.{all_statuses}
use Rattle.answer_examples.proofs.statuses.Goals as goal

pub returns : goal.returns
returns c = all_statuses
