use Rattle.honest_examples.proofs.Answering.{columns_in_order}
use Rattle.honest_examples.proofs.answered.columns_are_asked_for_in_order.Goals as goal

pub returns : goal.returns
returns c = columns_in_order
