use Rattle.honest_examples.proofs.Answering.{by_key}
use Rattle.honest_examples.proofs.answered.rows_come_in_the_order_of_the_key.Goals as goal

pub returns : goal.returns
returns c = by_key
