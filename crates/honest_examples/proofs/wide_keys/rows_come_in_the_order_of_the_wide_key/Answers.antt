use Rattle.honest_examples.proofs.Widening.{in_order}
use Rattle.honest_examples.proofs.wide_keys.rows_come_in_the_order_of_the_wide_key.Goals as goal

pub returns : goal.returns
returns c = in_order
