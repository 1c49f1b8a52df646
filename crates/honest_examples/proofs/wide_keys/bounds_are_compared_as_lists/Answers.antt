use Rattle.honest_examples.proofs.Widening.{as_lists}
use Rattle.honest_examples.proofs.wide_keys.bounds_are_compared_as_lists.Goals as goal

pub returns : goal.returns
returns c = as_lists
