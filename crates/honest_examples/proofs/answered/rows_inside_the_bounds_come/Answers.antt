use Rattle.honest_examples.proofs.Answering.{above}
use Rattle.honest_examples.proofs.answered.rows_inside_the_bounds_come.Goals as goal

pub returns : goal.returns
returns c = above
