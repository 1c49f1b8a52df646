use Rattle.honest_examples.proofs.Answering.{all}
use Rattle.honest_examples.proofs.answered.all_rows_come.Goals as goal

pub returns : goal.returns
returns c = all
