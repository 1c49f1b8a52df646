use Rattle.honest_examples.proofs.Answering.{column_types}
use Rattle.honest_examples.proofs.answered.columns_are_told_with_their_types.Goals as goal

pub returns : goal.returns
returns c = column_types
