use Rattle.honest_examples.proofs.Converting.{as_printed}
use Rattle.honest_examples.proofs.json_columns.json_texts_are_as_they_are_printed.Goals as goal

pub returns : goal.returns
returns c = as_printed
