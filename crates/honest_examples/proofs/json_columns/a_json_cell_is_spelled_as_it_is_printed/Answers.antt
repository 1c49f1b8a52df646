use Rattle.honest_examples.proofs.Converting.{as_it_is_printed}
use Rattle.honest_examples.proofs.json_columns.a_json_cell_is_spelled_as_it_is_printed.Goals as goal

pub returns : goal.returns
returns c = as_it_is_printed
