use Rattle.honest_examples.proofs.Converting.{no_other_so}
use Rattle.honest_examples.proofs.json_columns.no_other_cell_is_spelled_as_json.Goals as goal

pub returns : goal.returns
returns c = no_other_so
