use Rattle.honest_examples.proofs.Soundness.{one_key}
use Rattle.honest_examples.proofs.databases.no_two_rows_have_one_key.Goals as goal

pub returns : goal.returns
returns c = one_key
