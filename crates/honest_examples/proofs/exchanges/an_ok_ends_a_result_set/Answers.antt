use Rattle.honest_examples.proofs.Exchanging.{ok_ends}
use Rattle.honest_examples.proofs.exchanges.an_ok_ends_a_result_set.Goals as goal

pub returns : goal.returns
returns c = ok_ends
