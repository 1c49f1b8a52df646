use Rattle.honest_examples.proofs.Exchanging.{its_rows}
use Rattle.honest_examples.proofs.exchanges.a_query_is_answered_by_its_rows.Goals as goal

pub returns : goal.returns
returns c = its_rows
