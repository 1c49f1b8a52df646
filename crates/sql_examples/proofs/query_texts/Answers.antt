use Rattle.sql_examples.proofs.Examples.{queries}
use Rattle.sql_examples.proofs.query_texts.Goals as goal

pub returns : goal.returns
returns c = queries
