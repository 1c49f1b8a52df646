use Rattle.statement_laws.proofs.QueryReads.{query_is_read}
use Rattle.statement_laws.proofs.laws.a_query_is_read.Goals as goal

pub returns : goal.returns
returns c = query_is_read
