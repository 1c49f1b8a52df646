use Rattle.statement_laws.proofs.Kept.{query_alone}
use Rattle.statement_laws.proofs.laws.a_query_is_read_as_nothing_else.Goals as goal

pub returns : goal.returns
returns c = query_alone
