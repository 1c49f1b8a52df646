use Rattle.statement_laws.proofs.Single.{one_reading}
use Rattle.statement_laws.proofs.laws.a_text_is_read_as_one_statement.Goals as goal

pub returns : goal.returns
returns c = one_reading
