use Rattle.statement_laws.proofs.Kept.{statement_is_read}
use Rattle.statement_laws.proofs.laws.a_statement_is_read.Goals as goal

pub returns : goal.returns
returns c = statement_is_read
