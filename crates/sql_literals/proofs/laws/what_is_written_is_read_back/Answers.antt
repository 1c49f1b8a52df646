use Rattle.sql_literals.proofs.CellKinds.{read_back}
use Rattle.sql_literals.proofs.laws.what_is_written_is_read_back.Goals as goal

pub returns : goal.returns
returns c = read_back
