use Rattle.history_laws.proofs.Balance.{puts_commute}
use Rattle.history_laws.proofs.laws.lists_that_put_rows_commute.Goals as goal

pub returns : goal.returns
returns c = puts_commute
