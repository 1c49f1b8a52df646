use Rattle.history_laws.proofs.Apart.{commute}
use Rattle.history_laws.proofs.laws.lists_over_different_tables_commute.Goals as goal

pub returns : goal.returns
returns c = commute
