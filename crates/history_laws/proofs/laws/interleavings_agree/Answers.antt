use Rattle.history_laws.proofs.Balance.{interleavings_agree}
use Rattle.history_laws.proofs.laws.interleavings_agree.Goals as goal

pub returns : goal.returns
returns c = interleavings_agree
