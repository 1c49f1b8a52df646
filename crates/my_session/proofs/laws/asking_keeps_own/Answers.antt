use Rattle.my_session.proofs.Shown.{asking_keeps}
use Rattle.my_session.proofs.laws.asking_keeps_own.Goals as goal

pub returns : goal.returns
returns c = asking_keeps
