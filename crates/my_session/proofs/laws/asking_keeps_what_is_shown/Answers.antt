use Rattle.my_session.proofs.Shown.{asking_keeps_shown}
use Rattle.my_session.proofs.laws.asking_keeps_what_is_shown.Goals as goal

pub returns : goal.returns
returns c = asking_keeps_shown
