use Rattle.honest_examples.proofs.Exchanging.{quit}
use Rattle.honest_examples.proofs.exchanges.a_quit_isnt_answered.Goals as goal

pub returns : goal.returns
returns c = quit
