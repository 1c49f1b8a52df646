use Rattle.honest_server.proofs.Alone.{its_own}
use Rattle.honest_server.proofs.laws.a_sole_link_sees_its_own.Goals as goal

pub returns : goal.returns
returns c = its_own
