use Rattle.honest_server.proofs.Joined.{grant_first}
use Rattle.honest_server.proofs.laws.a_grant_can_stand_first.Goals as goal

pub returns : goal.returns
returns c = grant_first
