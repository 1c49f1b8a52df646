use Rattle.honest_server.proofs.Guarded.{one_catalogue}
use Rattle.honest_server.proofs.laws.a_guarded_link_sees_one_catalogue.Goals as goal

pub returns : goal.returns
returns c = one_catalogue
