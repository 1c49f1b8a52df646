use Rattle.honest_examples.proofs.Exchanging.{login}
use Rattle.honest_examples.proofs.exchanges.a_login_is_taken.Goals as goal

pub returns : goal.returns
returns c = login
