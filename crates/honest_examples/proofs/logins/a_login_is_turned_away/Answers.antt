use Rattle.honest_examples.proofs.LoggingIn.{away}
use Rattle.honest_examples.proofs.logins.a_login_is_turned_away.Goals as goal

pub returns : goal.returns
returns c = away
