use Rattle.server_data.proofs.Orders.{kept_to_end}
use Rattle.server_data.proofs.laws.what_steps_keep_holds_at_the_end.Goals as goal

pub returns : goal.returns
returns c = λ after holds keeps lists whole order state held. kept_to_end after holds keeps order state held
