use Rattle.server_data.proofs.Orders.{in_turn}
use Rattle.server_data.proofs.laws.one_after_the_other_interleaves.Goals as goal

pub returns : goal.returns
returns c = λ lists. in_turn lists
