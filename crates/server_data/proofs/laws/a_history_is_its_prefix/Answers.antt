use Rattle.server_data.proofs.Orders.{of_itself}
use Rattle.server_data.proofs.laws.a_history_is_its_prefix.Goals as goal

pub returns : goal.returns
returns c = λ list. of_itself list
