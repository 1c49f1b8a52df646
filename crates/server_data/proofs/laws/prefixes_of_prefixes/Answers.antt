use Rattle.server_data.proofs.Orders.{of_prefix}
use Rattle.server_data.proofs.laws.prefixes_of_prefixes.Goals as goal

pub returns : goal.returns
returns c = λ front more whole one other. of_prefix front more whole one other
