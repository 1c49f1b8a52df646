use Rattle.server_data.proofs.Equals.{kind_is}
use Rattle.server_data.proofs.laws.kinds_are_told_apart.Goals as goal

pub returns : goal.returns
returns c = λ one other e. kind_is one other e
