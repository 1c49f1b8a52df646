use Rattle.history_laws.proofs.Steps.{only}
use Rattle.history_laws.proofs.laws.one_list_is_its_interleaving.Goals as goal

pub returns : goal.returns
returns c = λ list whole order. only order
