use Rattle.server_data.proofs.Patterns.{patterns}
use Rattle.server_data.proofs.laws.patterns_are_replaced.Goals as goal

pub returns : goal.returns
returns c = λ pattern text. patterns pattern text
