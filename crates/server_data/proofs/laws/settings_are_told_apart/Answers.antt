use Rattle.server_data.proofs.Equals.{settings_are}
use Rattle.server_data.proofs.laws.settings_are_told_apart.Goals as goal

pub returns : goal.returns
returns c = λ one other e. settings_are one other e
