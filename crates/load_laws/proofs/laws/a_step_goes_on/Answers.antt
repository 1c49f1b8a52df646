use Rattle.load_laws.proofs.Steps.{step_goes_on}
use Rattle.load_laws.proofs.laws.a_step_goes_on.Goals as goal

pub returns : goal.returns
returns c = step_goes_on
