use Rattle.honest_examples.proofs.Viewing.{routines_listed}
use Rattle.honest_examples.proofs.routines.routines_are_listed.Goals as goal

pub returns : goal.returns
returns c = routines_listed
