use Rattle.honest_examples.proofs.Timing.{listed}
use Rattle.honest_examples.proofs.events.events_are_listed.Goals as goal

pub returns : goal.returns
returns c = listed
