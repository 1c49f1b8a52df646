use Rattle.honest_examples.proofs.Timing.{dropped}
use Rattle.honest_examples.proofs.events.an_event_is_dropped.Goals as goal

pub returns : goal.returns
returns c = dropped
