use Rattle.honest_examples.proofs.Timing.{only_event}
use Rattle.honest_examples.proofs.events.only_an_event_has_a_time_zone.Goals as goal

pub returns : goal.returns
returns c = only_event
