use Rattle.honest_examples.proofs.Timing.{in_a_zone}
use Rattle.honest_examples.proofs.events.an_event_is_made_in_a_time_zone.Goals as goal

pub returns : goal.returns
returns c = in_a_zone
