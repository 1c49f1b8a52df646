use Rattle.honest_examples.proofs.Timing.{event_shown}
use Rattle.honest_examples.proofs.events.an_event_is_shown_with_its_time_zone.Goals as goal

pub returns : goal.returns
returns c = event_shown
