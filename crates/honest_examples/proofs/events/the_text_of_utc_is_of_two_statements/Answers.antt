use Rattle.honest_examples.proofs.Timing.{utc_text}
use Rattle.honest_examples.proofs.events.the_text_of_utc_is_of_two_statements.Goals as goal

pub returns : goal.returns
returns c = utc_text
