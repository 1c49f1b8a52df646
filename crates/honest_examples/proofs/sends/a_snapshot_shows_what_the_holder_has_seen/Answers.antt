use Rattle.honest_examples.proofs.Holding.{shown}
use Rattle.honest_examples.proofs.sends.a_snapshot_shows_what_the_holder_has_seen.Goals as goal

pub returns : goal.returns
returns c = shown
