use Rattle.honest_examples.proofs.Commanding.{snapshots}
use Rattle.honest_examples.proofs.effects.a_snapshot_shows_what_was_seen.Goals as goal

pub returns : goal.returns
returns c = snapshots
