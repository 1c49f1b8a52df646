use Rattle.honest_examples.proofs.Commanding.{backup_lock}
use Rattle.honest_examples.proofs.effects.the_backup_lock_stops_a_create.Goals as goal

pub returns : goal.returns
returns c = backup_lock
