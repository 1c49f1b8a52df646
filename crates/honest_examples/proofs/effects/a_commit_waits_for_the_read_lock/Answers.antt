use Rattle.honest_examples.proofs.Commanding.{commits}
use Rattle.honest_examples.proofs.effects.a_commit_waits_for_the_read_lock.Goals as goal

pub returns : goal.returns
returns c = commits
