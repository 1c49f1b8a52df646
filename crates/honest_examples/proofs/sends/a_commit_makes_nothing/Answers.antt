use Rattle.honest_examples.proofs.Sending.{makes}
use Rattle.honest_examples.proofs.sends.a_commit_makes_nothing.Goals as goal

pub returns : goal.returns
returns c = makes
