use Rattle.honest_examples.proofs.Soundness.{integers}
use Rattle.honest_examples.proofs.databases.a_key_is_an_integer.Goals as goal

pub returns : goal.returns
returns c = integers
