use Rattle.honest_examples.proofs.Linking.{failure}
use Rattle.honest_examples.proofs.links.a_failure_loses_nothing_by_halves.Goals as goal

pub returns : goal.returns
returns c = failure
