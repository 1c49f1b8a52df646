use Rattle.honest_examples.proofs.Widening.{skipped}
use Rattle.honest_examples.proofs.wide_keys.wide_keys_are_skipped.Goals as goal

pub returns : goal.returns
returns c = skipped
