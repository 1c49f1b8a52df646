use Rattle.honest_examples.proofs.Linking.{untold_again}
use Rattle.honest_examples.proofs.links.wide_keys_are_told_until_they_arent.Goals as goal

pub returns : goal.returns
returns c = untold_again
