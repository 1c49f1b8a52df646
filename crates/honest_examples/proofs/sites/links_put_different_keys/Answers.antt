use Rattle.honest_examples.proofs.Returning.{keys}
use Rattle.honest_examples.proofs.sites.links_put_different_keys.Goals as goal

pub returns : goal.returns
returns c = keys
