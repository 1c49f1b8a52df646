use Rattle.honest_examples.proofs.Returning.{grant_first}
use Rattle.honest_examples.proofs.sites.a_grant_comes_first.Goals as goal

pub returns : goal.returns
returns c = grant_first
