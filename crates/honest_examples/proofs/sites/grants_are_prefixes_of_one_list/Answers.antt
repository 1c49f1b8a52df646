use Rattle.honest_examples.proofs.Returning.{one_list}
use Rattle.honest_examples.proofs.sites.grants_are_prefixes_of_one_list.Goals as goal

pub returns : goal.returns
returns c = one_list
