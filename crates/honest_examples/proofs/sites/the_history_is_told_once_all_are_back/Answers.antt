use Rattle.honest_examples.proofs.Returning.{told}
use Rattle.honest_examples.proofs.sites.the_history_is_told_once_all_are_back.Goals as goal

pub returns : goal.returns
returns c = told
