use Rattle.honest_examples.proofs.Showing.{new_alone}
use Rattle.honest_examples.proofs.statuses.a_newer_server_has_the_new_status.Goals as goal

pub returns : goal.returns
returns c = new_alone
