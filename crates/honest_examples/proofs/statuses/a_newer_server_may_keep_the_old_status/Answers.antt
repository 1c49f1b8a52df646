use Rattle.honest_examples.proofs.Showing.{both}
use Rattle.honest_examples.proofs.statuses.a_newer_server_may_keep_the_old_status.Goals as goal

pub returns : goal.returns
returns c = both
