use Rattle.honest_examples.proofs.Showing.{older}
use Rattle.honest_examples.proofs.statuses.an_older_server_has_the_old_status.Goals as goal

pub returns : goal.returns
returns c = older
