use Rattle.honest_server.proofs.Examples.{snapshot}
use Rattle.honest_server.proofs.laws.a_plain_snapshot_may_show_more.Goals as goal

pub returns : goal.returns
returns c = snapshot
