use Rattle.version_store.proofs.Alike.{go_on}
use Rattle.version_store.proofs.laws.histories_go_on.Goals as goal

pub returns : goal.returns
returns c = go_on
