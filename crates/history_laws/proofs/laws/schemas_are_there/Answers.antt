use Rattle.history_laws.proofs.Objects.{schemas_there}
use Rattle.history_laws.proofs.laws.schemas_are_there.Goals as goal

pub returns : goal.returns
returns c = schemas_there
