use Rattle.history_laws.proofs.Objects.{stand_once}
use Rattle.history_laws.proofs.laws.objects_stand_once.Goals as goal

pub returns : goal.returns
returns c = stand_once
