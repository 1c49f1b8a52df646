use Rattle.load_laws.proofs.Files.{workers_go}
use Rattle.load_laws.proofs.laws.workers_go_on.Goals as goal

pub returns : goal.returns
returns c = workers_go
