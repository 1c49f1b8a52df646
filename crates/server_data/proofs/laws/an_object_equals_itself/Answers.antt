use Rattle.server_data.proofs.Equals.{object_itself}
use Rattle.server_data.proofs.laws.an_object_equals_itself.Goals as goal

pub returns : goal.returns
returns c = λ object. object_itself object
