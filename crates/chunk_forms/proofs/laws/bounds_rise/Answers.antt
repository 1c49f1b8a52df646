use Rattle.chunk_forms.proofs.KeyKinds.{bounds_rise as law}
use Rattle.chunk_forms.proofs.laws.bounds_rise.Goals as goal

pub returns : goal.returns
returns c = law
