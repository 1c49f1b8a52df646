use Rattle.chunk_forms.proofs.KeyKinds.{wide_bounds_rise as law}
use Rattle.chunk_forms.proofs.laws.wide_bounds_rise.Goals as goal

pub returns : goal.returns
returns c = law
