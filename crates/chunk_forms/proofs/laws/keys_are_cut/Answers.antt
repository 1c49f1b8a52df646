use Rattle.chunk_forms.proofs.KeyKinds.{are_cut as law}
use Rattle.chunk_forms.proofs.laws.keys_are_cut.Goals as goal

pub returns : goal.returns
returns c = law
