use Rattle.chunk_forms.proofs.KeyKinds.{wide_are_cut as law}
use Rattle.chunk_forms.proofs.laws.wide_keys_are_cut.Goals as goal

pub returns : goal.returns
returns c = law
