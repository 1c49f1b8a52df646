use Rattle.chunk_forms.proofs.KeyKinds.{in_one_chunk as law}
use Rattle.chunk_forms.proofs.laws.keys_are_in_one_chunk.Goals as goal

pub returns : goal.returns
returns c = law
