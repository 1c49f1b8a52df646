use Rattle.chunk_forms.proofs.KeyKinds.{wide_in_one_chunk as law}
use Rattle.chunk_forms.proofs.laws.wide_keys_are_in_one_chunk.Goals as goal

pub returns : goal.returns
returns c = law
