use Rattle.chunk_examples.proofs.Cuts.{bounds_held}
use Rattle.chunk_examples.proofs.bounds_are_in_one_chunk.Goals as goal

pub returns : goal.returns
returns c = bounds_held
