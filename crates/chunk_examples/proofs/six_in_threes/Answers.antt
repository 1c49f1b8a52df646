use Rattle.chunk_examples.proofs.Cuts.{six_cut}
use Rattle.chunk_examples.proofs.six_in_threes.Goals as goal

pub returns : goal.returns
returns c = six_cut
