use Rattle.chunk_examples.proofs.Cuts.{pairs_cut}
use Rattle.chunk_examples.proofs.pairs_in_twos.Goals as goal

pub returns : goal.returns
returns c = pairs_cut
