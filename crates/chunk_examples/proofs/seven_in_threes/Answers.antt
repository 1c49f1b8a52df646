use Rattle.chunk_examples.proofs.Cuts.{seven_cut}
use Rattle.chunk_examples.proofs.seven_in_threes.Goals as goal

pub returns : goal.returns
returns c = seven_cut
