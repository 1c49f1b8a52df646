use Rattle.chunk_examples.proofs.Cuts.{signed_cut}
use Rattle.chunk_examples.proofs.signed_in_ones.Goals as goal

pub returns : goal.returns
returns c = signed_cut
