use Rattle.honest_examples.proofs.Packing.{whole}
use Rattle.honest_examples.proofs.sends.a_message_is_whole.Goals as goal

pub returns : goal.returns
returns c = whole
