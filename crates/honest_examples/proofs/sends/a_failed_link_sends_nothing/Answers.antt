use Rattle.honest_examples.proofs.Sending.{sends_nothing}
use Rattle.honest_examples.proofs.sends.a_failed_link_sends_nothing.Goals as goal

pub returns : goal.returns
returns c = sends_nothing
