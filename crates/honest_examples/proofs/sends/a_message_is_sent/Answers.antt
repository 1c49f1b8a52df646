use Rattle.honest_examples.proofs.Sending.{sent}
use Rattle.honest_examples.proofs.sends.a_message_is_sent.Goals as goal

pub returns : goal.returns
returns c = sent
