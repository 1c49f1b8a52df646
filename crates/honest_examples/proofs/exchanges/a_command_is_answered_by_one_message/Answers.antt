use Rattle.honest_examples.proofs.Exchanging.{one_message}
use Rattle.honest_examples.proofs.exchanges.a_command_is_answered_by_one_message.Goals as goal

pub returns : goal.returns
returns c = one_message
