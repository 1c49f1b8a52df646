use Rattle.honest_examples.proofs.LoggingIn.{pinged}
use Rattle.honest_examples.proofs.exchanges.an_unknown_command_is_answered_by_an_err.Goals as goal

pub returns : goal.returns
returns c = pinged
