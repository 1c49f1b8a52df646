use Rattle.honest_examples.proofs.Triggering.{made}
use Rattle.honest_examples.proofs.triggers.a_trigger_is_made_on_its_table.Goals as goal

pub returns : goal.returns
returns c = made
