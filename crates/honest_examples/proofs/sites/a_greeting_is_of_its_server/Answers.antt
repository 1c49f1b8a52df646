use Rattle.honest_examples.proofs.Returning.{of_server}
use Rattle.honest_examples.proofs.sites.a_greeting_is_of_its_server.Goals as goal

pub returns : goal.returns
returns c = of_server
