use Rattle.honest_examples.proofs.LoggingIn.{plugin}
use Rattle.honest_examples.proofs.logins.another_plugin_is_asked_for_once.Goals as goal

pub returns : goal.returns
returns c = plugin
