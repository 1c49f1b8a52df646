use Rattle.sql_examples.proofs.Examples.{commands}
use Rattle.sql_examples.proofs.command_texts.Goals as goal

pub returns : goal.returns
returns c = commands
