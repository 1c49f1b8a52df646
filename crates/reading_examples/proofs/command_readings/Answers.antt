use Rattle.reading_examples.proofs.Examples.{commands}
use Rattle.reading_examples.proofs.command_readings.Goals as goal

pub returns : goal.returns
returns c = commands
