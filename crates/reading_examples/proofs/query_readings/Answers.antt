use Rattle.reading_examples.proofs.Examples.{queries}
use Rattle.reading_examples.proofs.query_readings.Goals as goal

pub returns : goal.returns
returns c = queries
