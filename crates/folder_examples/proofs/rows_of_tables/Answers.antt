use Rattle.folder_examples.proofs.MetadataExamples.{rows_all}
use Rattle.folder_examples.proofs.rows_of_tables.Goals as goal

pub returns : goal.returns
returns c = rows_all
