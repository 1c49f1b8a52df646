use Rattle.folder_examples.proofs.MetadataExamples.{lines_all}
use Rattle.folder_examples.proofs.metadata_lines.Goals as goal

pub returns : goal.returns
returns c = lines_all
