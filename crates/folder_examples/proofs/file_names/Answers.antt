use Rattle.folder_examples.proofs.Examples.{file_names_all}
use Rattle.folder_examples.proofs.file_names.Goals as goal

pub returns : goal.returns
returns c = file_names_all
