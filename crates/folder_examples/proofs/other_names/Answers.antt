use Rattle.folder_examples.proofs.Others.{others}
use Rattle.folder_examples.proofs.other_names.Goals as goal

pub returns : goal.returns
returns c = others
