use Rattle.object_texts.proofs.Renamings.{names-stand}
use Rattle.object_texts.proofs.place.names_stand.Goals as goal

pub returns : goal.returns
returns c = names-stand
