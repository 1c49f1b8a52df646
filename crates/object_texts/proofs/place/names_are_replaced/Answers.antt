use Rattle.object_texts.proofs.Renamings.{names-replaced}
use Rattle.object_texts.proofs.place.names_are_replaced.Goals as goal

pub returns : goal.returns
returns c = names-replaced
