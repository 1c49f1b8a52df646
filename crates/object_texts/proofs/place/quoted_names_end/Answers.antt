use Rattle.object_texts.proofs.Renamings.{quoted-names-end}
use Rattle.object_texts.proofs.place.quoted_names_end.Goals as goal

pub returns : goal.returns
returns c = quoted-names-end
