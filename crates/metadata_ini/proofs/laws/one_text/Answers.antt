use Rattle.metadata_ini.proofs.OneMetadata.{one_text}
use Rattle.metadata_ini.proofs.laws.one_text.Goals as goal

pub returns : goal.returns
returns c = one_text
