use Rattle.metadata_ini.proofs.OneMetadata.{one_value}
use Rattle.metadata_ini.proofs.laws.one_value.Goals as goal

pub returns : goal.returns
returns c = one_value
