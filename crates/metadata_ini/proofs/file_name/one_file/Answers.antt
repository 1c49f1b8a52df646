use Rattle.metadata_ini.proofs.Texts.{one_file}
use Rattle.metadata_ini.proofs.file_name.one_file.Goals as goal

pub returns : goal.returns
returns c = one_file
