use Rattle.metadata_ini.proofs.HeadFronts.{no_end}
use Rattle.metadata_ini.proofs.heads.value_line.Goals as goal

pub returns-in_default-cut : goal.returns-in_default-cut
returns-in_default-cut c = no_end c.args.word.now c.args.text.now c.in-Some.rest.now c.in-Some.ensures c.in_default-cut.ensures
