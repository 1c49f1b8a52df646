use Rattle.metadata_ini.proofs.HeadFronts.{no_time_line}
use Rattle.metadata_ini.proofs.heads.time_line.Goals as goal

pub returns-in_default-read_time : goal.returns-in_default-read_time
returns-in_default-read_time c = no_time_line c.args.word.now c.args.text.now c.in-Some.value.now c.in-Some.after.now c.in-Some.ensures c.in_default-read_time.ensures
