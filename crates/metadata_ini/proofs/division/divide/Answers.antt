use Rattle.std.proofs.Common.{rules}
use Rattle.metadata_ini.proofs.Parts.{no_division, no_ending}
use Rattle.metadata_ini.proofs.division.divide.Goals as goal

pub returns-in_default : goal.returns-in_default
returns-in_default c = no_division c.args.text.now c.front.result.0.now c.front.result.1.now c.front.ensures (search rules) c.in_default.ensures

pub returns-in_default-read_ending : goal.returns-in_default-read_ending
returns-in_default-read_ending c = no_ending c.args.text.now c.front.result.0.now c.front.result.1.now c.in-Some.after.now c.front-2.result.0.now c.front-2.result.1.now c.front.ensures c.in-Some.ensures c.front-2.ensures c.in_default-read_ending.ensures
