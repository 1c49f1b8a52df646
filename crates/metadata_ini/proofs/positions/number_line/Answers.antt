use Rattle.metadata_ini.proofs.PositionFronts.{no_number_line, no_number}
use Rattle.metadata_ini.proofs.positions.number_line.Goals as goal

pub returns-in_default : goal.returns-in_default
returns-in_default c = no_number_line c.args.word.now c.args.text.now c.in_default.ensures

pub returns-in_default-read_decimal : goal.returns-in_default-read_decimal
returns-in_default-read_decimal c = no_number c.args.word.now c.args.text.now c.in-Some.value.now c.in-Some.after.now c.in-Some.ensures c.in_default-read_decimal.ensures
