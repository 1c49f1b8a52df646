use Rattle.metadata_ini.proofs.CutTexts.{no_second, no_third, no_fourth}
use Rattle.metadata_ini.proofs.cuts.fields_of.Goals as goal

pub returns-in_default-cut : goal.returns-in_default-cut
returns-in_default-cut c = no_second c.args.text.now c.in-Some.kind.now c.in-Some.after.now c.in-Some.ensures c.in_default-cut.ensures

pub returns-in_default-cut-2 : goal.returns-in_default-cut-2
returns-in_default-cut-2 c = no_third c.args.text.now c.in-Some.kind.now c.in-Some.after.now c.in-Some-cut.rows.now c.in-Some-cut.after.now c.in-Some.ensures c.in-Some-cut.ensures c.in_default-cut-2.ensures

pub returns-in_default-cut-3 : goal.returns-in_default-cut-3
returns-in_default-cut-3 c = no_fourth c.args.text.now c.in-Some.kind.now c.in-Some.after.now c.in-Some-cut.rows.now c.in-Some-cut.after.now c.in-Some-cut-2.bytes.now c.in-Some-cut-2.after.now c.in-Some.ensures c.in-Some-cut.ensures c.in-Some-cut-2.ensures c.in_default-cut-3.ensures
