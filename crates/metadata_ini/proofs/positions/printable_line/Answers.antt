use Rattle.std.proofs.Common.{sym, ◌∙◌}
use Rattle.std.proofs.lemmas.Bool.{false≢true}
use Rattle.metadata_ini.proofs.PositionFronts.{no_printable, unprintable}
use Rattle.metadata_ini.proofs.positions.printable_line.Goals as goal

pub returns-in_default : goal.returns-in_default
returns-in_default c = no_printable c.args.word.now c.args.text.now c.in_default.ensures

pub returns-else-all_printable : goal.returns-else-all_printable
returns-else-all_printable c =
    unprintable c.args.word.now c.args.text.now c.in-Some.value.now c.in-Some.after.now c.in-Some.ensures (λ e. false≢true (sym c.if-all_printable.false ∙ c.all_printable.ensures ∙ e))
