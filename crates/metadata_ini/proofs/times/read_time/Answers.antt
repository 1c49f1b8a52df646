use Rattle.std.proofs.Common.{sym, ◌∙◌, subst, ap}
use Rattle.folder_forms.specs.Metadata.{IsMoment, moment_text}
use Rattle.metadata_ini.proofs.TimeTexts.{no_moment, other_text, time_read}
use Rattle.metadata_ini.proofs.times.read_time.Goals as goal

pub returns-in_default : goal.returns-in_default
returns-in_default c = no_moment c.args.text.now (subst (λ m. ¬ IsMoment m) c.moment_in-moment.ensures c.in_default.ensures)

pub returns-then-is_same : goal.returns-then-is_same
returns-then-is_same c = time_read c.args.text.now c.moment_in-moment.result c.in-Some.seconds c.in-Some.ensures (c.is_same.ensures.yes c.if-is_same.true ∙ c.moment_text.ensures)

pub returns-else-is_same : goal.returns-else-is_same
returns-else-is_same c = other_text c.args.text.now (λ e. c.is_same.ensures.no c.if-is_same.false (e ∙ ap moment_text (sym c.moment_in-moment.ensures) ∙ sym c.moment_text.ensures))
