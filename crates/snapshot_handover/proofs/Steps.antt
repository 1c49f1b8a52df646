-- The commands of the lock session and of the workers may be run.
use Rattle.std.proofs.Common.{◌≡◌}
use Rattle.link_traits.specs.declared.link.Link.{Ghosts}
use Rattle.my_session.proofs.Uncreating.{makes_nothing}
use Rattle.my_session.specs.InStep.{MayRun}
use Rattle.statement_forms.specs.Form.{command_form}
use Rattle.statement_forms.specs.Statement.{CommandHasText}
use Rattle.statement_forms.specs.declared.command.Command.{Command}
use Rattle.statement_forms.specs.declared.form.Form.TheVariants.{Create as CreateForm}

-- a command that has a text and is no CREATE may be run
pub may_step : {L : Type 0} (of : Ghosts L) (command : Command) (link : L) → CommandHasText command → (command_form command ≡ CreateForm → ⊥) → MayRun of command link
may_step of command link has other = record { text = has; no_create = λ honest alone. makes_nothing command has other }
