use Rattle.std.proofs.Common.{subst}
use Rattle.my_session.specs.Session.{SessionView}
use Rattle.snapshot_handover.specs.Willing.{IsHindered}
use Rattle.statement_forms.specs.declared.command.Command.TheVariants.{FlushTables}
use Rattle.snapshot_handover.proofs.Steps.{may_step}
use Rattle.snapshot_handover.proofs.Willingness.{freeze_doable, freeze_short, hindered}
use Rattle.snapshot_handover.proofs.states.Guarded.freeze.Goals as goal

pub step-requires-clause-may : goal.step-requires-clause-may
step-requires-clause-may g c = may_step g.L.Link FlushTables _ tt (λ e. cc)

pub returns-in-Err-clause-willing : goal.returns-in-Err-clause-willing
returns-in-Err-clause-willing g c =
    subst (λ (s : SessionView g.row.L.Denot). IsHindered g.L.Link s c.in-Err.gone.0.link) c.self.view_is
    (hindered g.L.Link FlushTables c.self.inside.session c.in-Err.gone.0 c.in-Err.gone.1 freeze_short freeze_doable c.in-Err.ensures.ran)
