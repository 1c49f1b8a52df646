use Rattle.std.proofs.Common.{IfErr, subst}
use Rattle.my_session.specs.Session.{SessionView}
use Rattle.snapshot_handover.specs.Willing.{IsHindered}
use Rattle.statement_forms.specs.declared.command.Command.TheVariants.{UnlockInstance}
use Rattle.snapshot_handover.proofs.Steps.{may_step}
use Rattle.snapshot_handover.proofs.Willingness.{hindered_step, release_doable, release_short}
use Rattle.snapshot_handover.proofs.states.Guarded.release.Goals as goal

pub step-requires-clause-may : goal.step-requires-clause-may
step-requires-clause-may g c = may_step g.L.Link UnlockInstance _ tt (λ e. cc)

pub returns-clause-willing : goal.returns-clause-willing
returns-clause-willing g c =
    subst (λ (s : SessionView g.row.L.Denot). IfErr c.step.result (λ gone. IsHindered g.L.Link s gone.0.link)) c.self.view_is
    (hindered_step g.L.Link UnlockInstance c.self.inside.session c.step.result release_short release_doable c.step.ensures.ran)
