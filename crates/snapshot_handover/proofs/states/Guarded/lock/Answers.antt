use Rattle.statement_forms.specs.declared.command.Command.TheVariants.{LockInstance}
use Rattle.snapshot_handover.proofs.Steps.{may_step}
use Rattle.snapshot_handover.proofs.Willingness.{hindered, lock_doable, lock_short}
use Rattle.snapshot_handover.proofs.states.Guarded.lock.Goals as goal

pub step-requires-clause-may : goal.step-requires-clause-may
step-requires-clause-may g c = may_step g.L.Link LockInstance _ tt (λ e. cc)

pub returns-in-Err-clause-willing : goal.returns-in-Err-clause-willing
returns-in-Err-clause-willing g c = hindered g.L.Link LockInstance c.args.session c.in-Err.gone.0 c.in-Err.gone.1 lock_short lock_doable c.in-Err.ensures.ran
