use Rattle.std.proofs.Common.{OnErr, ap, subst}
use Rattle.my_session.specs.Session.{SessionView}
use Rattle.snapshot_handover.specs.Handover.{WorkerView}
use Rattle.snapshot_handover.specs.Willing.{IsHindered}
use Rattle.statement_forms.specs.declared.command.Command.TheVariants.{RepeatableRead}
use Rattle.snapshot_handover.proofs.Steps.{may_step}
use Rattle.snapshot_handover.proofs.Willingness.{hindered_run, isolate_doable, isolate_short}
use Rattle.snapshot_handover.proofs.worker.Worker.isolate.Goals as goal

pub run-requires-clause-may : goal.run-requires-clause-may
run-requires-clause-may g c = may_step g.L.Link RepeatableRead _ tt (λ e. cc)

pub returns-clause-willing : goal.returns-clause-willing
returns-clause-willing g c =
    subst (λ (s : SessionView g.row.L.Denot). OnErr c.run.result (IsHindered g.L.Link s c.run.new.self.link)) (ap (λ (w : WorkerView g.row.L.Denot). w.session) c.self.view_is)
    (hindered_run g.L.Link RepeatableRead c.self.inside.session c.run.new.self c.run.result isolate_short isolate_doable (record {
      keeps = c.run.ensures.keeps;
      pending = c.run.ensures.pending;
      fault = c.run.ensures.fault;
      served = c.run.ensures.served;
    }))
