use Rattle.std.proofs.Common.{OnErr, ap, subst}
use Rattle.my_session.specs.Session.{SessionView}
use Rattle.snapshot_handover.specs.Handover.{WorkerView}
use Rattle.snapshot_handover.specs.Willing.{IsHinderedBeside}
use Rattle.std.proofs.Common.{rules}
use Rattle.statement_forms.specs.declared.command.Command.TheVariants.{StartSnapshot}
use Rattle.snapshot_handover.proofs.Steps.{may_step}
use Rattle.snapshot_handover.proofs.Willingness.{hindered_start}
use Rattle.snapshot_handover.proofs.worker.Worker.open_beside.Goals as goal

pub run_beside-requires-clause-may : goal.run_beside-requires-clause-may
run_beside-requires-clause-may g c = record {
  run = may_step g.L.Link StartSnapshot _ tt (λ e. cc);
  beside = λ h. record {
    one_site = search rules;
    stands = record { alive = search rules; frozen = search rules; none_mine = search rules };
  };
}

pub returns-clause-willing : goal.returns-clause-willing
returns-clause-willing g c =
    subst (λ (h : g.row.L.Denot). OnErr c.run_beside.result (IsHinderedBeside g.L.Link h c.args.self.now.session c.run_beside.new.self.link)) (ap (λ (s : SessionView g.row.L.Denot). s.link) c.holder.view_is)
    (subst (λ (s : SessionView g.row.L.Denot). OnErr c.run_beside.result (IsHinderedBeside g.L.Link c.holder.inside.session.link s c.run_beside.new.self.link)) (ap (λ (w : WorkerView g.row.L.Denot). w.session) c.self.view_is)
    (hindered_start g.L.Link c.holder.inside.session.link c.self.inside.session c.run_beside.new.self c.run_beside.result c.self.invariant (λ h. (g.met.L.Link.sound c.self.inside.session.link h).state.seen) (record {
      keeps = c.run_beside.ensures.keeps;
      pending = c.run_beside.ensures.pending;
      fault = c.run_beside.ensures.fault;
      served = c.run_beside.ensures.served;
    })))
