use Rattle.std.proofs.Common.{◌≡◌, Option, None, ap, ◌∙◌, subst, sym}
use Rattle.my_session.specs.declared.fault.SessionFault.{SessionFault}
use Rattle.snapshot_handover.proofs.Willingness.{hindered_later}
use Rattle.snapshot_handover.specs.Handover.{WorkerView}
use Rattle.snapshot_handover.specs.Snapshots.{OpensSo, at_start}
use Rattle.snapshot_handover.proofs.worker.Worker.open.Goals as goal

pub returns-in-Err-open_beside-clause-opens : goal.returns-in-Err-open_beside-clause-opens
returns-in-Err-open_beside-clause-opens g c = rw (ap (λ (w : WorkerView _). w.session) c.self.view_is) (at_start c.isolate.new.self.session c.in-Ok.ensures.ran c.in-Err-open_beside.ensures.ran (hindered_later g.L.Link c.args.holder.now.link c.args.self.now.session c.isolate.new.self.session c.open_beside.new.self.session c.in-Ok.ensures.ran c.in-Err-open_beside.ensures.willing))

pub returns-in_default-clause-opens : goal.returns-in_default-clause-opens
returns-in_default-clause-opens g c =
    let none : c.open_beside.new.self.fault ≡ None = c.in_default.ensures.fault ∙ (c.in-Ok.ensures.fault ∙ c.requires.may.no_fault) in
    subst (λ (f : Option SessionFault). OpensSo g.L.Link c.args.holder.now.link c.args.self.now.session f c.open_beside.new.self.session) (sym none)
    (record { middle = _; isolates = c.in-Ok.ensures.ran; opens = c.in_default.ensures.ran })
