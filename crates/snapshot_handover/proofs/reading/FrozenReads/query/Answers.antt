use Rattle.snapshot_handover.proofs.Asking.{asked_frozen}
use Rattle.snapshot_handover.proofs.reading.FrozenReads.query.Goals as goal

pub invariant_of-self : goal.invariant_of-self
invariant_of-self g c = λ honest.
    let was = c.query.ensures.server.honest.1 honest in
    asked_frozen c.args.query.now _ _ _ (c.query.ensures.served was) (c.self.invariant was)
