use Rattle.std.proofs.Common.{◌≡◌}
use Rattle.snapshot_handover.specs.Snapshots.{NoneKeptBefore}
use Rattle.snapshot_handover.proofs.snapshots.least_fault.Given as goal

abbrev pub invariant-loop-worker : goal.invariant-loop-worker
invariant-loop-worker g l = (l.number ≡ l.worker-index) × NoneKeptBefore l.workers l.number
