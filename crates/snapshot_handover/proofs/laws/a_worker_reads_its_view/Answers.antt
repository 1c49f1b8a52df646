use Rattle.snapshot_handover.proofs.Asking.{workers_read_views}
use Rattle.snapshot_handover.proofs.laws.a_worker_reads_its_view.Goals as goal

pub returns : goal.returns
returns c = workers_read_views
