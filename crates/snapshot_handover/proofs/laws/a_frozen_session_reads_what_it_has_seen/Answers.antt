use Rattle.snapshot_handover.proofs.Asking.{frozen_reads_seen}
use Rattle.snapshot_handover.proofs.laws.a_frozen_session_reads_what_it_has_seen.Goals as goal

pub returns : goal.returns
returns c = frozen_reads_seen
