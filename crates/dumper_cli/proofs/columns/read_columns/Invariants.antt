use Rattle.std.proofs.Common.{◌-◌}
use Rattle.dumper_cli.specs.AskedBy.{asked_by}
use Rattle.dumper_cli.specs.Next.{HasPendingRows, Keeps}
use Rattle.dumper_cli.specs.Run.{Start, Reached}
use Rattle.dumper_cli.specs.Stage.{asks_columns, awaits_columns}
use Rattle.dumper_cli.proofs.columns.read_columns.Given as goal

abbrev pub invariant-columns : goal.invariant-columns
invariant-columns g l = record {
  has_rows : HasPendingRows l.session;
  keeps : Keeps g.L.Link l.fn.session l.session;
  reached : (start : Start) → Reached g.L.Link (asked_by l.words) (asks_columns l.fn.session.peer.ends) start l.fn.session → Reached g.L.Link (asked_by l.words) (awaits_columns l.session.pending.reading l.columns) start l.session;
}

abbrev pub decreases-columns : goal.decreases-columns
decreases-columns g l = 4611686018427387904 - l.session.place
