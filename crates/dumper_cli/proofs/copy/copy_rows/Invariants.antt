use Rattle.std.proofs.Common.{◌-◌}
use Rattle.dumper_cli.specs.Next.{HasPendingRows, Keeps}
use Rattle.dumper_cli.specs.Writing.{KeepsFile}
use Rattle.dumper_cli.proofs.RowsSoFar.{SoFar}
use Rattle.dumper_cli.proofs.copy.copy_rows.Given as goal

abbrev pub invariant-rows : goal.invariant-rows
invariant-rows g l = record {
  has_rows : HasPendingRows l.session;
  keeps : Keeps g.L.Link l.fn.session l.session;
  keeps_file : KeepsFile g.S.Shelf l.fn.file l.file;
  so_far : SoFar g.L.Link g.S.Shelf l.columns l.fn.session l.fn.file l.session l.file;
}

abbrev pub decreases-rows : goal.decreases-rows
decreases-rows g l = 4611686018427387904 - l.session.place
