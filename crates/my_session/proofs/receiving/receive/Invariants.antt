use Rattle.std.proofs.Common.{◌≤◌, ◌-◌, ◌^◌}
use Rattle.my_session.specs.Receiving.{HoldsTaken, reader_at}
use Rattle.my_session.proofs.receiving.receive.Given as goal

abbrev pub invariant-pieces : goal.invariant-pieces
invariant-pieces g l = record {
  gathers : HoldsTaken g.L.Link (reader_at l.fn.link l.fn.frames l.fn.taken) (reader_at l.link l.frames l.taken);
  within : l.taken ≤ 2 ^ 62;
}

abbrev pub decreases-pieces : goal.decreases-pieces
decreases-pieces g l = 4611686018427387904 - l.taken
