use Rattle.std.proofs.Common.{◌≤◌, ◌-◌, ◌^◌}
use Rattle.my_session.specs.Session.{link_at}
use Rattle.my_session.specs.Receiving.{Drains, skimmer_at}
use Rattle.my_session.proofs.receiving.skim_message.Given as goal

abbrev pub invariant-pieces : goal.invariant-pieces
invariant-pieces g l = record {
  drains : Drains g.L.Link (link_at l.fn.link l.fn.taken l.fn.id) (skimmer_at l.link l.skim l.taken);
  within : l.taken ≤ 2 ^ 62;
}

abbrev pub decreases-pieces : goal.decreases-pieces
decreases-pieces g l = 4611686018427387904 - l.taken
