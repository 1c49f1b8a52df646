use Rattle.std.proofs.Common.{◌≡◌, ◌++◌, take}
use Rattle.server_model.proofs.lists.append.Given as goal

abbrev pub invariant-loop-member : goal.invariant-loop-member
invariant-loop-member g l = l.list ≡ l.fn.list ++ take l.member-index l.more
