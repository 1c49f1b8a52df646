use Rattle.std.proofs.Common.{◌≡◌, take}
use Rattle.plain_data.proofs.list.PlainList.copy.Given as goal

abbrev pub invariant-loop-member : goal.invariant-loop-member
invariant-loop-member g l = l.made ≡ take l.member-index l.member-items
