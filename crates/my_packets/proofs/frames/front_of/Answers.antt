use Rattle.std.proofs.Common.{◌≡◌, ◌-◌, arith}
use Rattle.my_packets.proofs.Splits.{passed_none, passed_whole, passed_part, first_wrong}
use Rattle.my_packets.proofs.frames.front_of.Goals as goal

pub returns-then-size-lt-FULL_SIZE : goal.returns-then-size-lt-FULL_SIZE
returns-then-size-lt-FULL_SIZE c =
    let room : c.args.limit ≡ c.args.limit - 0 = omega arith in
    passed_whole _ _ _ _ _ _ _ (passed_none c.args.limit c.args.id c.args.bytes.now (omega arith)) room c.in-Whole.size _ c.in-Whole.ensures c.if-size-lt-FULL_SIZE.true (omega arith)

pub returns-in-Part : goal.returns-in-Part
returns-in-Part c =
    let room : c.args.limit ≡ c.args.limit - 0 = omega arith in
    passed_part _ _ _ _ _ _ _ (passed_none c.args.limit c.args.id c.args.bytes.now (omega arith)) room c.in-Part.more c.in-Part.ensures

pub returns-in-Wrong : goal.returns-in-Wrong
returns-in-Wrong c =
    let room : c.args.limit ≡ c.args.limit - 0 = omega arith in
    first_wrong c.args.limit c.args.id c.args.bytes.now c.in-Wrong.fault (omega arith) c.in-Wrong.ensures
