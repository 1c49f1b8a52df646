use Rattle.std.proofs.Common.{arith}
use Rattle.my_login.proofs.Numbers.{one_more}
use Rattle.my_login.proofs.version.front_number.Goals as goal

pub overflow_mul-value : goal.overflow_mul-value
overflow_mul-value c = let more = one_more c.args.bytes.now c.loop-i.i c.loop-i.value c.digit_count.result c.min-count.result c.digit_count.ensures.count c.min-count.ensures c.loop-i-test.true c.loop-i.invariant in omega (arith, more.small)

pub overflow_sub-bytes : goal.overflow_sub-bytes
overflow_sub-bytes c = (one_more c.args.bytes.now c.loop-i.i c.loop-i.value c.digit_count.result c.min-count.result c.digit_count.ensures.count c.min-count.ensures c.loop-i-test.true c.loop-i.invariant).low

pub overflow_add-value : goal.overflow_add-value
overflow_add-value c = let more = one_more c.args.bytes.now c.loop-i.i c.loop-i.value c.digit_count.result c.min-count.result c.digit_count.ensures.count c.min-count.ensures c.loop-i-test.true c.loop-i.invariant in omega (arith, more.small, c.from.ensures)

pub loop-i-preserved : goal.loop-i-preserved
loop-i-preserved c = let more = one_more c.args.bytes.now c.loop-i.i c.loop-i.value c.digit_count.result c.min-count.result c.digit_count.ensures.count c.min-count.ensures c.loop-i-test.true c.loop-i.invariant in rw c.from.ensures (more.number, more.below)
