use Rattle.std.proofs.Common.{arith}
use Rattle.statement_splitter.proofs.Searches.{tail_whole, tail_front, tail_neither}
use Rattle.statement_splitter.proofs.mark.compare.Goals as goal
use Rattle.statement_splitter.proofs.mark.compare.Goals.{else-count-bytes-via-then-count-bytes+else-count-dollars, else-count-bytes-via-else-count-bytes, else-count-bytes-2-via-then-count-bytes-2+then-count-dollars-2+else-bytes-count, else-count-bytes-2-via-then-count-bytes-2+else-count-dollars-2, else-count-bytes-2-via-else-count-bytes-2}

pub returns-then-count-dollars : goal.returns-then-count-dollars
returns-then-count-dollars c = tail_front c.args.dollars c.args.last c.args.bytes.now (omega (arith, c.dollar_count-count.ensures.count)) (omega arith)

pub returns-then-bytes-count : goal.returns-then-bytes-count
returns-then-bytes-count c = tail_whole c.args.dollars c.args.last c.args.bytes.now (omega (arith, c.dollar_count-count.ensures.count)) (omega arith) (rw (← c.if-count-dollars-2.true) c.if-bytes-count.true)

pub returns : goal.returns
returns c =
    tail_neither c.args.dollars c.args.last c.args.bytes.now c.requires
    (λ all. elim c.else-count-bytes.branch [ else-count-bytes-via-then-count-bytes+else-count-dollars w ↦ omega (arith, c.dollar_count-count.ensures.count) | else-count-bytes-via-else-count-bytes w ↦ omega (arith, c.dollar_count-count.ensures.count, w.if-count-bytes.false) ])
    (λ some count is. elim c.else-count-bytes-2.branch [ else-count-bytes-2-via-then-count-bytes-2+then-count-dollars-2+else-bytes-count w ↦ w.if-bytes-count.false (rw w.if-count-dollars-2.true is) | else-count-bytes-2-via-then-count-bytes-2+else-count-dollars-2 w ↦ omega (arith, c.dollar_count-count.ensures.count) | else-count-bytes-2-via-else-count-bytes-2 w ↦ omega (arith, c.dollar_count-count.ensures.count) ])
