use Rattle.std.proofs.Common.{[], arith, refl}
use Rattle.statement_splitter.proofs.Firsts.{mark_ends, none_after}
use Rattle.statement_splitter.proofs.mark.line_feed_from.Goals as goal

pub returns-then-to-bytes : goal.returns-then-to-bytes
returns-then-to-bytes c = mark_ends 10 [] c.args.bytes.now c.args.from c.byte_until-to.result c.byte_until-to.ensures (omega arith) refl

pub returns-else-to-bytes : goal.returns-else-to-bytes
returns-else-to-bytes c = none_after 10 [] c.args.bytes.now c.args.from c.byte_until-to.result c.byte_until-to.ensures (omega (arith, c.byte_until-to.ensures.high))
