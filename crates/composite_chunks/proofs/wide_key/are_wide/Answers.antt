use Rattle.composite_chunks.proofs.Indices.{where_counted, where_not_counted}
use Rattle.composite_chunks.proofs.wide_key.are_wide.Goals as goal

-- src/wide_key.rt:53:1
pub returns-then-is_wide_count : goal.returns-then-is_wide_count
returns-then-is_wide_count c = where_counted c.args.columns.now c.args.indices.now c.is_wide_count.result c.are_plain_integers.result c.is_wide_count.ensures c.if-is_wide_count.true c.are_plain_integers.ensures

-- src/wide_key.rt:53:1
pub returns-else-is_wide_count : goal.returns-else-is_wide_count
returns-else-is_wide_count c = where_not_counted c.args.columns.now c.args.indices.now c.is_wide_count.result c.is_wide_count.ensures c.if-is_wide_count.false
