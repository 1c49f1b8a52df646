use Rattle.std.proofs.Common.{arith}
use Rattle.server_data.proofs.Counts.{bound_step, count_end, count_step}
use Rattle.server_model.proofs.agreement.count_in_tables.Goals as goal

pub tables-preserved : goal.tables-preserved
tables-preserved c = record {
  told = count_step c.args.row.now c.args.schema.now c.args.name.now c.tables.left.now c.one-item.result c.tables.count c.count_in_table.result _ c.one-item.is c.in-len1-up.len_at_least c.count_in_table.ensures c.tables.invariant.told;
  bound = bound_step c.tables.left.now c.tables.count c.count_in_table.result _ c.in-len1-up.len_at_least (omega arith) c.tables.invariant.bound;
}

pub returns-clause-count : goal.returns-clause-count
returns-clause-count c = count_end c.args.row.now c.args.schema.now c.args.name.now c.tables.left.now c.tables.count _ c.in_default.len_below c.tables.invariant.told
