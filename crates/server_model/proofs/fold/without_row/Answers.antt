use Rattle.std.proofs.Common.{◌∙◌, sym}
use Rattle.server_model.proofs.Fronts.{passed_by}
use Rattle.server_model.proofs.fold.without_row.Goals as goal

pub tables-preserved : goal.tables-preserved
tables-preserved c = passed_by c.args.schema.now c.args.name.now c.args.row.now c.tables.front _ c.tables.left.now c.one-item.result c.in_ok-copy-in-None.field-0 _ c.one-item.is c.in-len1-up.len_at_least (sym c.in_ok-here.ensures ∙ c.in-None.is) c.in_ok-copy-in-None.ensures c.in_ok-push-in-None.ensures.ok c.tables.invariant
