use Rattle.std.proofs.Common.{◌≡◌, ◌∷◌, ◌^◌, [], arith, sym, ◌∙◌, subst, Err}
use Rattle.std.proofs.lemmas.Grind.{common_steps}
use Rattle.statement_forms.specs.Insert.{QuotedName}
use Rattle.statement_forms.specs.Statement.{IsWide, IsBounded}
use Rattle.statement_reading.specs.Parts.{Names, IsBoundRow, Within}
use Rattle.statement_reading.specs.declared.fault.StatementFault.TheVariants.{OutOfMemory}
use Rattle.statement_reading.proofs.Forms.{form_only, form_some, form_refused, form_entries, part_is}
use Rattle.statement_reading.proofs.WideForms.{wide_key_above_values, wide_key_above_slots, wide_key_above_form, wide_key_above_row}
use Rattle.statement_reading.proofs.WideValues.{keys_names, keys_wide, bounds_at, bound_row, bounded_row}
use Rattle.statement_reading.proofs.Rows.{row_only, row_some, row_refused}
use Rattle.statement_reading.proofs.reading.wide_queries.wide_key_above_query.Goals as goal

pub source_parts-requires : goal.source_parts-requires
source_parts-requires c = record {
  columns = subst Names (sym c.get-keys.ensures) (keys_names _ (part_is wide_key_above_slots [] c.in-Ok.parts c.args.text.now 0 c.in-Ok.ensures (omega arith)));
  schema = subst QuotedName (sym c.get-schema.ensures) (part_is wide_key_above_slots [] c.in-Ok.parts c.args.text.now 1 c.in-Ok.ensures (omega arith));
  table = subst QuotedName (sym c.get-table.ensures) (part_is wide_key_above_slots [] c.in-Ok.parts c.args.text.now 2 c.in-Ok.ensures (omega arith));
}

pub returns-in_err-made-in-Ok : goal.returns-in_err-made-in-Ok
returns-in_err-made-in-Ok c =
    let is : c.from_residual.result ≡ Err OutOfMemory = grind (arith, common_steps) in
    rw is (row_some wide_key_above_row c.args.text.now (form_some wide_key_above_form c.args.text.now c.in-Ok.parts c.in-Ok.ensures))

pub returns-in-Err : goal.returns-in-Err
returns-in-Err c = row_refused wide_key_above_row c.args.text.now c.in-Err.place (form_refused wide_key_above_form c.args.text.now c.in-Err.place c.in-Err.ensures)

pub bounds_value-requires : goal.bounds_value-requires
bounds_value-requires c = subst IsBoundRow (sym c.get-above.ensures) (bound_row _ _ (part_is wide_key_above_slots [] c.in-Ok.parts c.args.text.now 0 c.in-Ok.ensures (omega arith)) (bounds_at c.in-Ok.parts 3 0 _ (omega arith) (part_is wide_key_above_slots [] c.in-Ok.parts c.args.text.now 3 c.in-Ok.ensures (omega arith))))

pub count_value-requires : goal.count_value-requires
count_value-requires c = subst (Within 0 (2 ^ 64)) (sym c.get-skipped.ensures) (part_is wide_key_above_slots [] c.in-Ok.parts c.args.text.now 4 c.in-Ok.ensures (omega arith))

pub returns-in_ok-made-in-Ok : goal.returns-in_ok-made-in-Ok
returns-in_ok-made-in-Ok c =
    let has = c.in-Ok.ensures in
    let keys = c.in_ok-made-in-Ok.ensures.0 ∙ c.get-keys.ensures in
    let schema = c.in_ok-made-in-Ok.ensures.2 ∙ c.get-schema.ensures in
    let table = c.in_ok-made-in-Ok.ensures.3 ∙ c.get-table.ensures in
    let above = c.bounds_value.ensures.text ∙ c.get-above.ensures in
    let skipped = c.count_value.ensures.text ∙ c.get-skipped.ensures in
    let wide : IsWide c.in_ok-made-in-Ok.made.columns = keys_wide c.in_ok-made-in-Ok.made.columns _ (part_is wide_key_above_slots [] c.in-Ok.parts c.args.text.now 0 c.in-Ok.ensures (omega arith)) keys c.in_ok-made-in-Ok.ensures.1 in
    let above_bounded : IsBounded c.in_ok-made-in-Ok.made.columns c.bounds_value.result = bounded_row _ _ _ _ (sym keys) wide (bounds_at c.in-Ok.parts 3 0 _ (omega arith) (part_is wide_key_above_slots [] c.in-Ok.parts c.args.text.now 3 c.in-Ok.ensures (omega arith))) above c.bounds_value.ensures.row in
    let v : wide_key_above_values = (c.in_ok-made-in-Ok.made.columns, c.in_ok-made-in-Ok.made.path.schema, c.in_ok-made-in-Ok.made.path.name, c.bounds_value.result, c.count_value.result) in
    row_only wide_key_above_row c.args.text.now v (form_only wide_key_above_form c.args.text.now c.in-Ok.parts v has (above_bounded, (c.bounds_value.ensures.row.ranges, c.count_value.ensures.range)) ((λ i. keys i ∷ schema i ∷ table i ∷ above i ∷ skipped i ∷ []) ∙ form_entries wide_key_above_slots c.in-Ok.parts c.args.text.now has))
