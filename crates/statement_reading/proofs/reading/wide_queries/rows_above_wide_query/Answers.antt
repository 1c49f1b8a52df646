use Rattle.std.proofs.Common.{◌≡◌, ◌∷◌, [], arith, sym, ◌∙◌, subst, Err}
use Rattle.std.proofs.lemmas.Grind.{common_steps}
use Rattle.statement_forms.specs.Insert.{QuotedName}
use Rattle.statement_forms.specs.Statement.{IsWide, IsBounded}
use Rattle.statement_reading.specs.Parts.{Names, IsBoundRow}
use Rattle.statement_reading.specs.declared.fault.StatementFault.TheVariants.{OutOfMemory}
use Rattle.statement_reading.proofs.Forms.{form_only, form_some, form_refused, form_entries, part_is}
use Rattle.statement_reading.proofs.WideForms.{rows_above_wide_values, rows_above_wide_slots, rows_above_wide_form, rows_above_wide_row}
use Rattle.statement_reading.proofs.WideValues.{keys_names, keys_wide, bounds_at, bound_row, bounded_row}
use Rattle.statement_reading.proofs.Rows.{row_only, row_some, row_refused}
use Rattle.statement_reading.proofs.reading.wide_queries.rows_above_wide_query.Goals as goal

pub wide_parts-requires : goal.wide_parts-requires
wide_parts-requires c = record {
  columns = subst Names (sym c.get-columns.ensures) (part_is rows_above_wide_slots [] c.in-Ok.parts c.args.text.now 0 c.in-Ok.ensures (omega arith));
  schema = subst QuotedName (sym c.get-schema.ensures) (part_is rows_above_wide_slots [] c.in-Ok.parts c.args.text.now 1 c.in-Ok.ensures (omega arith));
  table = subst QuotedName (sym c.get-table.ensures) (part_is rows_above_wide_slots [] c.in-Ok.parts c.args.text.now 2 c.in-Ok.ensures (omega arith));
  keys = subst Names (sym c.get-keys.ensures) (keys_names _ (part_is rows_above_wide_slots [] c.in-Ok.parts c.args.text.now 3 c.in-Ok.ensures (omega arith)));
}

pub returns-in_err-made-in-Ok : goal.returns-in_err-made-in-Ok
returns-in_err-made-in-Ok c =
    let is : c.from_residual.result ≡ Err OutOfMemory = grind (arith, common_steps) in
    rw is (row_some rows_above_wide_row c.args.text.now (form_some rows_above_wide_form c.args.text.now c.in-Ok.parts c.in-Ok.ensures))

pub returns-in-Err : goal.returns-in-Err
returns-in-Err c = row_refused rows_above_wide_row c.args.text.now c.in-Err.place (form_refused rows_above_wide_form c.args.text.now c.in-Err.place c.in-Err.ensures)

pub bounds_value-requires : goal.bounds_value-requires
bounds_value-requires c = subst IsBoundRow (sym c.get-above.ensures) (bound_row _ _ (part_is rows_above_wide_slots [] c.in-Ok.parts c.args.text.now 3 c.in-Ok.ensures (omega arith)) (bounds_at c.in-Ok.parts 4 3 _ (omega arith) (part_is rows_above_wide_slots [] c.in-Ok.parts c.args.text.now 4 c.in-Ok.ensures (omega arith))))

pub returns-in_ok-made-in-Ok : goal.returns-in_ok-made-in-Ok
returns-in_ok-made-in-Ok c =
    let has = c.in-Ok.ensures in
    let columns = c.in_ok-made-in-Ok.ensures.0 ∙ c.get-columns.ensures in
    let schema = c.in_ok-made-in-Ok.ensures.2 ∙ c.get-schema.ensures in
    let table = c.in_ok-made-in-Ok.ensures.3 ∙ c.get-table.ensures in
    let keys = c.in_ok-made-in-Ok.ensures.4 ∙ c.get-keys.ensures in
    let above = c.bounds_value.ensures.text ∙ c.get-above.ensures in
    let wide : IsWide c.in_ok-made-in-Ok.made.keys = keys_wide c.in_ok-made-in-Ok.made.keys _ (part_is rows_above_wide_slots [] c.in-Ok.parts c.args.text.now 3 c.in-Ok.ensures (omega arith)) keys c.in_ok-made-in-Ok.ensures.5 in
    let above_bounded : IsBounded c.in_ok-made-in-Ok.made.keys c.bounds_value.result = bounded_row _ _ _ _ (sym keys) wide (bounds_at c.in-Ok.parts 4 3 _ (omega arith) (part_is rows_above_wide_slots [] c.in-Ok.parts c.args.text.now 4 c.in-Ok.ensures (omega arith))) above c.bounds_value.ensures.row in
    let v : rows_above_wide_values = (c.in_ok-made-in-Ok.made.source.columns, c.in_ok-made-in-Ok.made.source.path.schema, c.in_ok-made-in-Ok.made.source.path.name, c.in_ok-made-in-Ok.made.keys, c.bounds_value.result) in
    row_only rows_above_wide_row c.args.text.now v (form_only rows_above_wide_form c.args.text.now c.in-Ok.parts v has ((c.in_ok-made-in-Ok.ensures.1, above_bounded), c.bounds_value.ensures.row.ranges) ((λ i. columns i ∷ schema i ∷ table i ∷ keys i ∷ above i ∷ []) ∙ form_entries rows_above_wide_slots c.in-Ok.parts c.args.text.now has))
