use Rattle.std.proofs.Common.{◌≡◌, ◌∷◌, [], arith, sym, ◌∙◌, subst, Err}
use Rattle.std.proofs.lemmas.Grind.{common_steps}
use Rattle.statement_forms.specs.Insert.{QuotedName}
use Rattle.statement_reading.specs.declared.fault.StatementFault.TheVariants.{OutOfMemory}
use Rattle.statement_reading.proofs.Forms.{form_only, form_some, form_refused, form_entries, part_is}
use Rattle.statement_reading.proofs.FormTexts.{path_slots, path_form_is}
use Rattle.statement_reading.proofs.reading.forms.path_form.Goals as goal

pub path_parts-requires : goal.path_parts-requires
path_parts-requires c = record {
  schema = subst QuotedName (sym c.get-schema.ensures) (part_is (path_slots c.args.word.now) [] c.in-Ok.parts c.args.text.now 0 c.in-Ok.ensures (omega arith));
  name = subst QuotedName (sym c.get-name.ensures) (part_is (path_slots c.args.word.now) [] c.in-Ok.parts c.args.text.now 1 c.in-Ok.ensures (omega arith));
}

pub returns-in_err-path_parts-in-Ok : goal.returns-in_err-path_parts-in-Ok
returns-in_err-path_parts-in-Ok c =
    let is : c.from_residual.result ≡ Err OutOfMemory = grind (arith, common_steps) in
    rw is (form_some (path_form_is c.args.word.now) c.args.text.now c.in-Ok.parts c.in-Ok.ensures)

pub returns-in_ok-path_parts-in-Ok : goal.returns-in_ok-path_parts-in-Ok
returns-in_ok-path_parts-in-Ok c =
    let schema = c.in_ok-path_parts-in-Ok.ensures.0 ∙ c.get-schema.ensures in
    let name = c.in_ok-path_parts-in-Ok.ensures.1 ∙ c.get-name.ensures in
    form_only (path_form_is c.args.word.now) c.args.text.now c.in-Ok.parts c.in_ok-path_parts-in-Ok.field-0 c.in-Ok.ensures tt
    ((λ i. schema i ∷ name i ∷ []) ∙ form_entries (path_slots c.args.word.now) c.in-Ok.parts c.args.text.now c.in-Ok.ensures)

pub returns-in-Err : goal.returns-in-Err
returns-in-Err c = form_refused (path_form_is c.args.word.now) c.args.text.now c.in-Err.place c.in-Err.ensures
