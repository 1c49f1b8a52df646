use Rattle.std.proofs.Common.{◌≡◌, ◌∷◌, [], arith, sym, ◌∙◌, ap, subst, Err}
use Rattle.std.proofs.lemmas.Grind.{common_steps}
use Rattle.statement_forms.specs.Insert.{QuotedName}
use Rattle.statement_reading.specs.declared.fault.StatementFault.TheVariants.{OutOfMemory}
use Rattle.statement_reading.proofs.Forms.{form_only, form_some, form_refused, form_entries, part_is}
use Rattle.statement_reading.proofs.FormTexts.{name_slots, name_form_is}
use Rattle.statement_reading.proofs.reading.forms.name_form.Goals as goal

pub name_part-requires : goal.name_part-requires
name_part-requires c = subst QuotedName (sym c.get-name.ensures) (part_is (name_slots c.args.word.now) [] c.in-Ok.parts c.args.text.now 0 c.in-Ok.ensures (omega arith))

pub returns-in_err-name_part-in-Ok : goal.returns-in_err-name_part-in-Ok
returns-in_err-name_part-in-Ok c =
    let is : c.from_residual.result ≡ Err OutOfMemory = grind (arith, common_steps) in
    rw is (form_some (name_form_is c.args.word.now) c.args.text.now c.in-Ok.parts c.in-Ok.ensures)

pub returns-in_ok-name_part-in-Ok : goal.returns-in_ok-name_part-in-Ok
returns-in_ok-name_part-in-Ok c =
    form_only (name_form_is c.args.word.now) c.args.text.now c.in-Ok.parts c.in_ok-name_part-in-Ok.field-0 c.in-Ok.ensures tt
    (ap (λ x. x ∷ []) (c.in_ok-name_part-in-Ok.ensures ∙ c.get-name.ensures) ∙ form_entries (name_slots c.args.word.now) c.in-Ok.parts c.args.text.now c.in-Ok.ensures)

pub returns-in-Err : goal.returns-in-Err
returns-in-Err c = form_refused (name_form_is c.args.word.now) c.args.text.now c.in-Err.place c.in-Err.ensures
