use Rattle.std.proofs.Common.{◌≡◌, ◌∷◌, [], arith, sym, ◌∙◌, ap, subst, Err}
use Rattle.std.proofs.lemmas.Grind.{common_steps}
use Rattle.statement_reading.specs.Parts.{WrittenText}
use Rattle.statement_reading.specs.declared.fault.StatementFault.TheVariants.{OutOfMemory}
use Rattle.statement_reading.proofs.Forms.{form_only, form_some, form_refused, form_entries, part_is}
use Rattle.statement_reading.proofs.FormTexts.{text_slots, text_form_is}
use Rattle.statement_reading.proofs.reading.forms.text_form.Goals as goal

pub text_part-requires : goal.text_part-requires
text_part-requires c = subst WrittenText (sym c.get-value.ensures) (part_is (text_slots c.args.word.now c.args.tail.now) [] c.in-Ok.parts c.args.text.now 0 c.in-Ok.ensures (omega arith))

pub returns-in_err-text_part-in-Ok : goal.returns-in_err-text_part-in-Ok
returns-in_err-text_part-in-Ok c =
    let is : c.from_residual.result ≡ Err OutOfMemory = grind (arith, common_steps) in
    rw is (form_some (text_form_is c.args.word.now c.args.tail.now) c.args.text.now c.in-Ok.parts c.in-Ok.ensures)

pub returns-in_ok-text_part-in-Ok : goal.returns-in_ok-text_part-in-Ok
returns-in_ok-text_part-in-Ok c =
    form_only (text_form_is c.args.word.now c.args.tail.now) c.args.text.now c.in-Ok.parts c.in_ok-text_part-in-Ok.field-0 c.in-Ok.ensures tt
    (ap (λ x. x ∷ []) (c.in_ok-text_part-in-Ok.ensures ∙ c.get-value.ensures) ∙ form_entries (text_slots c.args.word.now c.args.tail.now) c.in-Ok.parts c.args.text.now c.in-Ok.ensures)

pub returns-in-Err : goal.returns-in-Err
returns-in-Err c = form_refused (text_form_is c.args.word.now c.args.tail.now) c.args.text.now c.in-Err.place c.in-Err.ensures
