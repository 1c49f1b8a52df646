use Rattle.std.proofs.Common.{◌≡◌, ◌∷◌, [], arith, sym, ◌∙◌, subst, Err}
use Rattle.std.proofs.lemmas.Grind.{common_steps}
use Rattle.statement_reading.specs.Parts.{WrittenText}
use Rattle.statement_reading.specs.declared.fault.StatementFault.TheVariants.{OutOfMemory}
use Rattle.statement_reading.proofs.Forms.{form_only, form_some, form_refused, form_entries, part_is}
use Rattle.statement_reading.proofs.FormTexts.{texts_slots, texts_form_is}
use Rattle.statement_reading.proofs.reading.forms.texts_form.Goals as goal

pub path_texts-requires : goal.path_texts-requires
path_texts-requires c = record {
  schema = subst WrittenText (sym c.get-schema.ensures) (part_is (texts_slots c.args.word.now c.args.middle.now c.args.tail.now) [] c.in-Ok.parts c.args.text.now 0 c.in-Ok.ensures (omega arith));
  name = subst WrittenText (sym c.get-name.ensures) (part_is (texts_slots c.args.word.now c.args.middle.now c.args.tail.now) [] c.in-Ok.parts c.args.text.now 1 c.in-Ok.ensures (omega arith));
}

pub returns-in_err-path_texts-in-Ok : goal.returns-in_err-path_texts-in-Ok
returns-in_err-path_texts-in-Ok c =
    let is : c.from_residual.result ≡ Err OutOfMemory = grind (arith, common_steps) in
    rw is (form_some (texts_form_is c.args.word.now c.args.middle.now c.args.tail.now) c.args.text.now c.in-Ok.parts c.in-Ok.ensures)

pub returns-in_ok-path_texts-in-Ok : goal.returns-in_ok-path_texts-in-Ok
returns-in_ok-path_texts-in-Ok c =
    let schema = c.in_ok-path_texts-in-Ok.ensures.0 ∙ c.get-schema.ensures in
    let name = c.in_ok-path_texts-in-Ok.ensures.1 ∙ c.get-name.ensures in
    form_only (texts_form_is c.args.word.now c.args.middle.now c.args.tail.now) c.args.text.now c.in-Ok.parts c.in_ok-path_texts-in-Ok.field-0 c.in-Ok.ensures tt
    ((λ i. schema i ∷ name i ∷ []) ∙ form_entries (texts_slots c.args.word.now c.args.middle.now c.args.tail.now) c.in-Ok.parts c.args.text.now c.in-Ok.ensures)

pub returns-in-Err : goal.returns-in-Err
returns-in-Err c = form_refused (texts_form_is c.args.word.now c.args.middle.now c.args.tail.now) c.args.text.now c.in-Err.place c.in-Err.ensures
