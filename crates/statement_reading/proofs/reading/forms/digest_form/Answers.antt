use Rattle.std.proofs.Common.{◌∷◌, [], arith, sym, ◌∙◌, ap, subst}
use Rattle.statement_reading.specs.Parts.{DigestText}
use Rattle.statement_reading.proofs.Forms.{form_only, form_refused, form_entries, part_is}
use Rattle.statement_reading.proofs.FormTexts.{digest_slots, digest_form_is}
use Rattle.statement_reading.proofs.TextValues.{digest_of}
use Rattle.statement_reading.proofs.reading.forms.digest_form.Goals as goal

pub returns-in-Ok : goal.returns-in-Ok
returns-in-Ok c =
    form_only (digest_form_is c.args.word.now c.args.tail.now) c.args.text.now c.in-Ok.parts c.of.result c.in-Ok.ensures (digest_of _ (subst DigestText (sym (c.of.ensures ∙ c.get-digest.ensures)) (part_is (digest_slots c.args.word.now c.args.tail.now) [] c.in-Ok.parts c.args.text.now 0 c.in-Ok.ensures (omega arith))))
    (ap (λ x. x ∷ []) (c.of.ensures ∙ c.get-digest.ensures) ∙ form_entries (digest_slots c.args.word.now c.args.tail.now) c.in-Ok.parts c.args.text.now c.in-Ok.ensures)

pub returns-in-Err : goal.returns-in-Err
returns-in-Err c = form_refused (digest_form_is c.args.word.now c.args.tail.now) c.args.text.now c.in-Err.place c.in-Err.ensures
