use Rattle.std.proofs.Common.{arith, ◌≡◌, ◌≢◌, ◌+◌, ◌-◌, length, take, drop, ap, length-drop, sym, subst, ◌∙◌, Err}
use Rattle.std.proofs.lemmas.Grind.{common_steps}
use Rattle.grammar.specs.Language.{Refused}
use Rattle.grammar.proofs.Places.{rest_of}
use Rattle.grammar.proofs.Wholes.{refused_more, refused_broken}
use Rattle.statement_forms.specs.Insert.{InsertInto}
use Rattle.statement_reading.proofs.InsertReads.{head_refused, rest_refused, insert_has}
use Rattle.statement_reading.proofs.insert.insert_check.Goals as goal

pub returns-in_err-head-clause-bad : goal.returns-in_err-head-clause-bad
returns-in_err-head-clause-bad c = λ place is.
    let passed : c.from_residual.result ≡ Err c.in_err-head.field-0.0 = grind (arith, common_steps) in
    let same : c.in_err-head.field-0.0 ≡ place = cc (sym passed ∙ is) in
    subst (Refused (InsertInto c.args.table.now) c.args.text.now) same (head_refused _ _ _ c.in_err-head.ensures)

pub returns-in-Ok-clause-ok : goal.returns-in-Ok-clause-ok
returns-in-Ok-clause-ok c = insert_has c.args.table.now c.args.text.now c.in_ok-head.head c.in-Ok.found.columns c.in-Ok.found.rows c.in-Ok.found.size c.in_ok-head.ensures c.in-Ok.ensures.parts c.if-head-found.true

pub returns-in-Ok-2-clause-bad : goal.returns-in-Ok-2-clause-bad
returns-in-Ok-2-clause-bad c = λ place is.
    let same : c.in_ok-head.head + c.in-Ok.found.size ≡ place = cc is in
    let less : c.in-Ok.found.size ≢ length (take (length c.args.text.now - c.in_ok-head.head) (drop c.in_ok-head.head c.args.text.now)) =
    λ e. c.if-head-found.false (omega (arith, e, c.in_ok-head.ensures.place.within, length-drop c.in_ok-head.head c.args.text.now, ap length (rest_of c.args.text.now c.in_ok-head.head))) in
    subst (Refused (InsertInto c.args.table.now) c.args.text.now) same (rest_refused _ _ _ _ c.in_ok-head.ensures (refused_more _ _ _ c.in-Ok.ensures.reads less))

pub returns-in-Err-clause-bad : goal.returns-in-Err-clause-bad
returns-in-Err-clause-bad c = λ place is.
    let same : c.in_ok-head.head + c.in-Err.place ≡ place = cc is in
    subst (Refused (InsertInto c.args.table.now) c.args.text.now) same (rest_refused _ _ _ _ c.in_ok-head.ensures (refused_broken _ _ _ c.in-Err.ensures.reads))
