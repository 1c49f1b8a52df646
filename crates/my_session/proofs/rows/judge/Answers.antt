use Rattle.std.proofs.Common.{◌∙◌, ap, rules}
use Rattle.wire_forms.specs.Reading.{idle}
use Rattle.wire_forms.specs.declared.ends.Ends.{Ends}
use Rattle.my_session.proofs.Querying.{judged_definition, judged_row, judged_end, judged_refusal, judged_garbled}
use Rattle.my_session.proofs.rows.judge.Goals as goal

pub returns-in-Row : goal.returns-in-Row
returns-in-Row c = judged_row c.args.reader.now c.step.new.self c.args.message.payload.now c.in-Row.ensures.step c.in-Row.ensures.after

pub returns-in-End : goal.returns-in-End
returns-in-End c =
    let judged = judged_end c.args.reader.now c.step.new.self c.args.message.payload.now c.in-End.ensures.step c.in-End.ensures.after in
    (judged.0, judged.1 ∙ ap (λ (e : Ends). idle e) c.requires.awaits.ends_are)

pub returns-in-Refused : goal.returns-in-Refused
returns-in-Refused c =
    let judged = judged_refusal c.args.form c.args.reader.now c.step.new.self c.args.message.payload.now c.args.message.place c.in-Refused.ensures.step c.in-Refused.ensures.after in
    (judged.0, judged.1 ∙ ap (λ (e : Ends). idle e) c.requires.awaits.ends_are)

pub returns-in-Garbled : goal.returns-in-Garbled
returns-in-Garbled c = (judged_garbled c.args.form c.args.reader.now c.args.message.payload.now c.args.message.place c.in-Garbled.ensures.step, search rules)

pub unreachable-requires : goal.unreachable-requires
unreachable-requires c = judged_definition c.args.reader.now c.args.message.payload.now c.requires.awaits.rows c.in-Definition.ensures.step
