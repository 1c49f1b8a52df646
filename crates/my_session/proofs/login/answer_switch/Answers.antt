use Rattle.std.proofs.Common.{◌∙◌, rules}
use Rattle.std.proofs.lemmas.Result.{on_ok_weaker, IfErr-weaker}
use Rattle.honest_server.specs.State.{switching}
use Rattle.my_session.specs.Channel.{channel_wire}
use Rattle.my_session.proofs.LoggingIn.{switch_unsaid, switch_halts, switch_done}
use Rattle.my_session.proofs.LoginServed.{acceptance_heard, acceptance_served, decision_comes, unsaid_login}
use Rattle.my_session.proofs.login.answer_switch.Goals as goal

pub hear_done-requires : goal.hear_done-requires
hear_done-requires g c = record {
  awaits = record {
    alive = search rules;
    waits = λ serving. decision_comes g.L.Link _ c.send_answer.new.channel.link c.send_answer.new.channel.id (c.in_default.ensures.decision serving.honest);
  };
}

pub returns-clause-quiet : goal.returns-clause-quiet
returns-clause-quiet g c =
    acceptance_heard g.L.Link (g.L.Link.served c.args.channel.now.link).state c.send_answer.new.channel c.hear_done.new.channel c.hear_done.result c.hear_done.ensures.keeps.stays (λ h. c.in_default.ensures.decision h) c.hear_done.ensures.served

pub returns-in-Err-clause-served : goal.returns-in-Err-clause-served
returns-in-Err-clause-served g c = λ h.
    unsaid_login g.L.Link switching _ c.args.channel.now.link c.send_answer.new.channel.link c.in-Err.fault tt (c.requires.quiet h) (c.in-Err.ensures.err.left h)

pub returns-clause-served : goal.returns-clause-served
returns-clause-served g c = λ h.
    let there = c.in_default.ensures.keeps.stays.honest.0 h in
    acceptance_served g.L.Link (g.L.Link.served c.args.channel.now.link).state c.send_answer.new.channel c.hear_done.new.channel c.hear_done.result (c.requires.quiet h).phase_is there (c.in_default.ensures.decision there) c.hear_done.ensures.served

pub returns-in-Err-clause-err : goal.returns-in-Err-clause-err
returns-in-Err-clause-err g c = λ t start user peer takes.
    switch_unsaid user c.args.password.now peer start (channel_wire g.L.Link c.args.channel.now) c.args.switch takes _ (c.as_ref.ensures.value ∙ c.password_answer-answer.ensures) (channel_wire g.L.Link c.send_answer.new.channel) c.in-Err.fault (c.in-Err.ensures.err.unsaid t)

pub returns-clause-ok : goal.returns-clause-ok
returns-clause-ok g c =
    on_ok_weaker c.hear_done.result (λ heard t start user peer takes.
    switch_done user c.args.password.now peer start (channel_wire g.L.Link c.args.channel.now) c.args.switch takes _ (c.as_ref.ensures.value ∙ c.password_answer-answer.ensures) (channel_wire g.L.Link c.send_answer.new.channel) (c.in_default.ensures.says.sent t) (channel_wire g.L.Link c.hear_done.new.channel) (heard (c.in_default.ensures.keeps.tells.0 t)))
    c.hear_done.ensures.heard

pub returns-clause-err : goal.returns-clause-err
returns-clause-err g c =
    IfErr-weaker c.hear_done.result _ _ (λ fault halts t start user peer takes.
    switch_halts user c.args.password.now peer start (channel_wire g.L.Link c.args.channel.now) c.args.switch takes _ (c.as_ref.ensures.value ∙ c.password_answer-answer.ensures) (channel_wire g.L.Link c.send_answer.new.channel) (c.in_default.ensures.says.sent t) (channel_wire g.L.Link c.hear_done.new.channel) fault (halts (c.in_default.ensures.keeps.tells.0 t)))
    c.hear_done.ensures.err
