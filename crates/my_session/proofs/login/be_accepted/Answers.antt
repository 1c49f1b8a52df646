use Rattle.std.proofs.Common.{◌≡◌, subst}
use Rattle.std.proofs.lemmas.Result.{on_ok_weaker, IfErr-weaker}
use Rattle.my_session.specs.Channel.{channel_wire}
use Rattle.my_session.specs.Heard.{HearsDecision}
use Rattle.my_session.specs.InStep.{state_after}
use Rattle.my_session.specs.declared.login.Decision.{Decision}
use Rattle.my_session.proofs.LoggingIn.{accepted, asked_to_switch, decision_halts}
use Rattle.my_session.proofs.LoginServed.{after_switch}
use Rattle.my_session.proofs.login.be_accepted.Goals as goal

pub returns-in-Ok-Accepted-clause-served : goal.returns-in-Ok-Accepted-clause-served
returns-in-Ok-Accepted-clause-served g c = λ start h waits.
    subst (λ (d : Decision). (g.L.Link.served c.hear_decision.new.channel.link).state ≡ state_after start d) c.in-Ok-Accepted.field-0-is (c.in-Ok-Accepted.ensures.served start h waits)

pub returns-in-Ok-Switched-clause-served : goal.returns-in-Ok-Switched-clause-served
returns-in-Ok-Switched-clause-served g c = λ start h waits.
    let middle = c.hear_decision.new.channel.link in
    let there = c.in-Ok-Switched.ensures.keeps.stays.honest.0 h in
    after_switch g.L.Link start (g.L.Link.served middle).state c.answer_switch.new.channel.link c.answer_switch.result
    (subst (λ (d : Decision). (g.L.Link.served middle).state ≡ state_after start d) c.in-Ok-Switched.field-0-is (c.in-Ok-Switched.ensures.served start h waits))
    (c.answer_switch.ensures.served there)

pub returns-in-Ok-Accepted-clause-ok : goal.returns-in-Ok-Accepted-clause-ok
returns-in-Ok-Accepted-clause-ok g c = λ t start user peer takes.
    let old = channel_wire g.L.Link c.args.channel.now in
    let new = channel_wire g.L.Link c.hear_decision.new.channel in
    accepted user c.args.password.now peer start old new takes (subst (λ (d : Decision). HearsDecision d old new) c.in-Ok-Accepted.field-0-is (c.in-Ok-Accepted.ensures.heard t))

pub returns-in-Ok-Switched-clause-ok : goal.returns-in-Ok-Switched-clause-ok
returns-in-Ok-Switched-clause-ok g c =
    let old = channel_wire g.L.Link c.args.channel.now in
    let middle = channel_wire g.L.Link c.hear_decision.new.channel in
    on_ok_weaker c.answer_switch.result (λ ok t start user peer takes.
    ok (c.in-Ok-Switched.ensures.keeps.tells.0 t) start user peer (asked_to_switch user c.args.password.now peer start old middle c.in-Ok-Switched.switch takes (subst (λ (d : Decision). HearsDecision d old middle) c.in-Ok-Switched.field-0-is (c.in-Ok-Switched.ensures.heard t))))
    c.answer_switch.ensures.ok

pub returns-in-Ok-Switched-clause-err : goal.returns-in-Ok-Switched-clause-err
returns-in-Ok-Switched-clause-err g c =
    let old = channel_wire g.L.Link c.args.channel.now in
    let middle = channel_wire g.L.Link c.hear_decision.new.channel in
    IfErr-weaker c.answer_switch.result _ _ (λ fault err t start user peer takes.
    err (c.in-Ok-Switched.ensures.keeps.tells.0 t) start user peer (asked_to_switch user c.args.password.now peer start old middle c.in-Ok-Switched.switch takes (subst (λ (d : Decision). HearsDecision d old middle) c.in-Ok-Switched.field-0-is (c.in-Ok-Switched.ensures.heard t))))
    c.answer_switch.ensures.err

pub returns-in-Err-clause-err : goal.returns-in-Err-clause-err
returns-in-Err-clause-err g c = λ t start user peer takes.
    decision_halts user c.args.password.now peer start (channel_wire g.L.Link c.args.channel.now) (channel_wire g.L.Link c.hear_decision.new.channel) c.in-Err.fault takes (c.in-Err.ensures.err t)
