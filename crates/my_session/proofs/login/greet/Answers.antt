use Rattle.std.proofs.Common.{◌∙◌, subst, sym}
use Rattle.honest_server.specs.State.{greeted}
use Rattle.my_session.specs.Channel.{channel_wire}
use Rattle.my_session.specs.Peer.{IsPeerOf, peer_of}
use Rattle.my_session.specs.declared.peer.Peer.{Peer}
use Rattle.my_session.proofs.LoggingIn.{greet_halts, greet_said, greet_unsaid}
use Rattle.my_session.proofs.LoginServed.{decision_from, fails_from, missed_at_start, unsaid_login}
use Rattle.my_session.proofs.Stepping.{still_peer}
use Rattle.my_session.proofs.login.greet.Goals as goal

pub returns-in-Err-clause-served : goal.returns-in-Err-clause-served
returns-in-Err-clause-served g c = λ serving.
    let missed = c.in-Err.ensures.served serving in
    missed_at_start (g.L.Link.served c.args.channel.now.link).state (g.L.Link.served c.hear_greeting.new.channel.link).state c.in-Err.fault missed.state missed.missed

pub returns-in-Err-respond-clause-served : goal.returns-in-Err-respond-clause-served
returns-in-Err-respond-clause-served g c = λ serving.
    let h = c.in-Ok.ensures.keeps.stays.honest.0 serving.honest in
    let middle = c.hear_greeting.new.channel.link in
    let last = c.respond.new.channel.link in
    fails_from g.L.Link (g.L.Link.served c.args.channel.now.link).state (g.L.Link.served middle).state last c.in-Err-respond.fault (c.in-Ok.ensures.served serving).state
    (unsaid_login g.L.Link greeted _ middle last c.in-Err-respond.fault tt (c.in-Ok.ensures.quiet h) (c.in-Err-respond.ensures.err.left h))

pub returns-clause-decision : goal.returns-clause-decision
returns-clause-decision g c = λ h.
    let middle = c.hear_greeting.new.channel.link in
    let last = c.respond.new.channel.link in
    let there = c.in_default.ensures.keeps.stays.honest.1 h in
    let before = c.in-Ok.ensures.keeps.stays.honest.1 there in
    let alive = c.in-Ok.ensures.keeps.stays.back before (c.in-Ok.ensures.quiet there).alive in
    decision_from g.L.Link (g.L.Link.served c.args.channel.now.link).state (g.L.Link.served middle).state last c.respond.new.channel.id (c.in-Ok.ensures.served (record { honest = before; alive = alive })).state (c.in_default.ensures.decision h)

pub returns-in-Err-clause-err : goal.returns-in-Err-clause-err
returns-in-Err-clause-err g c = λ t.
    greet_halts c.args.user.now c.args.password.now (channel_wire g.L.Link c.args.channel.now) (channel_wire g.L.Link c.hear_greeting.new.channel) c.in-Err.fault (c.in-Err.ensures.err t)

pub returns-clause-server : goal.returns-clause-server
returns-clause-server g c = λ h.
    subst (λ (p : Peer). IsPeerOf (g.L.Link.served c.respond.new.channel.link).state.terms.server p) (sym c.peer_of.ensures)
    (still_peer g.L.Link c.hear_greeting.new.channel.link c.respond.new.channel.link (peer_of c.in-Ok.greeting) c.in_default.ensures.keeps.stays c.in-Ok.ensures.server h)

pub returns-clause-ok : goal.returns-clause-ok
returns-clause-ok g c = λ t.
    greet_said c.args.user.now c.args.password.now (channel_wire g.L.Link c.args.channel.now) (channel_wire g.L.Link c.hear_greeting.new.channel) (channel_wire g.L.Link c.respond.new.channel) c.in-Ok.greeting (c.in-Ok.ensures.heard t) _ (c.as_ref.ensures.value ∙ c.password_answer-answer.ensures) c.peer_of.result c.peer_of.ensures (c.in_default.ensures.says.sent (c.in-Ok.ensures.keeps.tells.0 t))

pub returns-in-Err-respond-clause-err : goal.returns-in-Err-respond-clause-err
returns-in-Err-respond-clause-err g c = λ t.
    greet_unsaid c.args.user.now c.args.password.now (channel_wire g.L.Link c.args.channel.now) (channel_wire g.L.Link c.hear_greeting.new.channel) (channel_wire g.L.Link c.respond.new.channel) c.in-Ok.greeting (c.in-Ok.ensures.heard t) _ (c.as_ref.ensures.value ∙ c.password_answer-answer.ensures) c.in-Err-respond.fault (c.in-Err-respond.ensures.err.unsaid (c.in-Ok.ensures.keeps.tells.0 t))
