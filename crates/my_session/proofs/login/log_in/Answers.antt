use Rattle.my_session.specs.Channel.{channel_wire}
use Rattle.my_session.proofs.LoggingIn.{set_up_done, set_up_stops}
use Rattle.my_session.proofs.LoginServed.{set_up_served}
use Rattle.my_session.proofs.Stepping.{still_peer}
use Rattle.std.proofs.Common.{Ok, Err}
use Rattle.my_session.proofs.login.log_in.Goals as goal

pub be_accepted-requires-clause-decision : goal.be_accepted-requires-clause-decision
be_accepted-requires-clause-decision g c = λ h. record {
  start = (g.L.Link.served c.args.channel.now.link).state;
  waits = c.in-Ok.ensures.decision h;
}

pub returns-in-Err-be_accepted-clause-served : goal.returns-in-Err-be_accepted-clause-served
returns-in-Err-be_accepted-clause-served g c = λ serving.
    let there = c.in-Ok.ensures.keeps.stays.honest.0 serving.honest in
    c.in-Err-be_accepted.ensures.served (g.L.Link.served c.args.channel.now.link).state there (c.in-Ok.ensures.decision there)

pub returns-in-Err-set_up-clause-served : goal.returns-in-Err-set_up-clause-served
returns-in-Err-set_up-clause-served g c = λ serving.
    let start = (g.L.Link.served c.args.channel.now.link).state in
    let there = c.in-Ok.ensures.keeps.stays.honest.0 serving.honest in
    let then_there = c.in_default.ensures.keeps.stays.honest.0 there in
    set_up_served start (g.L.Link.served c.be_accepted.new.channel.link).state (g.L.Link.served c.set_up.new.channel.link).state (Err c.in-Err-set_up.fault)
    (c.in_default.ensures.served start there (c.in-Ok.ensures.decision there)) (c.in-Err-set_up.ensures.served then_there)

pub returns-clause-served : goal.returns-clause-served
returns-clause-served g c = λ serving.
    let start = (g.L.Link.served c.args.channel.now.link).state in
    let there = c.in-Ok.ensures.keeps.stays.honest.0 serving.honest in
    let then_there = c.in_default.ensures.keeps.stays.honest.0 there in
    set_up_served start (g.L.Link.served c.be_accepted.new.channel.link).state (g.L.Link.served c.set_up.new.channel.link).state (Ok (tt {0}))
    (c.in_default.ensures.served start there (c.in-Ok.ensures.decision there)) (c.in_default-set_up.ensures.served then_there)

pub returns-in-Err-be_accepted-clause-err : goal.returns-in-Err-be_accepted-clause-err
returns-in-Err-be_accepted-clause-err g c = λ t.
    c.in-Err-be_accepted.ensures.err (c.in-Ok.ensures.keeps.tells.0 t) (channel_wire g.L.Link c.args.channel.now) c.args.user.now c.in-Ok.peer (c.in-Ok.ensures.ok t)

pub returns-in-Err-set_up-clause-err : goal.returns-in-Err-set_up-clause-err
returns-in-Err-set_up-clause-err g c = λ t.
    let start = channel_wire g.L.Link c.args.channel.now in
    let told = c.in-Ok.ensures.keeps.tells.0 t in
    set_up_stops c.args.user.now c.args.password.now c.in-Ok.peer start (channel_wire g.L.Link c.be_accepted.new.channel) (channel_wire g.L.Link c.set_up.new.channel) (c.in_default.ensures.ok told start c.args.user.now c.in-Ok.peer (c.in-Ok.ensures.ok t)) c.in-Err-set_up.fault (c.in-Err-set_up.ensures.runs (c.in_default.ensures.keeps.tells.0 told))

pub returns-clause-server : goal.returns-clause-server
returns-clause-server g c = λ h.
    still_peer g.L.Link c.be_accepted.new.channel.link c.set_up.new.channel.link c.in-Ok.peer c.in_default-set_up.ensures.keeps.stays
    (still_peer g.L.Link c.greet.new.channel.link c.be_accepted.new.channel.link c.in-Ok.peer c.in_default.ensures.keeps.stays c.in-Ok.ensures.server) h

pub returns-clause-ok : goal.returns-clause-ok
returns-clause-ok g c = λ t.
    let start = channel_wire g.L.Link c.args.channel.now in
    let told = c.in-Ok.ensures.keeps.tells.0 t in
    set_up_done c.args.user.now c.args.password.now c.in-Ok.peer start (channel_wire g.L.Link c.be_accepted.new.channel) (channel_wire g.L.Link c.set_up.new.channel) (c.in_default.ensures.ok told start c.args.user.now c.in-Ok.peer (c.in-Ok.ensures.ok t)) (c.in_default-set_up.ensures.runs (c.in_default.ensures.keeps.tells.0 told))
