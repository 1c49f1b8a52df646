use Rattle.my_session.specs.Channel.{link_of}
use Rattle.my_session.specs.Fault.{session_fault}
use Rattle.my_session.proofs.LoggingIn.{decision_counted}
use Rattle.my_session.proofs.LoginServed.{decision_heard, decision_missed, decision_served}
use Rattle.my_session.proofs.login.hear_decision.Goals as goal

pub returns-in-Err-clause-served : goal.returns-in-Err-clause-served
returns-in-Err-clause-served g c = λ start h waits.
    rw c.session_fault.ensures (decision_missed g.L.Link start (link_of c.args.channel.now) (link_of c.hear.new.self) (session_fault c.in-Err.fault) waits (c.in-Err.ensures.err.served (record { honest = h; alive = waits.alive })))

pub returns-clause-served : goal.returns-clause-served
returns-clause-served g c = λ start h waits.
    decision_served g.L.Link start c.args.channel.now.link c.hear.new.self.link c.args.channel.now.id c.hear.new.self.id c.hear.new.self.message waits (c.in_default.ensures.ok.delivers (record { honest = h; alive = waits.alive })) c.place-place.result c.message.result.payload.now c.read_decision.result c.message.ensures.payload c.read_decision.ensures

pub returns-clause-quiet : goal.returns-clause-quiet
returns-clause-quiet g c =
    let is = c.in_default.ensures in
    decision_heard g.L.Link c.args.channel.now c.hear.new.self.link c.hear.new.self.id c.hear.new.self.message c.message.result.payload.now _ c.read_decision.result is.keeps.stays c.requires.decision is.ok.delivers c.message.ensures.payload c.read_decision.ensures

pub returns-clause-keeps : goal.returns-clause-keeps
returns-clause-keeps g c = record {
  stays = c.hear.ensures.keeps.stays;
  tells = c.hear.ensures.keeps.tells;
  counted =
      decision_counted (g.L.Link.faults c.args.channel.now.link) (g.L.Link.faults c.hear.new.self.link) c.place-place.result c.message.result.payload.now c.read_decision.result _ c.hear.ensures.keeps.counted.later c.read_decision.ensures;
}
