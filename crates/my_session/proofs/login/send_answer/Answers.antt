use Rattle.honest_server.specs.Moves.{plainly}
use Rattle.honest_server.specs.State.{switching}
use Rattle.my_session.proofs.LoginServed.{said_login}
use Rattle.my_session.proofs.login.send_answer.Goals as goal

pub returns-in-Ok-clause-decision : goal.returns-in-Ok-clause-decision
returns-in-Ok-clause-decision g c = λ h.
    let is = c.in-Ok.ensures in
    let before = is.keeps.stays.honest.1 h in
    said_login g.L.Link plainly switching _ c.args.channel.now.link c.answer.new.self.link c.answer.new.self.id tt (c.requires.quiet before) (is.ok.replied before)
