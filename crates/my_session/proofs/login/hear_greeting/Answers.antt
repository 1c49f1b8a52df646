use Rattle.std.proofs.Common.{sym}
use Rattle.my_session.specs.Channel.{link_of}
use Rattle.my_session.specs.Fault.{session_fault}
use Rattle.my_session.proofs.LoginServed.{greeting_kept, greeting_missed, greeting_read}
use Rattle.my_session.proofs.Stepping.{greeting_comes, greeting_heard, greeting_tells}
use Rattle.my_session.proofs.login.hear_greeting.Goals as goal

pub hear-requires-clause-waits : goal.hear-requires-clause-waits
hear-requires-clause-waits g c = greeting_comes g.L.Link c.args.channel.now.link c.args.channel.now.id c.requires.awaits.first c.requires.awaits.greeting

pub returns-in-Err-clause-served : goal.returns-in-Err-clause-served
returns-in-Err-clause-served g c = λ serving.
    rw c.session_fault.ensures (greeting_missed g.L.Link (link_of c.args.channel.now) (link_of c.hear.new.self) (session_fault c.in-Err.fault) c.requires.awaits.first (c.requires.awaits.greeting serving) (c.in-Err.ensures.err.served serving))

pub returns-in-Ok-clause-served : goal.returns-in-Ok-clause-served
returns-in-Ok-clause-served g c = λ serving.
    greeting_kept g.L.Link c.args.channel.now.link c.hear.new.self.link c.args.channel.now.id c.hear.new.self.id c.hear.new.self.message c.in-Ok.greeting (c.in_default.ensures.ok.delivers serving)

pub returns-in-Err-read-clause-served : goal.returns-in-Err-read-clause-served
returns-in-Err-read-clause-served g c = λ serving.
    absurd (greeting_read g.L.Link c.args.channel.now.link c.hear.new.self.link c.args.channel.now.id c.hear.new.self.id c.hear.new.self.message c.message.result.payload.now c.in-Err-read.fault c.requires.awaits.first (c.requires.awaits.greeting serving) (c.in_default.ensures.ok.delivers serving) c.message.ensures.payload (sym c.in-Err-read.ensures))

pub returns-in-Ok-clause-quiet : goal.returns-in-Ok-clause-quiet
returns-in-Ok-clause-quiet g c = λ h.
    let is = c.in_default.ensures in
    greeting_heard g.L.Link c.args.channel.now.link c.hear.new.self.link c.args.channel.now.id c.hear.new.self.id c.hear.new.self.message c.requires.awaits.first c.requires.awaits.greeting is.ok.alive is.ok.delivers (is.keeps.stays.honest.1 h)

pub returns-in-Ok-clause-server : goal.returns-in-Ok-clause-server
returns-in-Ok-clause-server g c = λ h.
    let is = c.in_default.ensures in
    greeting_tells g.L.Link c.args.channel.now.link c.hear.new.self.link c.args.channel.now.id c.hear.new.self.id c.hear.new.self.message c.message.result.payload.now c.in-Ok.greeting c.requires.awaits.first c.requires.awaits.greeting is.ok.alive is.ok.delivers c.message.ensures.payload (sym c.in-Ok.ensures) (is.keeps.stays.honest.1 h)
