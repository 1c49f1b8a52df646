use Rattle.honest_server.specs.Moves.{beside}
use Rattle.my_session.proofs.Links.{send_stays}
use Rattle.my_session.proofs.Staying.{keeps_ok, keeps_err}
use Rattle.my_session.proofs.channel.ChannelSender.send.Goals as goal

pub returns-in-Ok-clause-keeps : goal.returns-in-Ok-clause-keeps
returns-in-Ok-clause-keeps g c =
    let is = c.send_beside.ensures in
    keeps_ok g.L.Link _ c.args.link.now c.send_beside.new.self (send_stays g.L.Link c.args.link.now c.send_beside.new.self _ _ c.args.packets.now (beside (g.L.Link.served c.self.inside.link).state) c.send_beside.result is.stays (λ h. (is.served h).sends)) is.stays.still_tells is.cause.later

pub returns-in-Err-clause-keeps : goal.returns-in-Err-clause-keeps
returns-in-Err-clause-keeps g c =
    let is = c.send_beside.ensures in
    keeps_err g.L.Link _ c.args.link.now c.send_beside.new.self (send_stays g.L.Link c.args.link.now c.send_beside.new.self _ _ c.args.packets.now (beside (g.L.Link.served c.self.inside.link).state) c.send_beside.result is.stays (λ h. (is.served h).sends)) is.stays.still_tells is.cause.later (λ same. c.in-Err.ensures.cause.failed)
