use Rattle.honest_server.specs.Moves.{plainly}
use Rattle.my_session.proofs.Links.{send_stays}
use Rattle.my_session.proofs.Staying.{keeps_ok, keeps_err}
use Rattle.my_session.proofs.sender.PlainlySender.send.Goals as goal

pub returns-in-Ok-clause-keeps : goal.returns-in-Ok-clause-keeps
returns-in-Ok-clause-keeps g c =
    let is = c.send.ensures in
    keeps_ok g.L.Link _ c.args.link.now c.send.new.self (send_stays g.L.Link c.args.link.now c.send.new.self _ _ c.args.packets.now plainly c.send.result is.stays is.served) is.stays.still_tells is.cause.later

pub returns-in-Err-clause-keeps : goal.returns-in-Err-clause-keeps
returns-in-Err-clause-keeps g c =
    let is = c.send.ensures in
    keeps_err g.L.Link _ c.args.link.now c.send.new.self (send_stays g.L.Link c.args.link.now c.send.new.self _ _ c.args.packets.now plainly c.send.result is.stays is.served) is.stays.still_tells is.cause.later (λ same. c.in-Err.ensures.cause.failed)
