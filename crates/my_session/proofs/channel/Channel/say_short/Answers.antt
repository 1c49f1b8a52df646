use Rattle.std.proofs.Common.{arith, refl, sym, ◌∙◌}
use Rattle.my_session.specs.Fault.{session_result}
use Rattle.my_session.proofs.Sending.{may_send_payload, short_is_sent, short_says, says_none, takes_none}
use Rattle.my_session.proofs.channel.Channel.say_short.Goals as goal

pub send_packets-requires-clause-may : goal.send_packets-requires-clause-may
send_packets-requires-clause-may g c =
    let byte = c.ranges.id in
    may_send_payload g.L.Link (g.S.Sender.holder c.args.sender.now) c.args.self.now.link c.args.id c.args.payload.now _ (c.spell_packet.ensures ∙ sym (short_is_sent c.args.id c.args.payload.now (omega arith) c.requires.short)) c.requires.may

pub returns-clause-ok : goal.returns-clause-ok
returns-clause-ok g c =
    let byte = c.ranges.id in
    let is = c.send_packets.ensures in
    short_says g.L.Link (g.S.Sender.holder c.args.sender.now) c.args.self.now c.send_packets.new.self c.args.id _ c.args.payload.now _ c.send_packets.result (omega arith) c.requires.short c.spell_packet.ensures refl is.place is.id is.ok

pub returns-clause-memory : goal.returns-clause-memory
returns-clause-memory g c = takes_none g.L.Link _ c.args.self.now.link c.send_packets.new.self.link c.send_packets.result c.send_packets.ensures.err

pub returns-clause-err : goal.returns-clause-err
returns-clause-err g c =
    let byte = c.ranges.id in
    says_none g.L.Link (g.S.Sender.holder c.args.sender.now) c.args.self.now c.send_packets.new.self c.args.id c.args.payload.now _ (c.spell_packet.ensures ∙ sym (short_is_sent c.args.id c.args.payload.now (omega arith) c.requires.short)) (session_result c.send_packets.result) c.send_packets.ensures.err
