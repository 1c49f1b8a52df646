use Rattle.std.proofs.Common.{◌∙◌, ap, sym}
use Rattle.std.proofs.lemmas.Bool.{false≢true}
use Rattle.my_session.specs.Channel.{ChannelView}
use Rattle.my_session.proofs.Quits.{closes_served}
use Rattle.my_session.proofs.Sending.{may_quit}
use Rattle.my_session.proofs.session.Session.close.Goals as goal
use Rattle.my_session.proofs.session.Session.close.Goals.{then-not-has_failed, else-not-has_failed}

pub send_packets-requires-clause-may : goal.send_packets-requires-clause-may
send_packets-requires-clause-may g c = record {
  may = λ h. may_quit _ (c.self.invariant.3.is_open h c.if-not-has_failed.true).phase;
  beside = λ h. tt;
}

pub returns-clause-served : goal.returns-clause-served
returns-clause-served g c = rw (← c.self.view_is) (λ h alive.
    elim c.if-not-has_failed.branch [
      | then-not-has_failed w ↦
          let is_open = c.self.invariant.3.is_open h alive in
          let is = w.send_packets.ensures in
          rw (c.into_link.ensures ∙ ap (λ (v : ChannelView _). v.link) w.channel-is)
          (closes_served g.L.Link c.self.inside.channel.link w.send_packets.new.self.link w.send_packets.result h is_open.alive is_open.phase is.ok is.err)
      | else-not-has_failed w ↦ absurd (false≢true (sym alive ∙ w.if-not-has_failed.false))
    ])
