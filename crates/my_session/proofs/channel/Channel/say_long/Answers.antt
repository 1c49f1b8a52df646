use Rattle.std.proofs.Common.{◌≡◌, List, ℕ, [], ◌++◌, ◌∙◌, ap, refl}
use Rattle.wire_forms.specs.Packet.{packets}
use Rattle.my_session.proofs.Sending.{may_send_payload, says}
use Rattle.my_session.proofs.channel.Channel.say_long.Goals as goal

framed : (id : ℕ) (payload bytes items before : List ℕ) → bytes ≡ items → items ≡ before ++ packets id payload → before ≡ [] → bytes ≡ packets id payload
framed id payload bytes items before is items_are none = is ∙ items_are ∙ ap (λ (l : List ℕ). l ++ packets id payload) none

pub send-requires : goal.send-requires
send-requires g c = record {
  may =
      let may = rw (← c.self.view_is) at c.requires.may in
      may_send_payload g.L.Link (g.S.Sender.holder c.args.sender.now) _ c.args.id c.args.payload.now c.deref.result.now (framed c.args.id c.args.payload.now c.deref.result.now _ _ c.deref.ensures.value c.in-Ok.ensures.ok c.clear.ensures.items) may;
}

pub returns-in-Ok-send-clause-ok : goal.returns-in-Ok-send-clause-ok
returns-in-Ok-send-clause-ok g c =
    let is = c.in-Ok-send.ensures in
    rw (← c.self.view_is)
    (says g.L.Link (g.S.Sender.holder c.args.sender.now) _ _ c.args.id c.in-Ok.next_id c.args.payload.now c.deref.result.now c.requires.within
    (framed c.args.id c.args.payload.now c.deref.result.now _ _ c.deref.ensures.value c.in-Ok.ensures.ok c.clear.ensures.items)
    refl c.in-Ok.ensures.next is.ok)
