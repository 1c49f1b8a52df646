use Rattle.std.proofs.Common.{◌≡◌, Bool, ◌∙◌, ap, subst}
use Rattle.my_session.specs.Peer.{IsPeerOf}
use Rattle.my_session.specs.Session.{SessionView, wire_of}
use Rattle.snapshot_handover.proofs.Positions.{status_asks}
use Rattle.snapshot_handover.proofs.Served.{status_served}
use Rattle.snapshot_handover.specs.Handover.{IsFrozen}
use Rattle.snapshot_handover.specs.Status.{status_query}
use Rattle.snapshot_handover.specs.StatusRead.{AsksPosition}
use Rattle.snapshot_handover.proofs.states.Frozen.position.Goals as goal

pub returns-clause-asks : goal.returns-clause-asks
returns-clause-asks g c = λ tells.
    let newer : c.newer-newer.result ≡ c.args.self.now.peer.newer = c.newer-newer.ensures.newer ∙ ap (λ (s : SessionView g.row.L.Denot). s.peer.newer) c.self.view_is in
    subst (λ (b : Bool). AsksPosition c.args.self.now.peer.ends (status_query b) (wire_of g.L.Link c.args.self.now) c.read_status.result (wire_of g.L.Link c.read_status.new.source)) newer
    (status_asks _ (status_query c.newer-newer.result) c.args.self.now c.read_status.new.source c.read_status.result c.read_status.ensures tells)

pub returns-clause-served : goal.returns-clause-served
returns-clause-served g c = λ honest.
    let newer : c.newer-newer.result ≡ c.args.self.now.peer.newer = c.newer-newer.ensures.newer ∙ ap (λ (s : SessionView g.row.L.Denot). s.peer.newer) c.self.view_is in
    let peer : IsPeerOf (g.L.Link.served c.args.self.now.link).state.terms.server c.args.self.now.peer = subst (λ (s : SessionView g.row.L.Denot). g.L.Link.honest s.link → IsPeerOf (g.L.Link.served s.link).state.terms.server s.peer) c.self.view_is c.newer-newer.ensures.server honest in
    let was : IsFrozen (g.L.Link.served c.args.self.now.link).state = subst (λ (s : SessionView g.row.L.Denot). g.L.Link.honest s.link → IsFrozen (g.L.Link.served s.link).state) c.self.view_is c.self.invariant honest in
    let sound = g.met.L.Link.sound c.args.self.now.link honest in
    status_served _ c.newer-newer.result c.args.self.now c.read_status.new.source c.read_status.result c.read_status.ensures honest (newer ∙ peer.newer) was sound.state.seen
