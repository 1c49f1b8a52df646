-- What a session follows of its server.
use Rattle.std.specs.Prelude.{◌≡◌}
use Rattle.honest_server.specs.State.{Server}
use Rattle.wire_forms.specs.declared.greeting.Greeting.{Greeting}
use Rattle.my_session.specs.declared.peer.Peer.{Peer}

-- what a greeting says of its server
abbrev pub peer_of : Greeting → Peer
peer_of found = record { ends = found.ends; newer = found.newer }

-- the server is what was said of it
pub record IsPeerOf (server : Server) (peer : Peer) : Type 0 where
  pub ends : peer.ends ≡ server.ends
  pub newer : peer.newer ≡ server.newer
