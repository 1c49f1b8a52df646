-- Why a session stops at a message that it awaits, or at a payload that it is to send.
use Rattle.std.specs.Prelude.{ℕ, ◌≡◌, ◌<◌, ◌+◌, ◌^◌, ◌⊎◌, List, length, Some}
use Rattle.my_packets.specs.Front.{HasWrongId, IsTooLong, IsPart}
use Rattle.my_session.specs.Awaited.{Awaited, fault_at}
use Rattle.my_session.specs.Wire.{Wire, Step, Leads, Hears, within}
use Rattle.my_session.specs.declared.fault.SessionFault.{SessionFault}
use Rattle.my_session.specs.declared.fault.SessionFault.TheVariants.{Link, Refused, Garbled, NotProtocol10, PluginUnsupported, TooLong, StreamTooLong, OutOfMemory}
use Rattle.my_session.specs.declared.limits.TheConstants.{MESSAGE_LIMIT}

-- nothing was sent
abbrev pub Silent : Wire → Wire → Type 0
Silent old new = new.sent ≡ old.sent

-- a message was heard to which the session answers this
pub record Answered (awaited : Awaited) (fault : SessionFault) (old new : Wire) : Type 0 where
  pub message : List ℕ
  pub heard : Hears message old new
  pub fault_is : fault_at awaited old.place message ≡ Some fault

-- a packet of the next message has another sequence id than it should have
pub record OutOfOrder (wire : Wire) : Type 0 where
  pub found : ℕ
  pub wanted : ℕ
  pub wrong : HasWrongId MESSAGE_LIMIT wire.id found wanted (within wire)

-- 2^62 bytes were heard before the next message ended
pub record IsFull (wire : Wire) : Type 0 where
  pub more : ℕ
  pub part : IsPart MESSAGE_LIMIT wire.id more (within wire)
  pub full : wire.place + length (within wire) ≡ 2 ^ 62

-- the next message breaks the sequence, and began at this place
pub record BreaksOrder (place : ℕ) (old new : Wire) : Type 0 where
  pub place_is : place ≡ old.place
  pub order : OutOfOrder old
  pub silent : Silent old new

-- why no message came that can be taken for one
abbrev pub Misheard : Wire → SessionFault → Wire → Type 0
Misheard old Link new = Silent old new
Misheard old (Refused form refusal) new = ⊥
Misheard old (Garbled place) new = BreaksOrder place old new
Misheard old (NotProtocol10 version) new = ⊥
Misheard old (PluginUnsupported name) new = ⊥
Misheard old (TooLong size) new = IsTooLong MESSAGE_LIMIT old.id size (within old) × Silent old new
Misheard old StreamTooLong new = IsFull old × Silent old new
Misheard old OutOfMemory new = Silent old new

-- why a session doesn't go on at a message that it awaits
abbrev pub Halts : Awaited → Wire → SessionFault → Wire → Type 0
Halts awaited old fault new = Answered awaited fault old new ⊎ Misheard old fault new

-- why a payload wasn't sent
abbrev pub Unsaid : List ℕ → Wire → SessionFault → Wire → Type 0
Unsaid payload old Link new = Silent old new
Unsaid payload old (Refused form refusal) new = ⊥
Unsaid payload old (Garbled place) new = ⊥
Unsaid payload old (NotProtocol10 version) new = ⊥
Unsaid payload old (PluginUnsupported name) new = ⊥
Unsaid payload old (TooLong size) new =
    (size ≡ length payload) × (MESSAGE_LIMIT < size) × Silent old new
Unsaid payload old StreamTooLong new = ⊥
Unsaid payload old OutOfMemory new = Silent old new

-- a conversation stopped after some of its steps, where the first relation says after which steps it awaits what, and the
-- second after which it sends what
pub data Stops (Awaits : List Step → Awaited → Type 0) (Sends : List Step → List ℕ → Type 0)
    (old : Wire) (fault : SessionFault) (new : Wire) : Type 0 where
  at_message : {steps : List Step} {awaited : Awaited} {middle : Wire} → Awaits steps awaited →
      Leads steps old middle → Halts awaited middle fault new → Stops Awaits Sends old fault new
  at_payload : {steps : List Step} {payload : List ℕ} {middle : Wire} → Sends steps payload →
      Leads steps old middle → Unsaid payload middle fault new → Stops Awaits Sends old fault new
