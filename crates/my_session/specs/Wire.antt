-- What goes over a link: payloads that are sent, and messages that are heard (MySQL source documentation, "MySQL Packets").
use Rattle.std.specs.Prelude.{ℕ, ◌≡◌, ◌<◌, ◌≤◌, ◌+◌, ◌-◌, ◌*◌, ◌^◌, List, [], ◌∷◌, ◌++◌, length, take}
use Rattle.wire_forms.specs.Packet.{packets, packet_count, id_after}
use Rattle.my_session.specs.declared.limits.TheConstants.{MESSAGE_LIMIT}

-- the messages that were sent on a link, all that is still to be heard on it, how many bytes were heard, and the sequence id of the next packet
pub record Wire : Type 0 where
  pub sent : List (List ℕ)
  pub stream : List ℕ
  pub place : ℕ
  pub id : ℕ

-- a session hears at most 2^62 bytes
abbrev pub within : Wire → List ℕ
within wire = take (2 ^ 62 - wire.place) wire.stream

-- the wire after a payload that was sent in packets from this id on
abbrev pub after_sent : ℕ → List ℕ → Wire → Wire
after_sent id payload wire = record wire {
  sent = wire.sent ++ packets id payload ∷ [];
  id = id_after (packet_count (length payload)) id;
}

-- a payload that isn't too long was sent in packets from this id on
pub record Sent (id : ℕ) (payload : List ℕ) (old new : Wire) : Type 0 where
  pub short : length payload ≤ MESSAGE_LIMIT
  pub new_is : new ≡ after_sent id payload old

-- the next message of the stream was heard
pub record Hears (message : List ℕ) (old new : Wire) : Type 0 where
  pub short : length message ≤ MESSAGE_LIMIT
  pub stream : old.stream ≡ packets old.id message ++ new.stream
  pub place : new.place ≡ old.place + 4 * packet_count (length message) + length message
  pub within : new.place ≤ 2 ^ 62
  pub id : new.id ≡ id_after (packet_count (length message)) old.id
  pub sent : new.sent ≡ old.sent

-- more bytes were heard up to the new place than up to the old, and no more than a session hears
pub record IsOnward (old new : ℕ) : Type 0 where
  pub more : old < new
  pub within : new ≤ 2 ^ 62

-- a step of a conversation: a command is sent, whose packets begin at id 0; a further payload of the same exchange is sent; a message is heard
pub data Step : Type 0 where
  commands : List ℕ → Step
  answers : List ℕ → Step
  hears : List ℕ → Step

-- the steps lead from one wire to the other
pub data Leads : List Step → Wire → Wire → Type 0 where
  ends : {wire : Wire} → Leads [] wire wire
  after_command : {payload : List ℕ} {steps : List Step} {old new : Wire} →
      length payload ≤ MESSAGE_LIMIT → Leads steps (after_sent 0 payload old) new →
      Leads (commands payload ∷ steps) old new
  after_answer : {payload : List ℕ} {steps : List Step} {old new : Wire} →
      length payload ≤ MESSAGE_LIMIT → Leads steps (after_sent old.id payload old) new →
      Leads (answers payload ∷ steps) old new
  after_message : {message : List ℕ} {steps : List Step} {old middle new : Wire} →
      Hears message old middle → Leads steps middle new → Leads (hears message ∷ steps) old new

-- steps of this kind lead from one wire to the other
pub record Takes (IsSo : List Step → Type 0) (old new : Wire) : Type 0 where
  pub steps : List Step
  pub so : IsSo steps
  pub leads : Leads steps old new
