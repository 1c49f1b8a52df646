-- What reading the next message of a stream does.
use Rattle.std.specs.Prelude.{ℕ, ◌≡◌, ◌+◌, ◌*◌, Bool, true, false, length, Result, Ok, Err, Option, Some, None}
use Rattle.my_packets.specs.Begins.{IsWrong}
use Rattle.my_packets.specs.Front.{HasMessage, IsPart}
use Rattle.wire_forms.specs.Packet.{id_after, packet_count}
use Rattle.my_packets.specs.Unread.{Unread}
use Rattle.my_packets.specs.declared.frames.FrameFault.{FrameFault}
use Rattle.my_packets.specs.declared.frames.Message.{Message}

-- the next message was read: its packets are taken off the front of the bytes
pub record Passes (old new : Unread) : Type 0 where
  pub message : HasMessage old.limit old.id new.message old.bytes new.bytes
  pub began : new.began ≡ old.place
  pub place : new.place ≡ old.place + 4 * packet_count (length new.message) + length new.message
  pub id : new.id ≡ id_after (packet_count (length new.message)) old.id
  pub limit : new.limit ≡ old.limit
  pub room : new.room ≡ old.room

-- the bytes are less than a message
pub record Waits (old new : Unread) : Type 0 where
  pub more : ℕ
  pub part : IsPart old.limit old.id more old.bytes
  pub same : new ≡ old

-- a packet is wrong, and nothing changes
pub record RefusesPacket (fault : FrameFault) (old new : Unread) : Type 0 where
  pub why : IsWrong old.limit old.id old.bytes fault
  pub same : new ≡ old

-- what reading the next message does
abbrev pub Steps : Unread → Result Bool FrameFault → Unread → Type 0
Steps old (Ok true) new = Passes old new
Steps old (Ok false) new = Waits old new
Steps old (Err fault) new = RefusesPacket fault old new

-- a message as it is handed out, where a reader read it last
pub record Shows (message : Message) (unread : Unread) : Type 0 where
  pub payload : message.payload.now ≡ unread.message
  pub place : message.place ≡ unread.began
  pub next_seq : message.next_seq ≡ unread.id

-- what handing out the next message does
abbrev pub HandsOut : Unread → Result (Option Message) FrameFault → Unread → Type 0
HandsOut old (Ok (Some message)) new = Passes old new × Shows message new
HandsOut old (Ok None) new = Waits old new
HandsOut old (Err fault) new = RefusesPacket fault old new
