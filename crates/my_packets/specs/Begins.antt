-- What a reader finds at the front of a stream.
use Rattle.std.specs.Prelude.{ℕ, ◌≡◌, ◌≢◌, ◌<◌, ◌≤◌, List, ◌++◌, length, take, drop}
use Rattle.my_packets.specs.Front.{HasMessage, HasWrongId, IsTooLong, IsPart}
use Rattle.wire_forms.specs.Packet.{packet, full_size, HasHeader, missing}
use Rattle.my_packets.specs.declared.frames.FrameFault.{FrameFault}
use Rattle.my_packets.specs.declared.frames.FrameFault.TheVariants.{BadSequence, TooLong}
use Rattle.my_packets.specs.declared.frames.Front.{Front}
use Rattle.my_packets.specs.declared.frames.Front.TheVariants.{Whole, Part, Wrong}

-- the bytes begin with a whole message of so many bytes, without its headers
pub record IsSplit (limit id size : ℕ) (bytes : List ℕ) : Type 0 where
  pub message : List ℕ
  pub after : List ℕ
  pub message_is : HasMessage limit id message bytes after
  pub size_is : size ≡ length message

-- why the bytes hold no further message
abbrev pub IsWrong : ℕ → ℕ → List ℕ → FrameFault → Type 0
IsWrong limit id bytes (BadSequence found wanted) = HasWrongId limit id found wanted bytes
IsWrong limit id bytes (TooLong size) = IsTooLong limit id size bytes

-- what the bytes begin with
abbrev pub HasFront : ℕ → ℕ → List ℕ → Front → Type 0
HasFront limit id bytes (Whole size) = IsSplit limit id size bytes
HasFront limit id bytes (Part more) = IsPart limit id more bytes
HasFront limit id bytes (Wrong fault) = IsWrong limit id bytes fault

-- the bytes begin with a whole packet of so many payload bytes, at most so many as there is room for
pub record IsPacketSplit (room id size : ℕ) (bytes : List ℕ) : Type 0 where
  pub fits : size ≤ room
  pub small : size ≤ full_size
  pub there : size ≤ length (drop 4 bytes)
  pub parts : bytes ≡ packet id (take size (drop 4 bytes)) ++ drop size (drop 4 bytes)

-- bytes of the packet or its header are missing
pub record IsPacketPart (room id more : ℕ) (bytes : List ℕ) : Type 0 where
  pub missing_is : more ≡ missing room id bytes
  pub some : 0 < more

-- the packet has another id
pub record IsPacketOfOther (id found wanted : ℕ) (bytes : List ℕ) : Type 0 where
  pub size : ℕ
  pub header : HasHeader size found bytes
  pub wanted_is : wanted ≡ id
  pub other : found ≢ id

-- the packet is announced with more bytes than there is room for
pub record IsPacketPast (room id size : ℕ) (bytes : List ℕ) : Type 0 where
  pub header : HasHeader size id bytes
  pub small : size ≤ full_size
  pub more : room < size

-- what the packet in front is, where its message has room for so many bytes more
abbrev pub BeginsPacket : ℕ → ℕ → List ℕ → Front → Type 0
BeginsPacket room id bytes (Whole size) = IsPacketSplit room id size bytes
BeginsPacket room id bytes (Part more) = IsPacketPart room id more bytes
BeginsPacket room id bytes (Wrong (BadSequence found wanted)) =
    IsPacketOfOther id found wanted bytes
BeginsPacket room id bytes (Wrong (TooLong size)) = IsPacketPast room id size bytes
