-- A message whose bytes stand together in a store of received bytes.
use Rattle.std.specs.Prelude.{ℕ, ◌≡◌, ◌+◌, ◌*◌, List, ◌++◌, length, take, drop, slice_range}
use Rattle.wire_forms.specs.Packet.{packet_count, packets}

-- the message whose packets begin at `from` stands after its first header, and what follows its packets stands where it stood
pub record Joins (from : ℕ) (message after store : List ℕ) : Type 0 where
  pub message_is : slice_range store (from + 4) (from + 4 + length message) ≡ message
  pub after_is : drop (from + length message + 4 * packet_count (length message)) store ≡ after

-- whichever message of so many bytes has its packets at `from` in the old store, it stands together in the new one
abbrev pub JoinsAt : ℕ → ℕ → List ℕ → List ℕ → Type 0
JoinsAt from size old new =
    (id : ℕ) (message after : List ℕ) → drop from old ≡ packets id message ++ after →
    size ≡ length message → Joins from message after new

-- the payload of the packets at `end` stands from there on, and what is before it and what follows its packets as it was
pub record IsClosed (end : ℕ) (message after old new : List ℕ) : Type 0 where
  pub front_is : take end new ≡ take end old
  pub message_is : slice_range new end (end + length message) ≡ message
  pub after_is : drop (end + length message + 4 * packet_count (length message)) new ≡ after

-- whichever payload of so many bytes has its packets at `end` in the old store, the gaps between its packets are closed in the new one
abbrev pub ClosesAt : ℕ → ℕ → List ℕ → List ℕ → Type 0
ClosesAt end size old new =
    (id : ℕ) (message after : List ℕ) → drop end old ≡ packets id message ++ after →
    size ≡ length message → IsClosed end message after old new
