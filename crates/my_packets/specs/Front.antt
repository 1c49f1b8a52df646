-- What the bytes of a stream begin with, where the next message begins with this sequence id.
use Rattle.std.specs.Prelude.{ℕ, ◌≡◌, ◌≢◌, ◌<◌, ◌≤◌, ◌+◌, ◌-◌, ◌*◌, ◌⊎◌, List, ◌++◌, length}
use Rattle.wire_forms.specs.Packet.{packets, full_packets, full_size, id_after, HasHeader, missing}

-- the bytes begin with a whole message within the limit, and these are after it
pub record HasMessage (limit id : ℕ) (message bytes after : List ℕ) : Type 0 where
  pub short : length message ≤ limit
  pub bytes_are : bytes ≡ packets id message ++ after

-- the bytes begin with so many full packets of a message, within the limit, and these are after them
pub record HasFull (limit id count : ℕ) (payload bytes after : List ℕ) : Type 0 where
  pub size_is : length payload ≡ full_size * count
  pub short : length payload ≤ limit
  pub bytes_are : bytes ≡ full_packets count id payload ++ after

-- the first packet that is wrong has another sequence id than it should have
pub record HasWrongId (limit id found wanted : ℕ) (bytes : List ℕ) : Type 0 where
  pub count : ℕ
  pub size : ℕ
  pub payload : List ℕ
  pub after : List ℕ
  pub full : HasFull limit id count payload bytes after
  pub header : HasHeader size found after
  pub wanted_is : wanted ≡ id_after count id
  pub other : found ≢ wanted

-- the first packet that is wrong has the right sequence id, and with it so many bytes are announced, more than the limit
pub record IsTooLong (limit id size : ℕ) (bytes : List ℕ) : Type 0 where
  pub count : ℕ
  pub last : ℕ
  pub payload : List ℕ
  pub after : List ℕ
  pub full : HasFull limit id count payload bytes after
  pub header : HasHeader last (id_after count id) after
  pub size_is : size ≡ length payload + last
  pub more : limit < size

-- the bytes are less than a message: so many are missing of the header or the packet that is being read
pub record IsPart (limit id more : ℕ) (bytes : List ℕ) : Type 0 where
  pub count : ℕ
  pub payload : List ℕ
  pub after : List ℕ
  pub full : HasFull limit id count payload bytes after
  pub missing_is : more ≡ missing (limit - length payload) (id_after count id) after
  pub some : 0 < more

-- a message is whole or wrong
abbrev pub IsDecided : ℕ → ℕ → List ℕ → Type 0
IsDecided limit id bytes =
    ((message : List ℕ) × (after : List ℕ) × HasMessage limit id message bytes after)
    ⊎ (((found : ℕ) × (wanted : ℕ) × HasWrongId limit id found wanted bytes)
    ⊎ ((size : ℕ) × IsTooLong limit id size bytes))

-- how many bytes are wanted: 0 where a message is whole or wrong, else those that are missing
pub record Wants (limit id : ℕ) (bytes : List ℕ) (more : ℕ) : Type 0 where
  pub settled : more ≡ 0 → IsDecided limit id bytes
  pub part : 0 < more → IsPart limit id more bytes
