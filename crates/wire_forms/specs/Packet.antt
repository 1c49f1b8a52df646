-- Packets, and the packets of a message (MySQL source documentation, "MySQL Packets").
use Rattle.std.specs.Prelude.{ℕ, ◌≡◌, ◌+◌, ◌-◌, ◌*◌, ◌/◌, ◌%◌, ◌==◌, ◌&&◌, nat_le, if◌then◌else◌, zero, suc, List, [], ◌∷◌, ◌++◌, length, take, drop}

-- a packet's header: the payload's length in three bytes, the least significant first, and the sequence id
abbrev pub packet_header : ℕ → ℕ → List ℕ
packet_header size id = size % 256 ∷ size / 256 % 256 ∷ size / 65536 ∷ id ∷ []

-- a packet: its header and the payload
abbrev pub packet : ℕ → List ℕ → List ℕ
packet id payload = packet_header (length payload) id ++ payload

-- sequence ids count modulo 256
abbrev pub next_id : ℕ → ℕ
next_id id = (id + 1) % 256

-- the id after so many packets
abbrev pub id_after : ℕ → ℕ → ℕ
id_after count id = (id + count) % 256

-- a packet has at most so many payload bytes; with so many it is full, and the message goes on in the next packet
abbrev pub full_size : ℕ
full_size = 16777215

-- so many full packets from this id on
abbrev pub full_packets : ℕ → ℕ → List ℕ → List ℕ
full_packets zero id payload = []
full_packets (suc more) id payload =
    packet (id % 256) (take full_size payload)
    ++ full_packets more (next_id id) (drop full_size payload)

-- how many full packets a message of so many bytes has in front of its last
abbrev pub full_count : ℕ → ℕ
full_count size = size / full_size

-- the last packet of a message, which is shorter than a full one and perhaps empty
abbrev pub last_packet : ℕ → ℕ → List ℕ → List ℕ
last_packet count id message = packet (id_after count id) (drop (full_size * count) message)

-- the packets of a message from this id on: full ones as far as its bytes go, and the last
unfoldable pub packets : ℕ → List ℕ → List ℕ
packets id message =
    full_packets (full_count (length message)) id message
    ++ last_packet (full_count (length message)) id message

-- how many packets a message of so many bytes has
abbrev pub packet_count : ℕ → ℕ
packet_count size = full_count size + 1

-- the length that a header announces
abbrev pub announced_length : ℕ → ℕ → ℕ → ℕ
announced_length low middle high = low + 256 * middle + 65536 * high

-- the bytes begin with a header of this length and sequence id
pub record HasHeader (size id : ℕ) (bytes : List ℕ) : Type 0 where
  pub low : ℕ
  pub middle : ℕ
  pub high : ℕ
  pub rest : List ℕ
  pub bytes_are : bytes ≡ low ∷ middle ∷ high ∷ id ∷ rest
  pub size_is : size ≡ announced_length low middle high

-- how many bytes are missing of the header, or of the right packet, that the bytes begin; 0 where none are
abbrev pub missing : ℕ → ℕ → List ℕ → ℕ
missing limit id (low ∷ middle ∷ high ∷ found ∷ payload) =
    if found == id && nat_le (announced_length low middle high) limit
    then announced_length low middle high - length payload else 0
missing limit id bytes = 4 - length bytes
