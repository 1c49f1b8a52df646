-- What a reader of a stream holds.
use Rattle.std.specs.Prelude.{ℕ, List, [], ◌∷◌, nat_lt, if◌then◌else◌}

-- the payload that was read last of a stream, and the bytes after it that are unread
pub record Unread : Type 0 where
  -- the payload that was read last, and its place: the number of stream bytes before its first packet
  pub message : List ℕ
  pub began : ℕ
  -- the bytes after it, and the number of stream bytes before them
  pub bytes : List ℕ
  pub place : ℕ
  -- the sequence id that the next packet has to have, and the most bytes that a message may have
  pub id : ℕ
  pub limit : ℕ
  -- for how many bytes of the stream memory is kept, of those that came and of those that are to come
  pub room : ℕ

-- the room that is left when memory was let go: none where no byte is unread and there is room for more than 524,288 bytes,
-- and else what there was
abbrev pub room_left : List ℕ → ℕ → ℕ
room_left [] room = if nat_lt 524288 room then 0 else room
room_left (byte ∷ bytes) room = room
