-- What follows from the definitions of length-encoded integers and packets.
use Rattle.std.specs.Prelude.{ℕ, ◌≡◌, ◌<◌, ◌^◌, List, ◌++◌, length, Some}
use Rattle.my_packets.specs.Front.{HasMessage, HasWrongId, IsTooLong, IsPart}
use Rattle.wire_forms.specs.Lenenc.{lenenc, lenenc_of}
use Rattle.wire_forms.specs.Packet.{packets}

-- the shortest spelling of a number, whatever follows it, is read as that number
abbrev pub LenencIsReadBack : Type 0
LenencIsReadBack =
    (n : ℕ) (rest : List ℕ) → n < 2 ^ 64 →
    lenenc_of (lenenc n ++ rest) ≡ Some (n, length (lenenc n))

-- two messages whose packets from one sequence id begin the same bytes are the same message
abbrev pub PacketsArePrefixFree : Type 0
PacketsArePrefixFree =
    (id : ℕ) (a b x y : List ℕ) → packets id a ++ x ≡ packets id b ++ y → (a ≡ b) × (x ≡ y)

-- of a whole message, a packet of another id, one past the limit, and missing bytes, no two at once; and of each, one
pub record HasOneFront (limit id : ℕ) (bytes : List ℕ) : Type 0 where
  pub message_is_right : (found wanted : ℕ) (message after : List ℕ) →
      HasMessage limit id message bytes after → ¬ HasWrongId limit id found wanted bytes
  pub message_is_short : (size : ℕ) (message after : List ℕ) →
      HasMessage limit id message bytes after → ¬ IsTooLong limit id size bytes
  pub message_is_whole : (more : ℕ) (message after : List ℕ) →
      HasMessage limit id message bytes after → ¬ IsPart limit id more bytes
  pub wrong_is_not_long : (found wanted size : ℕ) → HasWrongId limit id found wanted bytes →
      ¬ IsTooLong limit id size bytes
  pub wrong_is_whole : (found wanted more : ℕ) → HasWrongId limit id found wanted bytes →
      ¬ IsPart limit id more bytes
  pub long_is_whole : (size more : ℕ) → IsTooLong limit id size bytes → ¬ IsPart limit id more bytes
  pub one_wrong : (found other wanted also_wanted : ℕ) → HasWrongId limit id found wanted bytes →
      HasWrongId limit id other also_wanted bytes → (found ≡ other) × (wanted ≡ also_wanted)
  pub one_size : (size other : ℕ) → IsTooLong limit id size bytes → IsTooLong limit id other bytes →
      size ≡ other
  pub one_part : (more other : ℕ) → IsPart limit id more bytes → IsPart limit id other bytes →
      more ≡ other

-- what bytes begin with is one thing
abbrev pub AFrontIsOneThing : Type 0
AFrontIsOneThing = (limit id : ℕ) (bytes : List ℕ) → HasOneFront limit id bytes
