-- What of a stream is within the limit of a session, and what stands in its front.
use Rattle.std.proofs.Common.{◌≡◌, ◌≤◌, ◌+◌, ◌-◌, ◌^◌, ℕ, List, ◌++◌, length, take, sym, ◌∙◌, ap, subst, arith, append_assoc}
use Rattle.std.proofs.Math.Seq.{take-append-add}
use Rattle.std.proofs.lemmas.List.{append-nil}
use Rattle.my_packets.proofs.Packets.{packets_length}
use Rattle.my_packets.specs.Begins.{IsWrong}
use Rattle.my_packets.specs.Front.{HasFull, HasMessage}
use Rattle.wire_forms.specs.Packet.{packets, full_packets, HasHeader}
use Rattle.my_packets.specs.declared.frames.FrameFault.{FrameFault}
use Rattle.my_packets.specs.declared.frames.FrameFault.TheVariants.{BadSequence, TooLong}
use Rattle.my_session.specs.Wire.{Wire, Hears, within}

-- the first bytes of a list, and some of those after them
pub take_after : (n : ℕ) (xs ys : List ℕ) → length xs ≤ n → take n (xs ++ ys) ≡ xs ++ take (n - length xs) ys
take_after n xs ys fits = let e : n ≡ length xs + (n - length xs) = omega arith in ap (λ (k : ℕ). take k (xs ++ ys)) e ∙ take-append-add xs ys (n - length xs)

-- a message that was heard is in the front of what is within the limit
pub heard_within : (message : List ℕ) (old new : Wire) → Hears message old new → HasMessage 67108864 old.id message (within old) (take (2 ^ 62 - old.place - length (packets old.id message)) new.stream)
heard_within message old new heard =
    let size = packets_length old.id message in
    let place = heard.place in
    let inside = heard.within in
    record {
      short = heard.short;
      bytes_are = ap (λ (l : List ℕ). take (2 ^ 62 - old.place) l) heard.stream ∙ take_after (2 ^ 62 - old.place) (packets old.id message) new.stream (omega arith);
    }

-- what is wrong stays wrong, whatever comes after it
full_after : (limit id count : ℕ) (payload bytes after more : List ℕ) → HasFull limit id count payload bytes after → HasFull limit id count payload (bytes ++ more) (after ++ more)
full_after limit id count payload bytes after more full = record {
  size_is = full.size_is;
  short = full.short;
  bytes_are = ap (λ (l : List ℕ). l ++ more) full.bytes_are ∙ append_assoc (full_packets count id payload) after more;
}

header_after : (size id : ℕ) (bytes more : List ℕ) → HasHeader size id bytes → HasHeader size id (bytes ++ more)
header_after size id bytes more header = record {
  low = header.low;
  middle = header.middle;
  high = header.high;
  rest = header.rest ++ more;
  bytes_are = ap (λ (l : List ℕ). l ++ more) header.bytes_are;
  size_is = header.size_is;
}

pub wrong_after : (limit id : ℕ) (bytes more : List ℕ) (fault : FrameFault) → IsWrong limit id bytes fault → IsWrong limit id (bytes ++ more) fault
wrong_after limit id bytes more (BadSequence found wanted) wrong = record {
  count = wrong.count;
  size = wrong.size;
  payload = wrong.payload;
  after = wrong.after ++ more;
  full = full_after limit id wrong.count wrong.payload bytes wrong.after more wrong.full;
  header = header_after wrong.size found wrong.after more wrong.header;
  wanted_is = wrong.wanted_is;
  other = wrong.other;
}
wrong_after limit id bytes more (TooLong size) long = record {
  count = long.count;
  last = long.last;
  payload = long.payload;
  after = long.after ++ more;
  full = full_after limit id long.count long.payload bytes long.after more long.full;
  header = header_after long.last _ long.after more long.header;
  size_is = long.size_is;
  more = long.more;
}

-- what is wrong with bytes that were heard is wrong with all that is within the limit
pub wrong_within : (id n : ℕ) (bytes rest stream : List ℕ) (fault : FrameFault) → length bytes ≤ n → bytes ++ rest ≡ stream → IsWrong 67108864 id bytes fault → IsWrong 67108864 id (take n stream) fault
wrong_within id n bytes rest stream fault fits same wrong =
    subst (λ (l : List ℕ). IsWrong 67108864 id (take n l) fault) same (
    subst (λ (l : List ℕ). IsWrong 67108864 id l fault) (sym (take_after n bytes rest fits)) (
    wrong_after 67108864 id bytes (take (n - length bytes) rest) fault wrong))

-- as many bytes as are within the limit are all of them
pub full_within : (n : ℕ) (bytes rest stream : List ℕ) → length bytes ≡ n → bytes ++ rest ≡ stream → bytes ≡ take n stream
full_within n bytes rest stream size same =
    let none : n - length bytes ≡ 0 = omega arith in
    sym (ap (λ (l : List ℕ). take n l) (sym same) ∙ take_after n bytes rest (omega arith) ∙ ap (λ (k : ℕ). bytes ++ take k rest) none ∙ append-nil bytes)
