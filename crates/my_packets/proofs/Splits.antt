-- What stands in the front of a stream, found within the bytes that were fed.
use Rattle.std.proofs.Common.{◌≡◌, ◌≢◌, ◌<◌, ◌≤◌, ℕ, ◌+◌, ◌-◌, ◌*◌, suc, List, [], ◌∷◌, ◌++◌, get_or, take, drop, length, refl, sym, ap, ◌∙◌, arith, subst, length-append, length-drop, append_assoc}
use Rattle.std.proofs.lemmas.List.{drop-drop, length-take-le}
use Rattle.my_packets.proofs.Packets.{full_more, packets_of_parts}
use Rattle.my_packets.specs.Begins.{BeginsPacket, IsWrong, IsSplit, IsPacketSplit, IsPacketPart, IsPacketOfOther, IsPacketPast}
use Rattle.my_packets.specs.Front.{HasMessage, HasFull, HasWrongId, IsTooLong, IsPart}
use Rattle.my_packets.specs.declared.frames.FrameFault.{FrameFault}
use Rattle.my_packets.specs.declared.frames.FrameFault.TheVariants.{BadSequence, TooLong}
use Rattle.my_packets.specs.declared.frames.Front.TheVariants.{Wrong}
use Rattle.wire_forms.specs.Packet.{packet, next_id, id_after, full_packets, missing, HasHeader}

pub packet_of_other : (bytes : List ℕ) (id : ℕ) → 4 ≤ length bytes → get_or bytes 3 0 ≢ id → IsPacketOfOther id (get_or bytes 3 0) id bytes
packet_of_other [] id long other = absurd (omega arith)
packet_of_other (low ∷ []) id long other = absurd (omega arith)
packet_of_other (low ∷ middle ∷ []) id long other = absurd (omega arith)
packet_of_other (low ∷ middle ∷ high ∷ []) id long other = absurd (omega arith)
packet_of_other (low ∷ middle ∷ high ∷ found ∷ rest) id long other =
    record { size = _; header = record { low = low; middle = middle; high = high; rest = rest; bytes_are = refl; size_is = refl }; wanted_is = refl; other = other }

-- after full packets comes another one
pub add_full : (limit id count : ℕ) (payload bytes after piece rest : List ℕ) → HasFull limit id count payload bytes after → after ≡ packet (id_after count id) piece ++ rest → length piece ≡ 16777215 → length payload + 16777215 ≤ limit → HasFull limit id (suc count) (payload ++ piece) bytes rest
add_full limit id count payload bytes after piece rest full after_is size fits =
    let all : length (payload ++ piece) ≡ length payload + length piece = length-append payload piece in
    let before : length payload ≡ 16777215 * count = full.size_is in
    let joined : (full_packets count id payload ++ packet (id_after count id) piece) ++ rest ≡ full_packets count id payload ++ (packet (id_after count id) piece ++ rest) = append_assoc (full_packets count id payload) (packet (id_after count id) piece) rest in
    record {
      size_is = omega arith;
      short = omega arith;
      bytes_are = full.bytes_are ∙ ap (λ (l : List ℕ). full_packets count id payload ++ l) after_is ∙ sym joined ∙ ap (λ (l : List ℕ). l ++ rest) (sym (full_more count id payload piece before size));
    }

-- after full packets comes the last
pub add_last : (limit id count : ℕ) (payload bytes after piece rest : List ℕ) → HasFull limit id count payload bytes after → after ≡ packet (id_after count id) piece ++ rest → length piece < 16777215 → length payload + length piece ≤ limit → HasMessage limit id (payload ++ piece) bytes rest
add_last limit id count payload bytes after piece rest full after_is short fits =
    let all : length (payload ++ piece) ≡ length payload + length piece = length-append payload piece in
    let before : length payload ≡ 16777215 * count = full.size_is in
    let joined : (full_packets count id payload ++ packet (id_after count id) piece) ++ rest ≡ full_packets count id payload ++ (packet (id_after count id) piece ++ rest) = append_assoc (full_packets count id payload) (packet (id_after count id) piece) rest in
    record {
      short = omega arith;
      bytes_are = full.bytes_are ∙ ap (λ (l : List ℕ). full_packets count id payload ++ l) after_is ∙ sym joined ∙ ap (λ (l : List ℕ). l ++ rest) (sym (packets_of_parts count id payload piece before short));
    }

-- full packets were passed: so many payload bytes are before what follows, where this id comes next
pub record Passed (limit first before id : ℕ) (bytes rest : List ℕ) : Type 0 where
  pub count : ℕ
  pub payload : List ℕ
  pub full : HasFull limit first count payload bytes rest
  pub within : before ≤ limit
  pub before_is : before ≡ length payload
  pub id_is : id ≡ id_after count first

pub passed_none : (limit first : ℕ) (bytes : List ℕ) → first < 256 → Passed limit first 0 first bytes bytes
passed_none limit first bytes byte = record {
  count = 0;
  payload = [];
  full = record { size_is = refl; short = omega arith; bytes_are = refl };
  within = omega arith;
  before_is = refl;
  id_is = omega arith;
}

module _ (limit first before id room : ℕ) (bytes rest : List ℕ) (passed : Passed limit first before id bytes rest) (room_is : room ≡ limit - before) where
  full_is : HasFull limit first passed.count passed.payload bytes rest
  full_is = passed.full

  pub passed_whole : (size total : ℕ) → IsPacketSplit room id size rest → size < 16777215 → total ≡ before + size → IsSplit limit first total bytes
  passed_whole size total split short total_is =
      let payload = passed.payload in
      let piece = take size (drop 4 rest) in
      let one : length piece ≡ size = length-take-le size (drop 4 rest) split.there in
      let all : length (payload ++ piece) ≡ length payload + length piece = length-append payload piece in
      let fits = split.fits in
      let within = passed.within in
      let before_is = passed.before_is in
      record {
        message = payload ++ piece;
        after = drop size (drop 4 rest);
        message_is = add_last limit first passed.count payload bytes rest piece (drop size (drop 4 rest)) passed.full (split.parts ∙ ap (λ (n : ℕ). packet n piece ++ drop size (drop 4 rest)) passed.id_is) (omega arith) (omega arith);
        size_is = omega arith;
      }

  pub passed_full : (size : ℕ) (next : List ℕ) → IsPacketSplit room id size rest → 16777215 ≤ size → next ≡ drop 16777219 rest → Passed limit first (before + 16777215) (next_id id) bytes next
  passed_full size next split long next_is =
      let payload = passed.payload in
      let fits = split.fits in
      let small = split.small in
      let within = passed.within in
      let before_is = passed.before_is in
      let id_is = passed.id_is in
      let same : size ≡ 16777215 = omega arith in
      let piece = take size (drop 4 rest) in
      let one : length piece ≡ size = length-take-le size (drop 4 rest) split.there in
      let all : length (payload ++ piece) ≡ length payload + length piece = length-append payload piece in
      let after : drop size (drop 4 rest) ≡ next = ap (λ (n : ℕ). drop n (drop 4 rest)) same ∙ drop-drop 16777215 4 rest ∙ sym next_is in
      record {
        count = suc passed.count;
        payload = payload ++ piece;
        full = add_full limit first passed.count payload bytes rest piece next passed.full (split.parts ∙ ap (λ (n : ℕ). packet n piece ++ drop size (drop 4 rest)) id_is ∙ ap (λ (l : List ℕ). packet (id_after passed.count first) piece ++ l) after) (omega arith) (omega arith);
        within = omega arith;
        before_is = omega arith;
        id_is = omega arith;
      }

  pub packet_within : (size : ℕ) → IsPacketSplit room id size rest → 16777215 ≤ size → 16777219 ≤ length rest
  packet_within size split long =
      let there = split.there in
      let left : length (drop 4 rest) ≡ length rest - 4 = length-drop 4 rest in
      omega arith

  pub passed_part : (more : ℕ) → IsPacketPart room id more rest → IsPart limit first more bytes
  passed_part more part = record {
    count = passed.count;
    payload = passed.payload;
    after = rest;
    full = passed.full;
    missing_is = part.missing_is ∙ ap (λ (n : ℕ). missing n id rest) (room_is ∙ ap (λ (n : ℕ). limit - n) passed.before_is) ∙ ap (λ (n : ℕ). missing (limit - length passed.payload) n rest) passed.id_is;
    some = part.some;
  }

  pub passed_other : (found wanted : ℕ) → IsPacketOfOther id found wanted rest → HasWrongId limit first found wanted bytes
  passed_other found wanted other = record {
    count = passed.count;
    size = other.size;
    payload = passed.payload;
    after = rest;
    full = passed.full;
    header = other.header;
    wanted_is = other.wanted_is ∙ passed.id_is;
    other = λ e. other.other (e ∙ other.wanted_is);
  }

  pub passed_past : (size total : ℕ) → IsPacketPast room id size rest → total ≡ before + size → IsTooLong limit first total bytes
  passed_past size total past total_is =
      let more = past.more in
      let within = passed.within in
      let before_is = passed.before_is in
      record {
        count = passed.count;
        last = size;
        payload = passed.payload;
        after = rest;
        full = passed.full;
        header = subst (λ (n : ℕ). HasHeader size n rest) passed.id_is past.header;
        size_is = omega arith;
        more = omega arith;
      }

-- the first packet is wrong
pub first_wrong : (limit id : ℕ) (bytes : List ℕ) (fault : FrameFault) → id < 256 → BeginsPacket limit id bytes (Wrong fault) → IsWrong limit id bytes fault
first_wrong limit id bytes (BadSequence found wanted) byte other =
    let room : limit ≡ limit - 0 = omega arith in
    passed_other limit id 0 id limit bytes bytes (passed_none limit id bytes byte) room found wanted other
first_wrong limit id bytes (TooLong size) byte past =
    let room : limit ≡ limit - 0 = omega arith in
    passed_past limit id 0 id limit bytes bytes (passed_none limit id bytes byte) room size size past (omega arith)
