-- Why a message that waits on an honest server's link isn't heard.
use Rattle.std.proofs.Common.{◌≡◌, ◌≤◌, ◌<◌, ◌+◌, ◌*◌, ℕ, max, List, [], ◌∷◌, ◌++◌, length, drop, refl, ◌∙◌, ap, arith}
use Rattle.my_packets.proofs.Fronts.{one_front}
use Rattle.my_packets.proofs.Packets.{packets_length}
use Rattle.my_packets.specs.Begins.{IsWrong}
use Rattle.my_packets.specs.Front.{HasWrongId, IsPart, IsTooLong}
use Rattle.my_packets.specs.declared.frames.FrameFault.TheVariants.{BadSequence, TooLong as FrameTooLong}
use Rattle.wire_forms.specs.Packet.{packets, packet_count}
use Rattle.my_session.proofs.Payloads.{part_is_not_all}
use Rattle.my_session.proofs.Within.{wrong_after}

-- the longer of two lists has the shorter in its front
front_of : (xs rest ys more : List ℕ) → xs ++ rest ≡ ys ++ more → length ys ≤ length xs → xs ≡ ys ++ drop (length ys) xs
front_of xs rest [] more same fits = refl
front_of [] rest (y ∷ ys) more same fits = absurd (omega arith)
front_of (x ∷ xs) rest (y ∷ ys) more same fits =
    let first : x ≡ y = cc in
    let others : xs ++ rest ≡ ys ++ more = cc in
    ap (λ (n : ℕ). n ∷ xs) first ∙ ap (λ (l : List ℕ). y ∷ l) (front_of xs rest ys more others (omega arith))

-- a wrong id is wrong under a higher limit too
wrong_wider : (limit wide id found wanted : ℕ) (bytes : List ℕ) → limit ≤ wide → HasWrongId limit id found wanted bytes → HasWrongId wide id found wanted bytes
wrong_wider limit wide id found wanted bytes fits wrong =
    let short = wrong.full.short in
    record {
      count = wrong.count;
      size = wrong.size;
      payload = wrong.payload;
      after = wrong.after;
      full = record { size_is = wrong.full.size_is; short = omega arith; bytes_are = wrong.full.bytes_are };
      header = wrong.header;
      wanted_is = wrong.wanted_is;
      other = wrong.other;
    }

-- packets that are in order have no wrong id, however long their message is
pub in_order : (id found wanted : ℕ) (message after bytes rest : List ℕ) → bytes ++ rest ≡ packets id message ++ after → IsWrong 67108864 id bytes (BadSequence found wanted) → ⊥
in_order id found wanted message after bytes rest same wrong =
    let wide = max 67108864 (length message) in
    let all : HasWrongId 67108864 id found wanted (bytes ++ rest) = wrong_after 67108864 id bytes rest (BadSequence found wanted) wrong in
    (one_front wide id (bytes ++ rest)).message_is_right found wanted message after
    (record { short = omega arith; bytes_are = same })
    (wrong_wider 67108864 wide id found wanted (bytes ++ rest) (omega arith) all)

by_size : (limit size : ℕ) → (size ≤ limit → ⊥) → limit < size
by_size limit size not = omega arith

-- a message that is announced as longer than the limit is
pub longer : (id size : ℕ) (message after bytes rest : List ℕ) → bytes ++ rest ≡ packets id message ++ after → IsWrong 67108864 id bytes (FrameTooLong size) → 67108864 < length message
longer id size message after bytes rest same long =
    let all : IsTooLong 67108864 id size (bytes ++ rest) = wrong_after 67108864 id bytes rest (FrameTooLong size) long in
    by_size 67108864 (length message) (λ short. (one_front 67108864 id (bytes ++ rest)).message_is_short size message after (record { short = short; bytes_are = same }) all)

-- a message of which so many bytes are only a part has more
pub unended : (limit id more : ℕ) (message after bytes rest : List ℕ) → bytes ++ rest ≡ packets id message ++ after → IsPart limit id more bytes → length bytes < 4 * packet_count (length message) + length message
unended limit id more message after bytes rest same part =
    let size = packets_length id message in
    by_size (length bytes) (4 * packet_count (length message) + length message)
    (λ fits. part_is_not_all limit id more message bytes (drop (length (packets id message)) bytes) (front_of bytes rest (packets id message) after same (omega arith)) part)
