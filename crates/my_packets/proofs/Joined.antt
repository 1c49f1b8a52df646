-- The payload of several packets is moved together.
use Rattle.std.proofs.Common.{◌≡◌, ◌<◌, ◌≤◌, ℕ, ◌+◌, ◌-◌, ◌*◌, ◌%◌, List, [], ◌++◌, take, drop, length, refl, sym, ap, ◌∙◌, arith, length-append, length-drop, append_assoc}
use Rattle.std.specs.List.{copy_within}
use Rattle.std.proofs.lemmas.List.{drop-drop, drop_at, take_at, take-take, drop-take, length-take-le, take-append-drop, append-nil}
use Rattle.my_packets.proofs.Packets.{last_packets, long_packets}
use Rattle.my_packets.specs.Joins.{Joins, IsClosed}
use Rattle.wire_forms.specs.Packet.{packet, next_id, packets, packet_count}

take_sum : (m n : ℕ) (bytes : List ℕ) → take (m + n) bytes ≡ take m bytes ++ take n (drop m bytes)
take_sum m n bytes =
    sym (take-append-drop m (take (m + n) bytes))
    ∙ ap (λ (l : List ℕ). l ++ drop m (take (m + n) bytes)) (take-take m (m + n) bytes (omega arith))
    ∙ ap (λ (l : List ℕ). take m bytes ++ l) (drop-take m n bytes)

-- what stands in front of the end of the copied bytes, and after it
module _ (now new : List ℕ) (from n to : ℕ) (new_is : new ≡ copy_within now from (from + n) to) (room : to + n ≤ length now) (there : from + n ≤ length now) where
  count_is : (from + n) - from ≡ n
  count_is = omega arith

  copied : new ≡ take to now ++ take n (drop from now) ++ drop (to + n) now
  copied = new_is ∙ ap (λ (k : ℕ). take to now ++ take k (drop from now) ++ drop (to + k) now) count_is

  front_length : length (take to now ++ take n (drop from now)) ≡ to + n
  front_length =
      let all = length-append (take to now) (take n (drop from now)) in
      let front = length-take-le to now (omega arith) in
      let left = length-drop from now in
      let piece = length-take-le n (drop from now) (omega arith) in
      omega arith

  pub copied_front : take (to + n) new ≡ take to now ++ take n (drop from now)
  copied_front = ap (λ (l : List ℕ). take (to + n) l) copied ∙ take_at (take to now ++ take n (drop from now)) (drop (to + n) now) (to + n) front_length

  pub copied_after : (m : ℕ) → to + n ≤ m → drop m new ≡ drop m now
  copied_after m past =
      let place : (to + n) + (m - (to + n)) ≡ m = omega arith in
      let rest : drop (to + n) new ≡ drop (to + n) now = ap (λ (l : List ℕ). drop (to + n) l) copied ∙ drop_at (take to now ++ take n (drop from now)) (drop (to + n) now) (to + n) front_length in
      ap (λ (k : ℕ). drop k new) (sym place) ∙ sym (drop-drop (m - (to + n)) (to + n) new)
      ∙ ap (λ (l : List ℕ). drop (m - (to + n)) l) rest
      ∙ drop-drop (m - (to + n)) (to + n) now ∙ ap (λ (k : ℕ). drop k now) place

-- so much is moved: what is left of the message begins at a packet, and is to go to its place
pub record Closing (end : ℕ) (message after old : List ℕ) (to at left : ℕ) (now : List ℕ) : Type 0 where
  pub id : ℕ
  pub done : List ℕ
  pub rest : List ℕ
  pub whole : done ++ rest ≡ message
  pub size_is : length rest ≡ left
  pub front_is : take to now ≡ take end old ++ done
  pub later_is : drop at now ≡ packets id rest ++ after

pub closing_start : (end id : ℕ) (message after old : List ℕ) (size : ℕ) → drop end old ≡ packets id message ++ after → size ≡ length message → Closing end message after old end end size old
closing_start end id message after old size bytes_are size_is = record {
  id = id;
  done = [];
  rest = message;
  whole = refl;
  size_is = sym size_is;
  front_is = sym (append-nil (take end old));
  later_is = bytes_are;
}

-- what the packet at `at` is, after its header
after_header : (at id : ℕ) (now piece rest : List ℕ) → drop at now ≡ packet id piece ++ rest → drop (at + 4) now ≡ piece ++ rest
after_header at id now piece rest bytes_are = sym (drop-drop 4 at now) ∙ ap (λ (l : List ℕ). drop 4 l) bytes_are

module _ (end : ℕ) (message after old : List ℕ) (to at left : ℕ) (now new : List ℕ) (closing : Closing end message after old to at left now) (order : to ≤ at) where
  pub closing_more : 16777215 ≤ left → new ≡ copy_within now (at + 4) (at + 4 + 16777215) to → at + 4 + 16777215 ≤ length now → Closing end message after old (to + 16777215) (at + 16777219) (left - 16777215) new
  closing_more long new_is there =
      let rest = closing.rest in
      let size_is = closing.size_is in
      let piece = take 16777215 rest in
      let later = drop 16777215 rest in
      let one : length piece ≡ 16777215 = length-take-le 16777215 rest (omega arith) in
      let more : length later ≡ length rest - 16777215 = length-drop 16777215 rest in
      let id = closing.id in
      let tail = packets (next_id id) later ++ after in
      let parts : drop at now ≡ packet (id % 256) piece ++ tail =
      closing.later_is ∙ ap (λ (l : List ℕ). l ++ after) (long_packets id rest (omega arith)) ∙ append_assoc (packet (id % 256) piece) (packets (next_id id) later) after in
      let body : drop (at + 4) now ≡ piece ++ tail = after_header at (id % 256) now piece tail parts in
      let moved : take 16777215 (drop (at + 4) now) ≡ piece = ap (λ (l : List ℕ). take 16777215 l) body ∙ take_at piece tail 16777215 one in
      let front : take (to + 16777215) new ≡ take to now ++ take 16777215 (drop (at + 4) now) = copied_front now new (at + 4) 16777215 to new_is (omega arith) there in
      let past : drop (at + 16777219) new ≡ drop (at + 16777219) now = copied_after now new (at + 4) 16777215 to new_is (omega arith) there (at + 16777219) (omega arith) in
      let place : at + 16777219 ≡ (at + 4) + 16777215 = omega arith in
      record {
        id = next_id id;
        done = closing.done ++ piece;
        rest = later;
        whole = append_assoc closing.done piece later ∙ ap (λ (l : List ℕ). closing.done ++ l) (take-append-drop 16777215 rest) ∙ closing.whole;
        size_is = omega arith;
        front_is = front ∙ ap (λ (l : List ℕ). take to now ++ l) moved ∙ ap (λ (l : List ℕ). l ++ piece) closing.front_is ∙ append_assoc (take end old) closing.done piece;
        later_is = past ∙ ap (λ (k : ℕ). drop k now) place ∙ sym (drop-drop 16777215 (at + 4) now) ∙ ap (λ (l : List ℕ). drop 16777215 l) body ∙ drop_at piece tail 16777215 one;
      }

  pub closing_end : end ≤ length old → left < 16777215 → new ≡ copy_within now (at + 4) (at + 4 + left) to → at + 4 + left ≤ length now → to + left ≡ end + length message → at + 4 + left ≡ end + length message + 4 * packet_count (length message) → IsClosed end message after old new
  closing_end inside short new_is there to_is at_is =
      let rest = closing.rest in
      let size_is : length rest ≡ left = closing.size_is in
      let id = closing.id in
      let parts : drop at now ≡ packet (id % 256) rest ++ after = closing.later_is ∙ ap (λ (l : List ℕ). l ++ after) (last_packets id rest (omega arith)) in
      let body : drop (at + 4) now ≡ rest ++ after = after_header at (id % 256) now rest after parts in
      let moved : take left (drop (at + 4) now) ≡ rest = ap (λ (l : List ℕ). take left l) body ∙ take_at rest after left size_is in
      let front : take (to + left) new ≡ take end old ++ message =
      copied_front now new (at + 4) left to new_is (omega arith) there
      ∙ ap (λ (l : List ℕ). take to now ++ l) moved ∙ ap (λ (l : List ℕ). l ++ rest) closing.front_is
      ∙ append_assoc (take end old) closing.done rest ∙ ap (λ (l : List ℕ). take end old ++ l) closing.whole in
      let all : take (end + length message) new ≡ take end old ++ message = ap (λ (k : ℕ). take k new) (sym to_is) ∙ front in
      let end_fits : length (take end old) ≡ end = length-take-le end old inside in
      let past : drop (at + 4 + left) new ≡ drop (at + 4 + left) now = copied_after now new (at + 4) left to new_is (omega arith) there (at + 4 + left) (omega arith) in
      let count : (end + length message) - end ≡ length message = omega arith in
      record {
        front_is = sym (take-take end (end + length message) new (omega arith)) ∙ ap (λ (l : List ℕ). take end l) all ∙ take_at (take end old) message end end_fits;
        message_is = ap (λ (k : ℕ). take k (drop end new)) count ∙ sym (drop-take end (length message) new) ∙ ap (λ (l : List ℕ). drop end l) all ∙ drop_at (take end old) message end end_fits;
        after_is = ap (λ (k : ℕ). drop k new) (sym at_is) ∙ past ∙ sym (drop-drop left (at + 4) now) ∙ ap (λ (l : List ℕ). drop left l) body ∙ drop_at rest after left size_is;
      }

-- a message of one packet stands together
pub joins_short : (from id size : ℕ) (message after store : List ℕ) → drop from store ≡ packets id message ++ after → size ≡ length message → size < 16777215 → Joins from message after store
joins_short from id size message after store bytes_are size_is short =
    let parts : drop from store ≡ packet (id % 256) message ++ after = bytes_are ∙ ap (λ (l : List ℕ). l ++ after) (last_packets id message (omega arith)) in
    let body : drop (from + 4) store ≡ message ++ after = after_header from (id % 256) store message after parts in
    let count : (from + 4 + length message) - (from + 4) ≡ length message = omega arith in
    let place : from + length message + 4 * packet_count (length message) ≡ (from + 4) + length message = omega arith in
    record {
      message_is = ap (λ (k : ℕ). take k (drop (from + 4) store)) count ∙ ap (λ (l : List ℕ). take (length message) l) body ∙ take_at message after (length message) refl;
      after_is = ap (λ (k : ℕ). drop k store) place ∙ sym (drop-drop (length message) (from + 4) store) ∙ ap (λ (l : List ℕ). drop (length message) l) body ∙ drop_at message after (length message) refl;
    }

-- a longer message, of which the packets after the first were moved
module _ (from id size : ℕ) (message after store : List ℕ) (bytes_are : drop from store ≡ packets id message ++ after) (size_is : size ≡ length message) (long : 16777215 ≤ size) where
  first_piece : List ℕ
  first_piece = take 16777215 message

  later_piece : List ℕ
  later_piece = drop 16777215 message

  body_is : drop (from + 4) store ≡ take 16777215 message ++ (packets (next_id id) (drop 16777215 message) ++ after)
  body_is =
      after_header from (id % 256) store (take 16777215 message) (packets (next_id id) (drop 16777215 message) ++ after)
      (bytes_are ∙ ap (λ (l : List ℕ). l ++ after) (long_packets id message (omega arith)) ∙ append_assoc (packet (id % 256) (take 16777215 message)) (packets (next_id id) (drop 16777215 message)) after)

  first_length : length (take 16777215 message) ≡ 16777215
  first_length = length-take-le 16777215 message (omega arith)

  pub later_packets : drop (from + 4 + 16777215) store ≡ packets (next_id id) (drop 16777215 message) ++ after
  later_packets =
      sym (drop-drop 16777215 (from + 4) store) ∙ ap (λ (l : List ℕ). drop 16777215 l) body_is
      ∙ drop_at (take 16777215 message) (packets (next_id id) (drop 16777215 message) ++ after) 16777215 first_length

  pub later_length : size - 16777215 ≡ length (drop 16777215 message)
  later_length = let left = length-drop 16777215 message in omega arith

  pub joins_long : (new : List ℕ) → IsClosed (from + 4 + 16777215) (drop 16777215 message) after store new → Joins from message after new
  joins_long new closed =
      let end = from + 4 + 16777215 in
      let later = drop 16777215 message in
      let left : length later ≡ length message - 16777215 = length-drop 16777215 message in
      let count : (from + 4 + length message) - (from + 4) ≡ 16777215 + length later = omega arith in
      let ends : (end + length later) - end ≡ length later = omega arith in
      let place : from + length message + 4 * packet_count (length message) ≡ end + length later + 4 * packet_count (length later) = omega arith in
      let first : take 16777215 (drop (from + 4) new) ≡ take 16777215 message =
      sym (drop-take (from + 4) 16777215 new) ∙ ap (λ (l : List ℕ). drop (from + 4) l) closed.front_is
      ∙ drop-take (from + 4) 16777215 store ∙ ap (λ (l : List ℕ). take 16777215 l) body_is
      ∙ take_at (take 16777215 message) (packets (next_id id) later ++ after) 16777215 first_length in
      let second : take (length later) (drop 16777215 (drop (from + 4) new)) ≡ later =
      ap (λ (l : List ℕ). take (length later) l) (drop-drop 16777215 (from + 4) new)
      ∙ ap (λ (k : ℕ). take k (drop end new)) (sym ends) ∙ closed.message_is in
      record {
        message_is = ap (λ (k : ℕ). take k (drop (from + 4) new)) count ∙ take_sum 16777215 (length later) (drop (from + 4) new)
            ∙ ap (λ (l : List ℕ). l ++ take (length later) (drop 16777215 (drop (from + 4) new))) first
            ∙ ap (λ (l : List ℕ). take 16777215 message ++ l) second ∙ take-append-drop 16777215 message;
        after_is = ap (λ (k : ℕ). drop k new) place ∙ closed.after_is;
      }
